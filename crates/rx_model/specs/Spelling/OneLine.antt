-- Texts that stand in one line of columns.
use Rattle.std.specs.Prelude.{◌≡◌, ◌≢◌, ℕ, Bool, false, ◌==◌, ◌||◌, List, [], All}
use Rattle.rx_base.specs.Ascii as ascii

-- a tab, or what ends a line (LineTerminator, 12.3): line feed, carriage return, line separator, paragraph separator
abbrev pub ends_column : ℕ → Bool
ends_column c = c == ascii.tab || c == ascii.line_feed || c == ascii.carriage_return || c == 0x2028 || c == 0x2029

-- The text is not empty, and stands in one column of one line.
pub record IsOneLine (text : List ℕ) : Type 0 where
  pub some : text ≢ []
  pub stays : All (λ c. ends_column c ≡ false) text
