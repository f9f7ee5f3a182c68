-- The lines of the input.
use Rattle.std.specs.Prelude.{ℕ, Bool, not, ◌==◌, List, [], ◌∷◌, if◌then◌else◌}
use Rattle.std.specs.List.{list_all}
use Rattle.rx_base.specs.Ascii as ascii

-- one more byte at the front of the first line
unfoldable pub begin_line : ℕ → List (List ℕ) → List (List ℕ)
begin_line byte [] = (byte ∷ []) ∷ []
begin_line byte (line ∷ lines) = (byte ∷ line) ∷ lines

-- The input is cut at each LF, and a last piece that is not empty is a line too.
unfoldable pub lines_of : List ℕ → List (List ℕ)
lines_of [] = []
lines_of (byte ∷ bytes) = if byte == ascii.line_feed then [] ∷ lines_of bytes else begin_line byte (lines_of bytes)

-- the byte does not occur
unfoldable pub lacks : ℕ → List ℕ → Bool
lacks byte bytes = list_all (λ b. not (b == byte)) bytes
