-- That a text is written.
use Rattle.std.specs.Prelude.{ℕ, List}
use Rattle.std.specs.Fmt.{HasWritten}
use Rattle.std.specs.Str.{encode_utf8_all}
use Rattle.std.specs.declared.fmt.Formatter.{Formatter}

-- The formatter g is f after a text was written. `took` is the relation of the writer.
abbrev pub writes : {W : Type 0} → (W → List ℕ → W → Type 0) → Formatter W → List ℕ → Formatter W → Type 0
writes took f text g = HasWritten took f (encode_utf8_all text) g
