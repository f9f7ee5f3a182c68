-- What a reader of a whole text may add to its offsets.
use Rattle.std.proofs.Common.{◌≡◌, refl, sym, subst, ℕ, ◌+◌, ◌<◌, ◌^◌, arith, Bool, List, length, All}
use Rattle.rx_class.proofs.Common.{Cursor, move_on}
use Rattle.std.specs.Str.{chars, IsUtf8}
use Rattle.rx_units.specs.Units.{literal_units}
use Rattle.rx_scan.proofs.Fits.{literal_fits}
use Rattle.rx_class.specs.Fitting.{AreFitting}
use Rattle.rx_class.proofs.Fitting.{moved_are_fitting}

-- Each unit of a text ends within its bytes.
pub text_fits : (joined : Bool) (bytes : List ℕ) (added : ℕ) → IsUtf8 bytes → added + length bytes < 2 ^ 32
    → All (λ u. u.span.end + added < 2 ^ 32) (literal_units joined 0 (chars bytes))
text_fits joined bytes added utf8 fits = literal_fits bytes joined (literal_units joined 0 (chars bytes)) added (2 ^ 32) utf8 refl fits

-- a reader at the beginning of a text
abbrev pub reading_of : Bool → List ℕ → Cursor
reading_of joined bytes = record { units = literal_units joined 0 (chars bytes); place = 0; first = 0; text = bytes }

-- The offsets of a reader that was made of it fit,
pub made_are_fitting : (joined : Bool) (bytes : List ℕ) (added : ℕ) (r : Cursor) → IsUtf8 bytes → added + length bytes < 2 ^ 32 → r ≡ reading_of joined bytes → AreFitting added r
made_are_fitting joined bytes added r utf8 fits made =
    subst (AreFitting added) (sym made) record { first = omega (arith, fits); ends = text_fits joined bytes added utf8 fits }

-- and so do those of one that has moved since.
pub moved_on_are_fitting : (joined : Bool) (bytes : List ℕ) (added n : ℕ) (r s : Cursor) → IsUtf8 bytes → added + length bytes < 2 ^ 32 → r ≡ reading_of joined bytes
    → s ≡ move_on n r → AreFitting added s
moved_on_are_fitting joined bytes added n r s utf8 fits made on = moved_are_fitting added n r s (made_are_fitting joined bytes added r utf8 fits made) on
