-- What was written of a text that is written at once.
use Rattle.std.specs.Prelude.{ℕ, List, Option}
use Rattle.std.specs.Io.KnownBytes.{Appends}
use Rattle.rx_base.specs.Writing.{AppendsFront}

-- A text of which P holds was written whole.
pub record IsPrinted (P : List ℕ → Type 0) (taken taken' : Option (List ℕ)) : Type 0 where
  pub text : List ℕ
  pub text_is : P text
  pub appended : Appends taken taken' text

-- Only a front of a text of which P holds was written, of which at least one byte is missing.
pub record IsPrintBegun (P : List ℕ → Type 0) (taken taken' : Option (List ℕ)) : Type 0 where
  pub text : List ℕ
  pub text_is : P text
  pub part : AppendsFront taken taken' text
