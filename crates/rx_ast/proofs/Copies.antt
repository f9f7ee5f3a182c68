-- Copies that were put in a box.
use Rattle.std.proofs.Common.{◌≡◌, ap, ◌∙◌, Result, Ok, Err}
use Rattle.std.specs.Prelude.{IfOk, IsOkAnd}

-- The value in the box is the copy, and so it has the mirror that the copy has.
pub boxed_copy : {A B E : Type 0} (mirror : A → B) {wanted : B} {value : A} (copy : Result A E) → IsOkAnd copy (λ it. value ≡ it) → IfOk copy (λ it. mirror it ≡ wanted) → mirror value ≡ wanted
boxed_copy mirror (Ok it) same is = ap mirror same ∙ is
boxed_copy mirror (Err e) same is = absurd same
