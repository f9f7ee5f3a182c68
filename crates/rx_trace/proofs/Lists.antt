-- A list with one more at the end.
use Rattle.std.proofs.Common.{◌≡◌, ap, ◌∙◌, suc, List, [], ◌∷◌, ◌++◌, length, reverse, arith, length-append}
use Rattle.std.proofs.lemmas.List.{reverse-append}

pub reverse-last : {A : Type 0} (before between : List A) (x : A) → before ≡ between ++ (x ∷ []) → reverse before ≡ x ∷ reverse between
reverse-last before between x is = ap reverse is ∙ reverse-append between (x ∷ [])

pub length-last : {A : Type 0} (before between : List A) (x : A) → before ≡ between ++ (x ∷ []) → length before ≡ suc (length between)
length-last before between x is = let e = ap length is ∙ length-append between (x ∷ []) in omega arith
