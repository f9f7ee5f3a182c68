-- The values of the units of a text, character by character.
use Rattle.std.proofs.Common.{◌≡◌, refl, ap, sym, ◌∙◌, ℕ, suc, ◌+◌, ◌<◌, Bool, true, false, ◌||◌, if◌then◌else◌, List, [], ◌∷◌, ◌++◌, append_assoc, length, get_or, drop, add-one}
use Rattle.std.proofs.Math.Seq.{drop-cons}
use Rattle.std.specs.Prelude.{nat_lt}
use Rattle.std.specs.Char.{len_utf8}
use Rattle.rx_units.specs.declared.code_point.CodePoint.{CodePoint}
use Rattle.rx_units.specs.declared.code_point.EscapeKind.{EscapeKind}
use Rattle.rx_units.specs.Units.{unit, lead_of, trail_of, character_units, literal_units, values}
use Rattle.rx_trace.specs.Units.{character_values, text_values}

values-append : (us vs : List CodePoint) → values (us ++ vs) ≡ values us ++ values vs
values-append [] vs = refl
values-append (u ∷ us) vs = ap (λ xs. u.value ∷ xs) (values-append us vs)

character-is : (joined : Bool) (start end c : ℕ) (k : EscapeKind) → values (character_units joined start end c k) ≡ character_values joined c
character-is joined start end c k = by_test (joined || nat_lt c 0x10000)
  where
    by_test : (b : Bool) → values (if b then unit start end c k ∷ [] else unit start end (lead_of c) k ∷ unit start end (trail_of c) k ∷ []) ≡ (if b then c ∷ [] else lead_of c ∷ trail_of c ∷ [])
    by_test true = refl
    by_test false = refl

pub values_are : (joined : Bool) (at : ℕ) (cs : List ℕ) → values (literal_units joined at cs) ≡ text_values joined cs
values_are joined at [] = refl
values_are joined at (c ∷ cs) =
    values-append (character_units joined at (at + len_utf8 c) c _) (literal_units joined (at + len_utf8 c) cs)
    ∙ ap (λ vs. vs ++ values (literal_units joined (at + len_utf8 c) cs)) (character-is joined at (at + len_utf8 c) c _) ∙ ap (λ vs. character_values joined c ++ vs) (values_are joined (at + len_utf8 c) cs)

-- one character more
pub units_on : (joined : Bool) (cs : List ℕ) (n c : ℕ) (old new all : List ℕ) → (n < length cs) × (c ≡ get_or cs n c) → old ++ text_values joined (drop n cs) ≡ all → new ≡ old ++ character_values joined c → new ++ text_values joined (drop (n + 1) cs) ≡ all
units_on joined cs n c old new all turn so_far pushed =
    let cut : drop n cs ≡ c ∷ drop (n + 1) cs = drop-cons cs n c turn.0 ∙ ap (λ x. x ∷ drop (suc n) cs) (sym turn.1) ∙ ap (λ k. c ∷ drop k cs) (sym (add-one n)) in
    ap (λ xs. xs ++ text_values joined (drop (n + 1) cs)) pushed ∙ append_assoc old (character_values joined c) (text_values joined (drop (n + 1) cs))
    ∙ ap (λ xs. old ++ xs) (ap (text_values joined) (sym cut)) ∙ so_far
