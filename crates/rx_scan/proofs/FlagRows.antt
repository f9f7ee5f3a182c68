-- Flags, one by one.
use Rattle.std.proofs.Common.{◌≡◌, refl, ap, ◌∙◌, ℕ, arith, Bool, true, false, not, ◌==◌, ◌&&◌, ◌||◌, List, [], ◌∷◌, ◌++◌}
use Rattle.std.proofs.lemmas.Bool.{and_parts}
use Rattle.std.proofs.lemmas.Bool.Decides.{nat_tests}
use Rattle.std.proofs.lemmas.List.Folds.{list_any-append}
use Rattle.std.specs.List.{list_any}
use Rattle.rx_base.specs.Flags.{holds, is_flag}
use Rattle.rx_units.specs.declared.code_point.CodePoint.{CodePoint}
use Rattle.rx_units.specs.Units.{values}
use Rattle.rx_model.specs.Inputs.Flags.{flags_ok, are_distinct_flags, mode_of, modes_of}
use Rattle.std.specs.Prelude.{if◌then◌else◌}
use Rattle.rx_model.specs.declared.mode.Mode.TheVariants.{Legacy, Unicode, Sets}
use Rattle.rx_model.specs.Inputs.Environment.{is_sets, is_unicode}

pub holds_values : (us : List CodePoint) (v : ℕ) → list_any (λ unit. unit.value == v) us ≡ holds (values us) v
holds_values [] v = refl
holds_values (u ∷ us) v = ap (λ b. u.value == v || b) (holds_values us v)

or_none : (b c : Bool) → (b || (c || false)) ≡ (b || c)
or_none true c = refl
or_none false true = refl
or_none false false = refl

pub holds_push : (vs : List ℕ) (f g : ℕ) → holds (vs ++ (f ∷ [])) g ≡ (holds vs g || f == g)
holds_push vs f g = list_any-append (λ v. v == g) vs (f ∷ []) ∙ or_none (holds vs g) (f == g)

equal_sym : (f g : ℕ) → (f == g) ≡ (g == f)
equal_sym f g = grind (arith, nat_tests)

flag_alone : (b : Bool) → ((b && true) && true) ≡ (b && true)
flag_alone true = refl
flag_alone false = refl

regroup : (a h e d b k : Bool) → ((a && not (h || e)) && (d && (b && not k))) ≡ (((a && not h) && d) && (b && not (e || k)))
regroup false h e d b k = refl
regroup true true e d b k = refl
regroup true false true false b k = refl
regroup true false true true false k = refl
regroup true false true true true k = refl
regroup true false false d b k = refl

pub distinct_push : (vs : List ℕ) (f : ℕ) → are_distinct_flags (vs ++ (f ∷ [])) ≡ (are_distinct_flags vs && (is_flag f && not (holds vs f)))
distinct_push [] f = flag_alone (is_flag f)
distinct_push (g ∷ vs) f =
    rw (holds_push vs f g, distinct_push vs f, equal_sym f g)
    (regroup (is_flag g) (holds vs g) (g == f) (are_distinct_flags vs) (is_flag f) (holds vs f))

-- flags with one more
pub flags_push : (vs : List ℕ) (f : ℕ) → flags_ok vs ≡ true →
    flags_ok (vs ++ (f ∷ [])) ≡ ((is_flag f && not (holds vs f)) && not (holds (vs ++ (f ∷ [])) 117 && holds (vs ++ (f ∷ [])) 118))
flags_push vs f passed =
    let distinct = (and_parts (are_distinct_flags vs) (not (holds vs 117 && holds vs 118)) passed).0 in
    rw (distinct_push vs f, distinct) refl

by_tests : (v u : Bool) (modes : Bool × Bool) → modes ≡ (is_unicode (if v then Sets else (if u then Unicode else Legacy)), is_sets (if v then Sets else (if u then Unicode else Legacy))) → modes ≡ (v || u, v)
by_tests true u modes e = e
by_tests false true modes e = e
by_tests false false modes e = e

-- what the mode tells of the flags that ask for it
pub modes_by_mode : (fs : List ℕ) (modes : Bool × Bool) → modes ≡ (is_unicode (mode_of fs), is_sets (mode_of fs)) → modes ≡ modes_of fs
modes_by_mode fs modes e = by_tests (holds fs 118) (holds fs 117) modes e
