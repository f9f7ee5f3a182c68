-- The code points of code units: where they end, and what holds of each.
use Rattle.std.proofs.Common.{◌≡◌, ℕ, ◌≤◌, true, ◌&&◌, List, [], ◌∷◌, arith}
use Rattle.rx_units.proofs.Common.{nat_tests, cond_both, All-cons, All-head, All-tail, All, is_lead, is_trail, CodePoint, AreEnds, code_points, pair}
use Rattle.rx_base.specs.SurrogatePair.{surrogate_pair}

-- Each ends where a unit did.
pub ends_joined : (text : List ℕ) (first : ℕ) (us : List CodePoint) → AreEnds text first us → AreEnds text first (code_points us)
ends_joined text first [] ends = tt
ends_joined text first (u ∷ []) ends = ends
ends_joined text first (u ∷ v ∷ us) ends =
    cond_both (is_lead u.value && is_trail v.value) (pair u v ∷ code_points us) (u ∷ code_points (v ∷ us)) (AreEnds text first)
    (λ h. (omega (arith, ends.0, ends.2.0), ends.2.1, ends_joined text v.span.end us ends.2.2)) (λ h. (ends.0, ends.1, ends_joined text u.span.end (v ∷ us) ends.2))

-- What holds of units and of pairs holds of all.
module _ (P : CodePoint → Type 0) (both : (u v : CodePoint) → (is_lead u.value && is_trail v.value) ≡ true → P (pair u v)) where
  pub all_joined : (us : List CodePoint) → All P us → All P (code_points us)
  all_joined (u ∷ v ∷ us) all =
      cond_both (is_lead u.value && is_trail v.value) (pair u v ∷ code_points us) (u ∷ code_points (v ∷ us)) (All P)
      (λ h. All-cons P (pair u v) (code_points us) (both u v h) (all_joined us (All-tail P v us (All-tail P u (v ∷ us) all))))
      (λ h. All-cons P u (code_points (v ∷ us)) (All-head P u (v ∷ us) all) (all_joined (v ∷ us) (All-tail P u (v ∷ us) all)))
  all_joined us all = all

pub pair_small : (u v : CodePoint) → (is_lead u.value && is_trail v.value) ≡ true → surrogate_pair u.value v.value ≤ 0x10FFFF
pair_small u v h = grind (arith, nat_tests, h)
