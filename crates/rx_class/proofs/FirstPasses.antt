-- What the first pass over a text leaves in the state.
use Rattle.std.proofs.Common.{◌≡◌, ap₂, sym, subst, ◌-◌, ◌^◌, ◌<◌, false, List, arith, Result, Ok, Err, OnOk, is_err, min}
use Rattle.rx_class.proofs.Common.{CodePoint, mode_by, State, HoldsFirstPass}
use Rattle.rx_model.specs.Refusals.Reached.{text_groups, text_names}
use Rattle.rx_scan.specs.StateFaults.{mode_of_state}

-- what holds of a call that did not fail
pub without_err : {T E P : Type 0} (r : Result T E) → is_err r ≡ false → OnOk r P → P
without_err (Ok it) no_err holds = holds
without_err (Err cause) no_err holds = absurd (let no : ⊥ = cc no_err in no)

-- Where the count did not stand still the state holds the pass.
pub holds_first_pass : (us : List CodePoint) (old new : State) → new.unicode_mode ≡ old.unicode_mode → new.unicode_sets_mode ≡ old.unicode_sets_mode
    → new.num_of_capturing_groups ≡ min (text_groups (mode_of_state old) us) (2 ^ 32 - 1) → new.capturing_group_names ≡ text_names (mode_of_state old) us
    → new.num_of_capturing_groups < 2 ^ 32 - 1 → HoldsFirstPass new us
holds_first_pass us old new same_u same_s groups names small =
    let same : mode_of_state old ≡ mode_of_state new = ap₂ mode_by (sym same_u) (sym same_s) in
    let counted : new.num_of_capturing_groups ≡ text_groups (mode_of_state old) us = omega (arith, groups, small) in
    record {
      groups = subst (λ mode. new.num_of_capturing_groups ≡ text_groups mode us) same counted;
      names = subst (λ mode. new.capturing_group_names ≡ text_names mode us) same names;
    }
