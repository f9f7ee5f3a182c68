-- The pace of a reader in a class with `v`: how much is left where it moved, and how few steps were taken to look at what it moved over.
use Rattle.std.proofs.Common.{◌≡◌, refl, sym, ap, ◌∙◌, subst, ℕ, ◌+◌, ◌*◌, ◌≤◌, ◌==◌, true, All, Result, Ok, Err, List, [], ◌∷◌, length, arith, length-drop}
use Rattle.rx_class.proofs.Common.{cond-true, cond_both, All-tail, CharacterKind, Rises, CodePoint, Cursor, move_on, rest, TakesSteps, units_left, values, character, Environment, atom_some}
use Rattle.rx_class.proofs.Common.{ClassBuilder, SetCharacter, seen_character, AddsToSets, most_front_looks, most_set_looks, starts}
use Rattle.rx_model.specs.Characters.EscapeFronts.{EscapeRead, escaped, nothing, too_many}
use Rattle.rx_model.specs.Classes.ClassRows.{is_dashed}
use Rattle.rx_class.specs.SetReading.Fronts.{FrontRead, StandsFront, character_front, character_next, range_end_at, set_character_at, set_front_at}
use Rattle.rx_class.specs.SetReading.Steps.{TakesStepsAfter, most_after_backslash, most_end_looks, most_front_after}
use Rattle.rx_class.proofs.Keeping.{passes_moved}
use Rattle.rx_class.proofs.ReadingSteps.{moved_left}
use Rattle.rx_class.proofs.SetReading.Characters.{range_end_is, set_character_spelled, set_character_within, set_too_many_within, with_v}
use Rattle.rx_class.proofs.SetReading.Fronts.{stands}

pub adds_left : {e : Environment} {added : ℕ} {old new : Cursor} {before after : ClassBuilder} → AddsToSets e added old new before after → units_left new ≤ units_left old
adds_left {e} {added} {old} {new} a =
    let keeps = a.keeps in
    omega (arith, a.goes_on, keeps.within, ap (λ (r : Cursor). length r.units) keeps.same, length-drop new.place new.units, length-drop old.place old.units)

-- The bound is met where it is met after a backslash.
looks_below : (us : List CodePoint) (read : EscapeRead) (n : ℕ) → ((units : ℕ) → units ≤ length us → most_after_backslash units read ≤ n) → most_set_looks us read ≤ n
looks_below [] read n h = omega arith
looks_below (u ∷ us) read n h = cond_both (u.value == 92) _ _ (λ most. most ≤ n) (λ is. h (length us) (omega arith)) (λ other. omega arith)

after_fits : (us : List CodePoint) (read : EscapeRead) → set_character_at us ≡ read → (units : ℕ) → units ≤ length us → most_after_backslash units read ≤ length us + 3
after_fits us (escaped k v n) h units few = omega (arith, set_character_within us h)
after_fits us (too_many n) h units few = omega (arith, set_too_many_within with_v refl us n h)
after_fits us read h units few = omega arith

-- Whatever is found, not many more steps are taken than units are left.
pub looks_fit : (us : List CodePoint) (read : EscapeRead) → set_character_at us ≡ read → most_set_looks us read ≤ length us + 3
looks_fit us read h = looks_below us read (length us + 3) (after_fits us read h)

-- So few steps are taken to look at a character over which the reader moves then.
pub character_left : (old new : Cursor) {k : CharacterKind} {v n : ℕ} → set_character_at (rest old) ≡ escaped k v n → new ≡ move_on n old → most_set_looks (rest old) (escaped k v n) + 5 * units_left new ≤ 5 * units_left old
character_left old new {k} {v} {n} h moves =
    let f = set_character_spelled with_v refl k v n (rest old) h in
    let positive = atom_some with_v (character k v) f.w f.rest f.spelled in
    let left = moved_left n old new moves (set_character_within (rest old) h) in
    let few : most_set_looks (rest old) (escaped k v n) ≤ n + 3 = looks_below (rest old) (escaped k v n) (n + 3) (λ units some. omega arith) in
    omega (arith, few, positive, f.count, left)

-- after a backslash, which units begin with
module _ (n : ℕ) {w : List ℕ} where
  pub backslash_looks : (us : List CodePoint) (read : EscapeRead) → values us ≡ 92 ∷ w → length us ≡ n + 1 → most_set_looks us read ≡ most_after_backslash n read
  backslash_looks [] read is more = absurd (omega arith)
  backslash_looks (u ∷ us) read is more =
      cond-true (u.value == 92) _ _ (ap (starts 92) is) ∙ ap (λ units. most_after_backslash units read) (let same : length us ≡ n = omega arith in same)

  pub backslash_front_looks : (us : List CodePoint) (read : FrontRead) → values us ≡ 92 ∷ w → length us ≡ n + 1 → most_front_looks us read ≡ most_front_after n read
  backslash_front_looks us (character_next read) is more = backslash_looks us read is more
  backslash_front_looks us read is more = refl

-- What is found is a front.
pub front_looks : (us : List CodePoint) (read : EscapeRead) → most_front_looks us (character_front read) ≡ most_set_looks us read
front_looks us (escaped k v n) = refl
front_looks (u ∷ us) nothing = cond_both (u.value == 92) _ _ (λ most. 0 ≡ most) (λ is. refl) (λ other. refl)
front_looks us read = refl

-- Whatever stands at the front, not many more steps are taken than units are left.
pub front_fits : (us : List CodePoint) (read : FrontRead) → read ≡ set_front_at us → most_front_looks us read ≤ length us + 3
front_fits us read h = by read (subst (StandsFront us) (sym h) (stands us))
  where
    by : (read : FrontRead) → StandsFront us read → most_front_looks us read ≤ length us + 3
    by (character_next read) stands = looks_fit us read stands.0
    by read stands = omega arith

-- The end of a range is looked at after its `-`, over which the reader moves first.
pub record IsOverDash (us : List CodePoint) (old new : Cursor) (read : EscapeRead) : Type 0 where
  pub dashed : is_dashed (values (rest old)) ≡ true
  pub found : set_character_at (rest new) ≡ read
  pub looks : most_end_looks us read ≡ most_set_looks (rest new) read
  pub left : units_left old ≡ units_left new + 1
  pub code_points : All (λ unit. unit.value ≤ 0x10FFFF) (rest new)

pub over_dash : (us : List CodePoint) (old new : Cursor) (it : SetCharacter) → us ≡ rest old → All (λ unit. unit.value ≤ 0x10FFFF) us → range_end_at us ≡ seen_character it → new ≡ move_on 1 old → IsOverDash us old new (seen_character it)
over_dash us old new it here all read moves =
    let f = range_end_is us it read in
    let after = (passes_moved old new (f.hyphen ∷ []) f.more (sym here ∙ f.whole) (omega arith) moves).1 in
    record {
      dashed = ap (λ us. is_dashed (values us)) (sym here) ∙ f.dashed;
      found = ap set_character_at after ∙ f.following;
      looks = ap (λ us. most_end_looks us (seen_character it)) f.whole ∙ ap (λ us. most_set_looks us (seen_character it)) (sym after);
      left = omega (arith, ap length here, ap length f.whole, ap length after);
      code_points = subst (All (λ unit. unit.value ≤ 0x10FFFF)) (sym after) (All-tail (λ (unit : CodePoint). unit.value ≤ 0x10FFFF) f.hyphen f.more (subst (All (λ unit. unit.value ≤ 0x10FFFF)) f.whole all));
    }

module _ {A E : Type 0} (old mid new : ℕ) where
  -- Steps that were taken before a call, and those before it.
  pub after_steps : (before following : ℕ) (from on to : Cursor) (result : Result A E) → old + units_left from ≤ mid + units_left on → before + mid + 6 * units_left on ≤ old + 6 * units_left from + following →
      TakesStepsAfter following 6 mid new on to result → TakesStepsAfter before 6 old new from to result
  after_steps before following from on to (Ok it) least most h = (omega (arith, h.0), omega (arith, h.1))
  after_steps before following from on to (Err e) least most h = omega (arith, h)

  -- A call to which so few looks belong keeps the pace with them.
  pub with_looks : (looks : ℕ) (from to : Cursor) (result : Result A E) → old ≤ mid → mid ≤ old + looks → TakesStepsAfter looks 6 mid new from to result → TakesSteps 6 old new from to result
  with_looks looks from to (Ok it) least most h = (omega (arith, h.0), omega (arith, h.1))
  with_looks looks from to (Err e) least most h = omega (arith, h)

-- Where no step was taken the count is what it was.
pub no_steps : (old new : ℕ) → Rises old new 0 0 → old ≡ new
no_steps old new none = omega (arith, none.0, none.1)
