-- Readers that have moved on.
use Rattle.std.proofs.Common.{◌≡◌, ap, sym, subst, ℕ, ◌+◌, ◌*◌, ◌≤◌, min, length, arith, length-drop, Option, Some, Ok}
use Rattle.rx_units.specs.Pace.{IsBounded, IsMove, IsPaced, units_left}
use Rattle.rx_class.specs.ReadingSteps.{IsReading}
use Rattle.rx_parser.proofs.Common.{Cursor, move_on}

-- how many units are left after n units
pub moved_left : (n : ℕ) (r s : Cursor) → s ≡ move_on n r → (units_left r ≤ units_left s + n) × (units_left s ≤ units_left r)
moved_left n r s is =
    subst (λ s. (units_left r ≤ units_left s + n) × (units_left s ≤ units_left r)) (sym is) (
      omega (arith, length-drop r.place r.units, length-drop (min (r.place + n) (length r.units)) r.units),
      omega (arith, length-drop r.place r.units, length-drop (min (r.place + n) (length r.units)) r.units),
    )

-- what is read keeps its pace
pub reading_paced : {A : Type 0} (E : Type 0) (most old new : ℕ) (from to : Cursor) (result : Option A) (it : A) → result ≡ Some it → IsReading {A = A} {E = E} most old new from to (Ok result) → IsPaced most old new from to
reading_paced {A} E most old new from to result it is h = subst (λ (r : Option A). IsReading {A = A} {E = E} most old new from to (Ok r)) is h

-- a unit, and what is read after it
module _ (old mid new : ℕ) (from one to : Cursor) (is : one ≡ move_on 1 from) (first : IsMove old mid from one) where
  pub next_paced : IsPaced 6 mid new one to → IsPaced 6 old new from to
  next_paced h = let left = moved_left 1 from one is in (omega (arith, first, h.0), omega (arith, first, h.1, left.1))

  pub next_bounded : IsBounded 6 mid new one → IsBounded 6 old new from
  next_bounded h = let left = moved_left 1 from one is in omega (arith, first, h, left.1)
