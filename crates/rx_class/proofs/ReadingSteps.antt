-- How many steps it takes to look at what stands next, and to move over it.
use Rattle.std.proofs.Common.{◌≡◌, ℕ, ◌+◌, ◌*◌, ◌≤◌, Bool, true, false, if◌then◌else◌, Option, Result, List, length, refl, ap, ◌∙◌, arith, length-drop}
use Rattle.rx_class.proofs.Common.{Diagnostic, Rises, Character, CodePoint, Cursor, move_on, rest, IsPaced, units_left, AnswersFound, IsWithin, many_digits}
use Rattle.rx_class.proofs.Common.{no_escape_of_u, seen_escape, IsReading, EscapeFound}
use Rattle.rx_units.specs.Pace.{IsMove}
use Rattle.rx_model.specs.Reading.Fronts.{EscapeRead}
use Rattle.rx_class.specs.EscapeReading.Steps.{few_looks}
use Rattle.rx_class.specs.EscapeReading.Found.{none, some}
use Rattle.rx_class.specs.declared.escapes.found.EscapeFound.TheVariants as found

-- A reader that moves on has no more before it than it had.
pub no_more : (n : ℕ) (old new : Cursor) → new ≡ move_on n old → units_left new ≤ units_left old
no_more n old new is =
    let place = ap (λ (r : Cursor). r.place) is in
    let units = ap (λ (r : Cursor). length r.units) is in
    omega (arith, length-drop old.place old.units, length-drop new.place new.units, place, units)

-- The units that it moved over it has no more before it.
pub moved_left : (n : ℕ) (old new : Cursor) → new ≡ move_on n old → n ≤ units_left old → units_left new + n ≡ units_left old
moved_left n old new is within =
    let place = ap (λ (r : Cursor). r.place) is in
    let units = ap (λ (r : Cursor). length r.units) is in
    omega (arith, length-drop old.place old.units, length-drop new.place new.units, place, units, within)

-- Looks at n units, at most five for each of them, and a move over them keep the pace.
pub looked_then_moved : (n : ℕ) (old new : Cursor) (a b c : ℕ) → n ≤ units_left old → new ≡ move_on n old → a ≤ b → b ≤ a + 5 * n → IsMove b c old new → IsPaced 6 a c old new
looked_then_moved n old new a b c within is least most moves =
    let less = moved_left n old new is within in
    (omega (arith, less, moves, least), omega (arith, less, moves, most))

pub only_moved : (n : ℕ) (old new : Cursor) (a b : ℕ) → new ≡ move_on n old → IsMove a b old new → IsPaced 6 a b old new
only_moved n old new a b is moves = let less = no_more n old new is in (omega (arith, less, moves), omega (arith, less, moves))

-- One unit is moved over, or none.
pub eaten_paced : (eaten : Bool) (old new : Cursor) (a b : ℕ) → new ≡ (if eaten then move_on 1 old else old) → IsMove a b old new → IsPaced 6 a b old new
eaten_paced true old new a b is moves = only_moved 1 old new a b is moves
eaten_paced false old new a b is moves = (omega (arith, ap units_left is, moves), omega (arith, ap units_left is, moves))

module _ (added start : ℕ) (old new : Cursor) (a b c : ℕ) (moves : IsMove b c old new) where
  -- What was found by looking is answered, and moved over.
  by : (read : EscapeRead) (answer : EscapeFound) (result : Result (Option Character) Diagnostic) → AnswersFound added start old new read result → read ≡ seen_escape answer
      → IsWithin (units_left old) answer → Rises a b 0 (few_looks (units_left old) answer) → IsReading 6 a c old new result
  by _ (found.Character kind v n) _ (some {it} {count} small span is) e within rises =
      let same : count ≡ n = cc e in
      looked_then_moved n old new a b c within.0 (is ∙ ap (λ n. move_on n old) same) (omega (arith, rises.0)) (omega (arith, rises.1)) moves
  by _ found.Nothing _ (none is) e within rises = let same = ap units_left is in omega (arith, same, moves, rises)
  by _ (found.TooMany n) _ (many_digits keeps) e within rises = omega (arith, moves, rises, within)
  by _ found.Invalid _ (no_escape_of_u keeps) e within rises = omega (arith, moves, rises)
  by _ answer _ answers e within rises = absurd (let no : ⊥ = cc e in no)

  pub found_reading : (units : List CodePoint) (answer : EscapeFound) (result : Result (Option Character) Diagnostic) → units ≡ rest old → AnswersFound added start old new (seen_escape answer) result
      → IsWithin (length units) answer → Rises a b 0 (few_looks (length units) answer) → IsReading 6 a c old new result
  found_reading units answer result same answers within rises =
      let there = rw same at within in
      let few = rw same at rises in
      by (seen_escape answer) answer result answers refl there few
