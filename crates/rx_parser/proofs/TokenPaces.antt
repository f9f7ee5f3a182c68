-- A token that stands next is read at its pace, or the reading is bounded.
use Rattle.std.proofs.Common.{◌≡◌, ◌∙◌, ap, sym, ℕ, ◌+◌, ◌-◌, ◌*◌, ◌<◌, ◌≤◌, Bool, true, false, List, length, drop, min, arith, length-drop, Result, Ok, Err, MatchResult, OnOk}
use Rattle.std.proofs.lemmas.List.{drop-drop}
use Rattle.rx_units.specs.Pace.{IsMove, TakesSteps, units_left}
use Rattle.rx_parser.proofs.Common.{Rises, CodePoint, Cursor, HasMore, HasTurned, IsTokenPaced, Mode, MovesOver, Parse, Rules, StandsNext, State, TakesToken, halt_end, looks, move_on, plain, rest, token_looks}
use Rattle.rx_parser.proofs.Paces.{plain_within}
use Rattle.rx_parser.specs.Pace.{MayTakeToken, TakesFound}
use Rattle.rx_parser.specs.Turns.{MayTurn}
use Rattle.rx_parser.specs.declared.found.Found.{Found}
use Rattle.rx_parser.specs.declared.found.Found.TheVariants as found

module _ (from to : Cursor) (n old mid new : ℕ) where
  -- however it ends
  pub token_bounded : n ≤ length (rest from) → Rises old mid 0 (token_looks (drop 1 (rest from)) n) → new + units_left to ≤ mid + units_left from + 2 * (n - 1) → new ≤ old + 7 * units_left from + 7
  token_bounded within first more =
      let following = plain_within (drop (n - 1) (drop 1 (rest from))) in
      omega (arith, within, first.1, more, following, length-drop (n - 1) (drop 1 (rest from)), length-drop 1 (rest from))

  pub token_paced : from.place < to.place → to ≡ move_on n from → n ≤ length (rest from) → Rises old mid 0 (token_looks (drop 1 (rest from)) n)
      → mid + units_left from ≤ new + units_left to → new + units_left to ≤ mid + units_left from + 2 * (n - 1) → IsTokenPaced old new from to
  token_paced on is within first least more =
      let place : to.place ≡ min (from.place + n) (length from.units) = ap (λ (r : Cursor). r.place) is in
      let some : 1 ≤ n = omega (arith, place, on) in
      let units : to.units ≡ from.units = ap (λ (r : Cursor). r.units) is in
      let seam : plain (drop (n - 1) (drop 1 (rest from))) ≡ plain (rest to) =
      ap plain (drop-drop (n - 1) 1 (rest from) ∙ drop-drop (1 + (n - 1)) from.place from.units
      ∙ ap (λ k. drop k from.units) (let e : from.place + (1 + (n - 1)) ≡ to.place = omega (arith, place, some, within, length-drop from.place from.units, on) in e)
      ∙ ap (drop to.place) (sym units)) in
      let gone : units_left to + n ≡ units_left from = omega (arith, place, some, within, on, length-drop from.place from.units, length-drop to.place to.units, ap (λ (us : List CodePoint). length us) units) in
      (omega (arith, first.0, least), omega (arith, first.1, more, seam, gone, some))

-- after a turn fewer units are left
left_less : {S U : Type 0} {p q : Parse S U} → HasTurned p q → units_left q.reader < units_left p.reader
left_less {p} {q} h =
    omega (
      arith,
      h.moved,
      h.under_way.parsing.within,
      length-drop p.reader.place p.reader.units,
      length-drop q.reader.place q.reader.units,
      ap (λ (k : Mode × Rules × List CodePoint × ℕ × ℕ × State). length k.2) h.kept,
    )

-- a call that may turn, with a step for each unit that it moves over
pub move_taken : {S U E : Type 0} (p q : Parse S U) (old new : ℕ) (result : Result Bool E) → MayTurn p q result → IsMove old new p.reader q.reader → MayTakeToken old new p.reader q.reader result
move_taken p q old new (Ok true) h moves = let less = left_less h in (omega (arith, moves), omega (arith, moves, less))
move_taken {S} {U} p q old new (Ok false) h moves = omega (arith, moves, ap (λ (p : Parse S U). units_left p.reader) h)
move_taken p q old new (Err it) h moves = omega (arith, moves)

-- what is found, and read
module _ {S U A E : Type 0} {p : Parse S U} (more : HasMore p) (q : Parse S U) (old mid new : ℕ) where
  token_taken : (n : ℕ) (result : Result A E) → n ≤ length (rest p.reader) → OnOk result (HasTurned p q) → Rises old mid 0 (token_looks (drop 1 (rest p.reader)) n)
      → MovesOver n mid new p.reader q.reader result → TakesToken old new p.reader q.reader result
  token_taken n (Ok it) within turned first h = token_paced p.reader q.reader n old mid new turned.moved h.0 within first h.1 h.2
  token_taken n (Err it) within turned first h = token_bounded p.reader q.reader n old mid new within first h

  later_taken : (result : Result A E) → OnOk result (HasTurned p q) → Rises old mid 0 0 → TakesSteps 6 mid new p.reader q.reader result → TakesToken old new p.reader q.reader result
  later_taken (Ok it) turned first h = let less = left_less turned in (omega (arith, first.0, h.0), omega (arith, first.1, h.1, less))
  later_taken (Err it) turned first h = omega (arith, first.1, h)

  halt_taken : (n : ℕ) (result : Result A E) → n ≤ length (rest p.reader) → Rises old mid 0 (3 * length (drop 1 (rest p.reader)) + 9) → MatchResult result (λ _. ⊥) (λ _. new ≤ mid + n)
      → TakesToken old new p.reader q.reader result
  halt_taken n (Ok it) within first h = absurd h
  halt_taken n (Err it) within first h = omega (arith, within, first.1, h, more.left, length-drop p.reader.place p.reader.units, length-drop 1 (rest p.reader))

  pub found_taken : (it : Found) (result : Result A E) → StandsNext p it → OnOk result (HasTurned p q) → Rises old mid 0 (looks (drop 1 (rest p.reader)) it)
      → TakesFound it mid new p.reader q.reader result → TakesToken old new p.reader q.reader result
  found_taken (found.Leaf leaf n) result stands turned = token_taken n result stands.1 turned
  found_taken (found.NamedReference n) result stands turned = token_taken n result stands.2.within turned
  found_taken found.Property result stands turned = later_taken result turned
  found_taken found.Class result stands turned = later_taken result turned
  found_taken (found.Open opener n) result stands turned = token_taken n result stands.1.1 turned
  found_taken found.Close result stands turned = token_taken 1 result stands.1 turned
  found_taken found.Bar result stands turned = token_taken 1 result stands.1 turned
  found_taken (found.Quantifier least most greedy n) result stands turned = token_taken n result stands.1 turned
  found_taken (found.Halt it) result stands turned = halt_taken (halt_end it) result stands.1
