use Rattle.std.proofs.Common.{sym, ap, arith, length, ◌∙◌}
use Rattle.rx_class.proofs.Common.{true≢false, rest, environment_of, seen_character, seen_front, GivesTurn, adds, most_set_looks}
use Rattle.rx_class.specs.SetReading.Progress.{no_memory}
use Rattle.rx_class.proofs.Keeping.{handed}
use Rattle.rx_class.proofs.SetReading.Fronts.{set_front_is}
use Rattle.rx_class.proofs.SetReading.Paces.{adds_left, front_fits, no_steps, with_looks}
use Rattle.rx_class.proofs.SetReading.Refusals.{begins_closer, front_stands, nothing_there}
use Rattle.rx_class.proofs.reading.Reading.read_turn.Goals.{else-is_pending-via-then-is_pending+else-begins_with, else-is_pending-via-else-is_pending}
use Rattle.rx_class.proofs.reading.Reading.read_turn.Goals as goal

pub close_bracket-requires-clause-front : goal.close_bracket-requires-clause-front
close_bracket-requires-clause-front g c = front_stands _ _ _ _ c.ahead.ensures.units c.set_front_at-front.ensures.front c.in-Close.ensures.0

pub operator-requires-clause-front : goal.operator-requires-clause-front
operator-requires-clause-front g c = front_stands _ _ _ _ c.ahead.ensures.units c.set_front_at-front.ensures.front c.in-Operator.ensures.0

pub open_bracket-requires-clause-front : goal.open_bracket-requires-clause-front
open_bracket-requires-clause-front g c = front_stands _ _ _ _ c.ahead.ensures.units c.set_front_at-front.ensures.front c.in-Open.ensures.0

pub strings_operand-requires-clause-front : goal.strings_operand-requires-clause-front
strings_operand-requires-clause-front g c = front_stands _ _ _ _ c.ahead.ensures.units c.set_front_at-front.ensures.front c.in-Strings.ensures.0

pub character_operand-requires-clause-front : goal.character_operand-requires-clause-front
character_operand-requires-clause-front g c = let stands = front_stands _ _ _ _ c.ahead.ensures.units c.set_front_at-front.ensures.front c.in-Character.ensures.0 in stands.0

pub escape_operand-requires-clause-front : goal.escape_operand-requires-clause-front
escape_operand-requires-clause-front g c = front_stands _ _ _ _ c.ahead.ensures.units c.set_front_at-front.ensures.front c.in-Escape.ensures.0

pub property_operand-requires-clause-front : goal.property_operand-requires-clause-front
property_operand-requires-clause-front g c = front_stands _ _ _ _ c.ahead.ensures.units c.set_front_at-front.ensures.front c.in-Property.ensures.0

pub close_bracket-requires-clause-nested : goal.close_bracket-requires-clause-nested
close_bracket-requires-clause-nested g c = λ none.
    let front = front_stands _ _ _ _ c.ahead.ensures.units c.set_front_at-front.ensures.front c.in-Close.ensures.0 in
    c.requires.goes_on record { closer = begins_closer (rest c.args.self.now.reader.now) front; outermost = none; whole = c.in-Close.ensures.1 }

pub returns-in-Operator-clause-gives : goal.returns-in-Operator-clause-gives
returns-in-Operator-clause-gives g c = adds (c.operator.ensures.added (environment_of c.args.self.now.state.now) c.args.self.now.spans.now c.requires.sets)

pub returns-in_ok-open_bracket-in-Open-clause-gives : goal.returns-in_ok-open_bracket-in-Open-clause-gives
returns-in_ok-open_bracket-in-Open-clause-gives g c = adds (c.in_ok-open_bracket-in-Open.ensures.added (environment_of c.args.self.now.state.now) c.requires.sets)

pub returns-in_err-open_bracket-in-Open-clause-gives : goal.returns-in_err-open_bracket-in-Open-clause-gives
returns-in_err-open_bracket-in-Open-clause-gives g c = handed (GivesTurn _ _ _ _ _ _) c.from_residual.ensures.1 (no_memory c.in_err-open_bracket-in-Open.ensures.refused)

pub returns-in-Nothing-clause-gives : goal.returns-in-Nothing-clause-gives
returns-in-Nothing-clause-gives g c =
    let sets = c.requires.sets in
    let front = set_front_is _ _ c.set_front_at-front.ensures.front (environment_of c.args.self.now.state.now) sets.sets in
    c.nothing_follows.ensures (environment_of c.args.self.now.state.now) c.requires.sets
    (nothing_there c.args.self.now.reader.now c.args.builder.now _ (seen_front c.set_front_at-front.result) c.ahead.ensures.units front c.in-Nothing.ensures (λ held. elim c.else-is_pending.branch [
      | else-is_pending-via-then-is_pending+else-begins_with w ↦ rw (← w.units.ensures.units) (sym w.begins_with.ensures ∙ w.if-begins_with.false)
      | else-is_pending-via-else-is_pending w ↦ absurd (true≢false (sym (c.is_pending.ensures.1 held) ∙ w.if-is_pending.false))
    ]))

pub returns-in-Close-clause-steps : goal.returns-in-Close-clause-steps
returns-in-Close-clause-steps g c = rw (no_steps _ _ (rw c.in-Close.ensures.0 at c.set_front_at-front.ensures.steps)) c.close_bracket.ensures.steps

pub returns-in-Strings-clause-steps : goal.returns-in-Strings-clause-steps
returns-in-Strings-clause-steps g c = rw (no_steps _ _ (rw c.in-Strings.ensures.0 at c.set_front_at-front.ensures.steps)) c.strings_operand.ensures.steps

pub returns-in-Escape-clause-steps : goal.returns-in-Escape-clause-steps
returns-in-Escape-clause-steps g c = rw (no_steps _ _ (rw c.in-Escape.ensures.0 at c.set_front_at-front.ensures.steps)) c.escape_operand.ensures.steps

pub returns-in-Property-clause-steps : goal.returns-in-Property-clause-steps
returns-in-Property-clause-steps g c = rw (no_steps _ _ (rw c.in-Property.ensures.0 at c.set_front_at-front.ensures.steps)) c.property_operand.ensures.steps

pub returns-in-Operator-clause-steps : goal.returns-in-Operator-clause-steps
returns-in-Operator-clause-steps g c =
    let none = rw c.in-Operator.ensures.0 at c.set_front_at-front.ensures.steps in
    let fewer = adds_left (c.operator.ensures.added (environment_of c.args.self.now.state.now) c.args.self.now.spans.now c.requires.sets) in
    (omega (arith, none, fewer, c.operator.ensures.steps), omega (arith, none, fewer, c.operator.ensures.steps))

pub returns-in-Character-clause-steps : goal.returns-in-Character-clause-steps
returns-in-Character-clause-steps g c =
    let looks = rw (c.in-Character.ensures.0, c.ahead.ensures.units) at c.set_front_at-front.ensures.steps in
    with_looks (g.C.Counter.count c.args.self.now.steps.now) (g.C.Counter.count c.set_front_at-front.new.steps) (g.C.Counter.count c.character_operand.new.self.steps.now)
    (most_set_looks (rest c.args.self.now.reader.now) (seen_character c.in-Character.found)) c.args.self.now.reader.now c.character_operand.new.self.reader.now c.character_operand.result (omega (arith, looks.0)) looks.1
    c.character_operand.ensures.steps

pub returns-in-Nothing-clause-steps : goal.returns-in-Nothing-clause-steps
returns-in-Nothing-clause-steps g c =
    let fits = front_fits c.ahead.result (seen_front c.set_front_at-front.result) c.set_front_at-front.ensures.front in
    omega (arith, fits, c.set_front_at-front.ensures.steps, ap length c.ahead.ensures.units)
