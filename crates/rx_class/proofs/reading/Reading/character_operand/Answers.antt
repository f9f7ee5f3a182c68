use Rattle.std.proofs.Common.{None, ap, arith, refl, subst, sym, ◌∙◌, ◌++◌}
use Rattle.rx_class.proofs.Common.{Member, character_is, rest, member_events, member_strings, builder_events, with_member, seen_character, GivesTurn, IsRangeNext, adds, innermost_held}
use Rattle.rx_class.proofs.Common.{most_set_looks, IsSound}
use Rattle.rx_class.specs.SetReading.Progress.{no_memory}
use Rattle.rx_class.proofs.Keeping.{handed}
use Rattle.rx_class.proofs.SetReading.Characters.{character_keeps, with_v}
use Rattle.rx_class.proofs.SetReading.Operands.{character_adds, character_refused, character_small}
use Rattle.rx_class.proofs.SetReading.Paces.{after_steps, over_dash}
use Rattle.rx_class.proofs.reading.Reading.character_operand.Goals as goal

pub returns-in_err-low-clause-gives : goal.returns-in_err-low-clause-gives
returns-in_err-low-clause-gives g c = λ e of.
    handed (GivesTurn _ _ _ _ _ _) c.from_residual.ensures.1 (character_refused c.requires.takes of (c.in_err-low.ensures.gives e of.sets))

pub range_operand-requires-clause-low : goal.range_operand-requires-clause-low
range_operand-requires-clause-low g c = character_small (c.in_ok-low.ensures.gives with_v refl)

pub range_operand-requires-clause-found : goal.range_operand-requires-clause-found
range_operand-requires-clause-found g c =
    let found = c.in-Some.ensures.next in
    let units = c.ahead-units.ensures in
    let over = over_dash _ c.class_set_character.new.self.reader.now c.advance.new.self.reader.now c.in-Some.end units.units units.code_points found.0 c.advance.ensures.reader in over.found

pub range_operand-requires-clause-code_points : goal.range_operand-requires-clause-code_points
range_operand-requires-clause-code_points g c =
    let found = c.in-Some.ensures.next in
    let units = c.ahead-units.ensures in
    let over = over_dash _ c.class_set_character.new.self.reader.now c.advance.new.self.reader.now c.in-Some.end units.units units.code_points found.0 c.advance.ensures.reader in over.code_points

pub push-requires-clause-sound : goal.push-requires-clause-sound
push-requires-clause-sound g c =
    subst IsSound (sym (character_is c.in_ok-low.low)) (record { fitting = tt; flagged = tt; early = character_small (c.in_ok-low.ensures.gives with_v refl) })

pub push-requires-clause-strings : goal.push-requires-clause-strings
push-requires-clause-strings g c = sym (ap member_strings (character_is c.in_ok-low.low))

pub push-requires-clause-held : goal.push-requires-clause-held
push-requires-clause-held g c = ap (λ (m : Member). with_member m (innermost_held c.args.builder.now)) (character_is c.in_ok-low.low) ∙ c.requires.takes.held

pub returns-in_err-push-in-None-clause-gives : goal.returns-in_err-push-in-None-clause-gives
returns-in_err-push-in-None-clause-gives g c = λ e of.
    handed (GivesTurn _ _ _ _ _ _) c.from_residual-in_err-push-in-None.ensures.1 (no_memory (character_keeps (c.in_ok-low.ensures.gives e of.sets)))

pub returns-in_ok-push-in-None-clause-gives : goal.returns-in_ok-push-in-None-clause-gives
returns-in_ok-push-in-None-clause-gives g c = λ e of.
    let is = c.in_ok-push-in-None.ensures in
    adds
    (character_adds c.requires.takes is.held is.well of (c.in_ok-low.ensures.gives e of.sets)
    (subst (λ us. IsRangeNext us (innermost_held c.args.builder.now) None) c.ahead-units.ensures.units c.in-None.ensures.next) c.requires.no_third
    (is.events ∙ ap (λ m. builder_events c.args.builder.now ++ member_events m) (character_is c.in_ok-low.low)))

pub returns-in-Some-clause-gives : goal.returns-in-Some-clause-gives
returns-in-Some-clause-gives g c = λ e of.
    let found = c.in-Some.ensures.next in
    let units = c.ahead-units.ensures in
    let over = over_dash _ c.class_set_character.new.self.reader.now c.advance.new.self.reader.now c.in-Some.end units.units units.code_points found.0 c.advance.ensures.reader in
    let spans = c.class_set_character.ensures.on.spans in
    rw (c.advance.ensures.on.spans, spans) at (c.range_operand.ensures.gives e c.args.self.now.reader.now of
    (rw (c.advance.ensures.on.spans, spans) record { before = c.class_set_character.new.self.reader.now; gives = c.in_ok-low.ensures.gives e of.sets; dashed = over.dashed; moves = c.advance.ensures.reader }))

pub returns-in-Some-clause-steps : goal.returns-in-Some-clause-steps
returns-in-Some-clause-steps g c =
    let old = c.args.self.now.reader.now in
    let on = c.advance.new.self.reader.now in
    let found = c.in-Some.ensures.next in
    let units = c.ahead-units.ensures in
    let over = over_dash _ c.class_set_character.new.self.reader.now c.advance.new.self.reader.now c.in-Some.end units.units units.code_points found.0 c.advance.ensures.reader in
    after_steps (g.C.Counter.count c.args.self.now.steps.now) (g.C.Counter.count c.advance.new.self.steps.now) (g.C.Counter.count c.range_operand.new.self.steps.now) (most_set_looks (rest old) (seen_character c.args.found))
    (most_set_looks (rest on) (seen_character c.in-Some.end)) old on c.range_operand.new.self.reader.now c.range_operand.result
    (omega (arith, over.left, c.in_ok-low.ensures.steps, c.in-Some.ensures.steps, c.advance.ensures.steps))
    (omega (arith, over.left, over.looks, c.in_ok-low.ensures.steps, c.in-Some.ensures.steps, c.advance.ensures.steps)) c.range_operand.ensures.steps
