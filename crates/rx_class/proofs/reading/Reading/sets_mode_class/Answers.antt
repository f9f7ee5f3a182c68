use Rattle.std.proofs.Common.{arith, refl, ap}
use Rattle.rx_class.proofs.Common.{Span, move_on, GivesOneClass, environment_of}
use Rattle.rx_class.proofs.Keeping.{handed}
use Rattle.rx_class.proofs.Readings.{reads_on}
use Rattle.rx_class.proofs.SetReading.Classes.{begins_sets, fewer_left, kept_sets, refuses_class, sets_given, turn_adds}
use Rattle.rx_class.proofs.SetReading.Steps.{goes_on}
use Rattle.rx_class.proofs.reading.Reading.sets_mode_class.Goals as goal

pub loop-self-init : goal.loop-self-init
loop-self-init g c =
    let old = c.args.self.now in
    let opener = c.class_opener-negative in
    record {
      built =
          begins_sets (environment_of old.state.now) old.spans.now old.reader.now (move_on 1 old.reader.now) opener.new.self.reader.now opener.result c.here-start.result.start c.new-builder.result c.requires.bracket refl
          opener.ensures.value opener.ensures.reader (ap (λ (s : Span). s.start) c.here-start.ensures) c.new-builder.ensures.events c.new-builder.ensures.held c.new-builder.ensures.well;
      paced = opener.ensures.steps;
      on = opener.ensures.on;
    }

pub take_turn-requires-clause-sets : goal.take_turn-requires-clause-sets
take_turn-requires-clause-sets g c = rw c.loop-self.invariant.on.state (kept_sets c.requires.sets c.loop-self.invariant.built.keeps)

pub take_turn-requires-clause-well : goal.take_turn-requires-clause-well
take_turn-requires-clause-well g c = c.loop-self.invariant.built.well

pub loop-self-smaller : goal.loop-self-smaller
loop-self-smaller g c = fewer_left (turn_adds c.in_ok-take_turn.ensures.gives)

pub loop-self-preserved : goal.loop-self-preserved
loop-self-preserved g c =
    let on = c.loop-self.invariant.on in
    let before = c.loop-self.invariant.paced in
    let turn = c.in_ok-take_turn.ensures in
    record {
      built = goes_on c.loop-self.invariant.built (turn_adds (rw (on.state, on.spans) at turn.gives));
      paced = (omega (arith, before.0, turn.steps.0), omega (arith, before.1, turn.steps.1));
      on = reads_on on turn.on;
    }

pub returns-in_err-take_turn-clause-gives : goal.returns-in_err-take_turn-clause-gives
returns-in_err-take_turn-clause-gives g c =
    let on = c.loop-self.invariant.on in
    handed (GivesOneClass (environment_of c.args.self.now.state.now) c.args.self.now.spans.now c.args.self.now.reader.now c.take_turn.new.self.reader.now) c.from_residual.ensures.1
    (refuses_class c.requires.sets c.loop-self.invariant.built (rw (on.state, on.spans) at c.in_err-take_turn.ensures.gives))

pub finish_sets-requires-clause-ends : goal.finish_sets-requires-clause-ends
finish_sets-requires-clause-ends g c = c.loop-self-test.ensures.0 refl

pub finish_sets-requires-clause-sets : goal.finish_sets-requires-clause-sets
finish_sets-requires-clause-sets g c = rw c.loop-self.invariant.on.state (kept_sets c.requires.sets c.loop-self.invariant.built.keeps)

pub finish_sets-requires-clause-well : goal.finish_sets-requires-clause-well
finish_sets-requires-clause-well g c = c.loop-self.invariant.built.well

pub returns-clause-gives : goal.returns-clause-gives
returns-clause-gives g c =
    let on = c.loop-self.invariant.on in
    sets_given c.requires.sets c.loop-self.invariant.built _ c.finish_sets.result (c.loop-self-test.ensures.0 refl) (rw (on.state, on.spans) at c.finish_sets.ensures.gives)
