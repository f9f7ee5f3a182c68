use Rattle.std.proofs.Common.{sym, ap, arith, ◌∙◌, refl, subst}
use Rattle.rx_class.proofs.Common.{move_on, values, starts, environment_of, GivesOneClass, contents}
use Rattle.rx_class.specs.ClassReading.Answers.{no_memory}
use Rattle.rx_class.proofs.ClassReading.Ends.{IsInClass, begins_class, closed_gives, item_gives, item_refused}
use Rattle.rx_class.proofs.Keeping.{handed, passes_keeps}
use Rattle.rx_class.proofs.Readings.{reads_on}
use Rattle.rx_class.proofs.reading.Reading.items_class.Goals as goal

pub loop-self-init : goal.loop-self-init
loop-self-init g c =
    let old = c.args.self.now in
    let opener = c.class_opener-negative in
    record {
      inside =
          subst (λ body. IsInClass (environment_of old.state.now) old.spans.now old.reader.now opener.new.self.reader.now opener.result (contents body)) (sym c.in_ok-prepare.ensures)
          (begins_class (environment_of old.state.now) old.spans.now old.reader.now (move_on 1 old.reader.now) opener.new.self.reader.now opener.result c.requires.bracket refl opener.ensures.value opener.ensures.reader);
      paced = opener.ensures.steps;
      on = opener.ensures.on;
    }

pub returns-in_err-prepare-clause-gives : goal.returns-in_err-prepare-clause-gives
returns-in_err-prepare-clause-gives g c =
    let old = c.args.self.now.reader.now in
    let opener = c.class_opener-negative in
    let begun = begins_class (environment_of c.args.self.now.state.now) c.args.self.now.spans.now old (move_on 1 old) opener.new.self.reader.now opener.result c.requires.bracket refl opener.ensures.value opener.ensures.reader in
    handed (GivesOneClass _ _ _ _) c.from_residual.ensures.1 (rw c.in_err-prepare.ensures (no_memory (passes_keeps begun.passes)))

pub next_item-requires-clause-no_sets : goal.next_item-requires-clause-no_sets
next_item-requires-clause-no_sets g c = rw c.loop-self.invariant.on.state c.requires.no_sets

pub next_item-requires-clause-start : goal.next_item-requires-clause-start
next_item-requires-clause-start g c = rw c.loop-self.invariant.on.spans c.offset-start.ensures.fits

pub returns-in_err-next_item-clause-gives : goal.returns-in_err-next_item-clause-gives
returns-in_err-next_item-clause-gives g c =
    let on = c.loop-self.invariant.on in
    handed (GivesOneClass (environment_of c.args.self.now.state.now) c.args.self.now.spans.now c.args.self.now.reader.now c.next_item.new.self.reader.now) c.from_residual-in_err-next_item.ensures.1
    (item_refused c.loop-self.invariant.inside c.requires.no_sets c.requires.environment c.next_item.new.self.reader.now c.offset-start.result _ c.offset-start.ensures.value (rw (on.state, on.spans) at c.in_err-next_item.ensures.refused))

pub loop-self-smaller : goal.loop-self-smaller
loop-self-smaller g c =
    let on = c.loop-self.invariant.on in
    (item_gives c.loop-self.invariant.inside c.loop-self.contents refl (rw (on.state, on.spans) at c.in_ok-next_item.ensures.added.gives)).1

pub loop-self-preserved : goal.loop-self-preserved
loop-self-preserved g c =
    let on = c.loop-self.invariant.on in
    let it = c.in_ok-next_item.ensures.added in
    let before = c.loop-self.invariant.paced in
    let added = c.in_ok-next_item.ensures.steps in
    record {
      inside =
          subst (λ body. IsInClass (environment_of c.args.self.now.state.now) c.args.self.now.spans.now c.args.self.now.reader.now c.next_item.new.self.reader.now c.class_opener-negative.result (contents body)) (sym it.adds)
          (item_gives c.loop-self.invariant.inside c.loop-self.contents refl (rw (on.state, on.spans) at it.gives)).0;
      paced = (omega (arith, before.0, added.0), omega (arith, before.1, added.1));
      on = reads_on on c.in_ok-next_item.ensures.on;
    }

pub closed_class-requires : goal.closed_class-requires
closed_class-requires g c = record { start = rw c.loop-self.invariant.on.spans c.offset-start.ensures.fits }

pub returns-clause-gives : goal.returns-clause-gives
returns-clause-gives g c =
    closed_gives c.loop-self.invariant.inside c.closed_class.new.self.reader.now c.offset-start.result c.closed_class.result
    (ap (λ us. starts 93 (values us)) (sym c.units.ensures.units) ∙ sym c.loop-self-test.ensures) c.closed_class.ensures.reader c.offset-start.ensures.value (rw c.loop-self.invariant.on.spans at c.closed_class.ensures.gives)
