use Rattle.std.proofs.Common.{◌+◌, ◌*◌, ◌≤◌, length, arith}
use Rattle.rx_class.proofs.Common.{IfOk-weaker, values_length, values}
use Rattle.rx_class.proofs.PropertyReading.Halts.{no_brace}
use Rattle.rx_class.proofs.PropertyReading.Runs.{pair_inside, run_inside}
use Rattle.rx_class.proofs.PropertyReading.Steps.{looks}
use Rattle.rx_class.proofs.properties.found.expression_at.Goals as goal

pub returns-in_default-clause-found : goal.returns-in_default-clause-found
returns-in_default-clause-found g c = rw c.unterminated.ensures (no_brace c.args.mode c.requires.unicode c.args.negative (values c.args.units.now) c.in_default.ensures.found)

pub run_found-requires-clause-run : goal.run_found-requires-clause-run
run_found-requires-clause-run g c = (values c.in-Some.following, record { no_pair = c.in-None.ensures.found; is_run = c.run_at-run.ensures.run })

pub returns-in-None-clause-found : goal.returns-in-None-clause-found
returns-in-None-clause-found g c =
    IfOk-weaker c.run_found.result _ _ (λ found h. rw c.in-Some.ensures.found (h (values c.in-Some.following) record { no_pair = c.in-None.ensures.found; is_run = c.run_at-run.ensures.run })) c.run_found.ensures.found

pub returns-in-Some-pair_at-clause-found : goal.returns-in-Some-pair_at-clause-found
returns-in-Some-pair_at-clause-found g c =
    IfOk-weaker c.pair_found.result _ _ (λ found h. rw c.in-Some.ensures.found (h c.args.mode (values c.in-Some.following) c.requires.unicode c.in-Some-pair_at.ensures.found)) c.pair_found.ensures.found

pub returns-in-Some-pair_at-clause-steps : goal.returns-in-Some-pair_at-clause-steps
returns-in-Some-pair_at-clause-steps g c =
    let pair = c.in-Some-pair_at.pair in
    let count = length pair.name + length pair.value in
    let old = g.C.Counter.count c.args.steps.now in
    let new = g.C.Counter.count c.pair_found.new.steps in
    let twice : new ≤ old + 2 * count = omega (arith, c.in-Some-pair_at.ensures.pair, c.pair_found.ensures.steps.1) in
    let inside = pair_inside c.in-Some-pair_at.ensures.found in
    looks (length c.args.units.now) (4 + length pair.name + length pair.value) old new (values pair.following) c.pair_found.result c.pair_found.ensures.closed
    (omega (arith, c.in-Some-pair_at.ensures.steps.0, c.pair_found.ensures.steps.0))
    (omega (arith, twice, inside, values_length pair.name, values_length pair.value, values_length c.in-Some.following, c.in-Some.ensures.counted))
    (λ closed. omega (arith, twice))

pub returns-in-None-clause-steps : goal.returns-in-None-clause-steps
returns-in-None-clause-steps g c =
    let run = c.run_at-run.result in
    let old = g.C.Counter.count c.args.steps.now in
    let mid = g.C.Counter.count c.pair_at.new.steps in
    let new = g.C.Counter.count c.run_found.new.steps in
    let twice : new ≤ mid + 2 * length run.units = omega (arith, c.run_at-run.ensures.steps.1, c.run_found.ensures.steps.1) in
    let least : old ≤ new = omega (arith, c.in-None.ensures.steps.0, c.run_at-run.ensures.steps.0, c.run_found.ensures.steps.0) in
    let inside = run_inside c.run_at-run.ensures.run in
    looks (length c.args.units.now) (3 + length run.units) old new (values run.following) c.run_found.result c.run_found.ensures.closed least
    (omega (arith, twice, inside, c.in-None.ensures.steps.1, values_length run.units, values_length c.in-Some.following, c.in-Some.ensures.counted))
    (λ closed. let few = c.in-None.ensures.run _ _ c.run_at-run.ensures.run closed in omega (arith, twice, few, values_length run.units))
