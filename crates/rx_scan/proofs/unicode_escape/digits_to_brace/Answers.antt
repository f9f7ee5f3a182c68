use Rattle.std.proofs.Common.{◌≡◌, ◌+◌, ◌∷◌, ◌∙◌, ap, drop, length, refl, sym, arith}
use Rattle.rx_units.specs.Stored.{values_of}
use Rattle.rx_units.specs.Units.{values}
use Rattle.rx_model.specs.Characters.Decoding.{run_at}
use Rattle.rx_scan.specs.DecodingSteps.{digits_of_run}
use Rattle.rx_scan.proofs.BracedDigits.{again_looked, again_read, answer_half, answer_rises, ended_looked, ended_read, none_left, not_fewer, one_more, passes_looked, passes_read, passes_rises, unended_looked, unended_read, unit_here, within_one}
use Rattle.rx_scan.proofs.LookedDigits.{run_is_looked_at, run_looked}
use Rattle.rx_scan.proofs.unicode_escape.digits_to_brace.Given.{Over}
use Rattle.rx_scan.proofs.unicode_escape.digits_to_brace.Goals.{After-map_hex_digit}
use Rattle.rx_scan.proofs.unicode_escape.digits_to_brace.Goals as goal

-- what is left begins with the unit of this turn
here : (g : Over) (c : After-map_hex_digit g) → values_of g.U.Unit.value (drop c.loop-count.count c.items-items.result.now) ≡ c.value-unit.result ∷ values_of g.U.Unit.value (drop (c.loop-count.count + 1) c.items-items.result.now)
here g c = unit_here g.U.Unit.value c.items-items.result.now c.loop-count.count _ _ c.loop-count-test.true c.index-items-count.is c.value-unit.ensures

read : (g : Over) (c : After-map_hex_digit g) → run_at c.loop-count.number c.loop-count.count (values_of g.U.Unit.value (drop c.loop-count.count c.items-items.result.now)) ≡ run_at 0 0 (values c.args.units.now)
read g c = c.loop-count.invariant.read ∙ ap (run_at 0 0) (sym c.items-items.ensures.values)

looked : (g : Over) (c : After-map_hex_digit g) → digits_of_run (values c.args.units.now) ≡ c.loop-count.count + run_looked c.loop-count.number (values_of g.U.Unit.value (drop c.loop-count.count c.items-items.result.now))
looked g c = ap digits_of_run c.items-items.ensures.values ∙ c.loop-count.invariant.looked

pub loop-count-init : goal.loop-count-init
loop-count-init g c = record {
  read = refl;
  looked = let looked = run_is_looked_at (values_of g.U.Unit.value c.items-items.result.now) in omega (arith, looked);
  turns = omega arith;
}

pub loop-count-preserved : goal.loop-count-preserved
loop-count-preserved g c =
    let stands = here g (goal.at.loop-count-preserved g c).After-map_hex_digit in
    let before = c.loop-count.invariant in
    record {
      read = again_read _ _ c.loop-count.number c.loop-count.count c.value-unit.result c.in-Some.digit stands c.in-Some.ensures c.in-Some-with_digit.next c.in-Some-with_digit.ensures _ before.read;
      looked = again_looked _ _ c.loop-count.number c.loop-count.count c.value-unit.result c.in-Some.digit stands c.in-Some.ensures c.in-Some-with_digit.next c.in-Some-with_digit.ensures _ before.looked;
      turns = one_more _ _ _ _ before.turns c.tick.ensures;
    }

pub returns-in-None-with_digit-clause-read : goal.returns-in-None-with_digit-clause-read
returns-in-None-with_digit-clause-read g c =
    let at = (goal.at.returns-in-None-with_digit-clause-read g c).After-map_hex_digit in
    passes_read _ _ c.loop-count.number c.loop-count.count c.value-unit.result c.in-Some.digit (here g at) c.in-Some.ensures _ (read g at) c.in-None-with_digit.ensures

pub returns-in-None-with_digit-clause-steps : goal.returns-in-None-with_digit-clause-steps
returns-in-None-with_digit-clause-steps g c = passes_rises _ _ _ _ c.loop-count.invariant.turns c.tick.ensures

pub returns-in-None-with_digit-clause-half : goal.returns-in-None-with_digit-clause-half
returns-in-None-with_digit-clause-half g c = not_fewer _ _ _ _ c.loop-count.invariant.turns c.tick.ensures

pub returns-in-None-with_digit-clause-looked : goal.returns-in-None-with_digit-clause-looked
returns-in-None-with_digit-clause-looked g c =
    let at = (goal.at.returns-in-None-with_digit-clause-looked g c).After-map_hex_digit in
    within_one _ _ _ _ c.loop-count.invariant.turns c.tick.ensures _ 1 (omega arith)
    (passes_looked _ _ c.loop-count.number c.loop-count.count c.value-unit.result c.in-Some.digit (here g at) c.in-Some.ensures _ (looked g at) c.in-None-with_digit.ensures)

pub returns-in-None-clause-read : goal.returns-in-None-clause-read
returns-in-None-clause-read g c =
    let at = (goal.at.returns-in-None-clause-read g c).After-map_hex_digit in
    c.after_digits.ensures ∙ ended_read _ _ c.loop-count.number c.loop-count.count c.value-unit.result (here g at) c.in-None.ensures _ (read g at)

pub returns-in-None-clause-steps : goal.returns-in-None-clause-steps
returns-in-None-clause-steps g c =
    let us = c.args.units.now in
    answer_rises _ _ _ _ c.loop-count.invariant.turns c.tick.ensures c.loop-count.number c.value-unit.result c.after_digits.result c.after_digits.ensures (length us)
    (omega (arith, c.items-items.ensures.length, c.loop-count-test.true))

pub returns-in-None-clause-half : goal.returns-in-None-clause-half
returns-in-None-clause-half g c =
    answer_half _ _ _ _ c.loop-count.invariant.turns c.tick.ensures c.loop-count.number c.value-unit.result c.after_digits.result c.after_digits.ensures

pub returns-in-None-clause-looked : goal.returns-in-None-clause-looked
returns-in-None-clause-looked g c =
    let at = (goal.at.returns-in-None-clause-looked g c).After-map_hex_digit in
    within_one _ _ _ _ c.loop-count.invariant.turns c.tick.ensures _ 0 (omega arith)
    (ended_looked _ _ c.loop-count.number c.loop-count.count c.value-unit.result (here g at) c.in-None.ensures _ (looked g at))

pub returns-clause-read : goal.returns-clause-read
returns-clause-read g c =
    let all = c.loop-count.invariant.read ∙ ap (run_at 0 0) (sym c.items-items.ensures.values) in
    unended_read _ c.loop-count.number c.loop-count.count _ (none_left g.U.Unit.value c.items-items.result.now c.loop-count.count c.loop-count-test.false) all

pub returns-clause-steps : goal.returns-clause-steps
returns-clause-steps g c =
    let turns = c.loop-count.invariant.turns in
    let within = c.loop-count.auto.count-end in
    let same = c.items-items.ensures.length in
    (omega (arith, turns), omega (arith, turns, within, same))

pub returns-clause-half : goal.returns-clause-half
returns-clause-half g c = let turns = c.loop-count.invariant.turns in omega (arith, turns)

pub returns-clause-looked : goal.returns-clause-looked
returns-clause-looked g c =
    let all = ap digits_of_run c.items-items.ensures.values ∙ c.loop-count.invariant.looked in
    unended_looked _ c.loop-count.number _ _ c.loop-count.count _ (none_left g.U.Unit.value c.items-items.result.now c.loop-count.count c.loop-count-test.false) c.loop-count.invariant.turns all
