use Rattle.std.proofs.Common.{◌+◌, ◌≤◌, ◌==◌, ◌≡◌, ◌∷◌, ◌∙◌, ap, sym, rules, arith, drop, length}
use Rattle.rx_units.specs.Units.{values}
use Rattle.rx_model.specs.Groups.GroupNameReading.{character, name_character_at}
use Rattle.rx_model.specs.FirstPass.Marks.{starts}
use Rattle.rx_scan.proofs.GroupNames.{at_place, character_some, character_within, none_before, goes_on, row_ended, row_whole, is_longest}
use Rattle.rx_scan.proofs.MarkSteps.{units_left, value_at, values_length}
use Rattle.rx_scan.proofs.group_name.group_name_length_counted.Given as given
use Rattle.rx_scan.proofs.group_name.group_name_length_counted.Goals as goal

pub loop-length-init : goal.loop-length-init
loop-length-init g c = record {
  within = omega arith;
  read = none_before c.args.unicode_mode (values c.args.units.now);
  most = omega arith;
  least = omega arith;
}

-- the character that was read at the place
read_here : (g : given.Over) (c : goal.In-Some g) → character c.in-Some.field-0-0 c.in-Some.count ≡ name_character_at c.args.unicode_mode (c.loop-length.length == 0) (drop c.loop-length.length (values c.args.units.now))
read_here g c = at_place c.args.unicode_mode (c.loop-length.length == 0) (values c.args.units.now) c.loop-length.length (value_at g.U.Unit.value _ c.loop-length.length _ c.items-items.ensures.values c.loop-length-test.true (c.value-unit.ensures ∙ ap g.U.Unit.value c.index-items-length.is) ∙ ap (λ w. c.value-unit.result ∷ w) (sym c.from-following.ensures.values)) c.in-Some.ensures.read

within_here : (g : given.Over) (c : goal.In-Some g) → c.loop-length.length + c.in-Some.count ≤ length c.args.units.now
within_here g c =
    let us = c.args.units.now in
    let within = character_within c.args.unicode_mode (c.loop-length.length == 0) (values us) c.loop-length.length c.in-Some.field-0-0 c.in-Some.count (omega (arith, values_length us)) (read_here g c) in
    omega (arith, within, values_length us)

pub overflow_add-length-in-Some : goal.overflow_add-length-in-Some
overflow_add-length-in-Some g c = let within = within_here g c in search (rules, within)

pub loop-length-smaller : goal.loop-length-smaller
loop-length-smaller g c =
    let some = character_some c.args.unicode_mode (c.loop-length.length == 0) (drop c.loop-length.length (values c.args.units.now)) c.in-Some.field-0-0 c.in-Some.count (read_here g c) in
    let more = c.loop-length-test.true in
    omega (arith, some, more)

pub loop-length-preserved : goal.loop-length-preserved
loop-length-preserved g c = record {
  within = within_here g c;
  read =
      let before = c.loop-length.invariant.read in
      (_, goes_on c.args.unicode_mode (values c.args.units.now) before.0 c.loop-length.length (omega (arith, values_length c.args.units.now)) before.1 c.in-Some.field-0-0 c.in-Some.count (read_here g c));
  most = omega (arith, c.in-Some.ensures.found);
  least = omega (arith, c.in-Some.ensures.found);
}

pub returns-in-None-clause-read : goal.returns-in-None-clause-read
returns-in-None-clause-read g c =
    row_ended c.args.unicode_mode (values c.args.units.now) c.loop-length.length c.loop-length.invariant.read
    (at_place c.args.unicode_mode (c.loop-length.length == 0) (values c.args.units.now) c.loop-length.length (value_at g.U.Unit.value _ c.loop-length.length _ c.items-items.ensures.values c.loop-length-test.true (c.value-unit.ensures ∙ ap g.U.Unit.value c.index-items-length.is) ∙ ap (λ w. c.value-unit.result ∷ w) (sym c.from-following.ensures.values)) c.in-None.ensures.read)

pub returns-in-None-clause-ends : goal.returns-in-None-clause-ends
returns-in-None-clause-ends g c = λ plain.
    let none = c.in-None.ensures.raw (ap (starts 92) (sym (value_at g.U.Unit.value _ c.loop-length.length _ c.items-items.ensures.values c.loop-length-test.true (c.value-unit.ensures ∙ ap g.U.Unit.value c.index-items-length.is) ∙ ap (λ w. c.value-unit.result ∷ w) (sym c.from-following.ensures.values))) ∙ plain) in
    omega arith

pub returns-in-None-clause-most : goal.returns-in-None-clause-most
returns-in-None-clause-most g c = omega (arith, c.in-None.ensures.steps, units_left c.loop-length.length c.args.units.now c.from-following.result _ (value_at g.U.Unit.value _ c.loop-length.length _ c.items-items.ensures.values c.loop-length-test.true (c.value-unit.ensures ∙ ap g.U.Unit.value c.index-items-length.is) ∙ ap (λ w. c.value-unit.result ∷ w) (sym c.from-following.ensures.values)))

pub returns-in-None-clause-least : goal.returns-in-None-clause-least
returns-in-None-clause-least g c = omega (arith, c.in-None.ensures.steps)

pub returns-in-None-clause-longest : goal.returns-in-None-clause-longest
returns-in-None-clause-longest g c = is_longest c.args.unicode_mode (values c.args.units.now) c.loop-length.length (returns-in-None-clause-read g c)

pub returns-clause-read : goal.returns-clause-read
returns-clause-read g c = row_whole c.args.unicode_mode (values c.args.units.now) c.loop-length.length c.loop-length.invariant.read (omega (arith, values_length c.args.units.now, c.items-items.ensures.length, c.loop-length-test.false))

pub returns-clause-longest : goal.returns-clause-longest
returns-clause-longest g c = is_longest c.args.unicode_mode (values c.args.units.now) c.loop-length.length (returns-clause-read g c)
