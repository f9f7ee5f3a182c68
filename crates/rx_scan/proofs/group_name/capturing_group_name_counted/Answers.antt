use Rattle.std.proofs.Common.{◌≡◌, ◌≤◌, ◌+◌, ◌∷◌, ◌==◌, ap, sym, ◌∙◌, None, Some, rules, arith, drop, length}
use Rattle.std.proofs.lemmas.List.{drop_all}
use Rattle.std.proofs.lemmas.Str.{chars-nil}
use Rattle.rx_units.specs.Units.{values}
use Rattle.rx_model.specs.Groups.GroupNameReading.{character, name_character_at, name_of, row_after, row_following}
use Rattle.rx_scan.proofs.GroupNames.{at_place, character_some, character_within, no_name_yet, goes_on, ends_early, ends_whole, is_name_of}
use Rattle.rx_scan.proofs.MarkSteps.{units_left, value_at, values_length}
use Rattle.rx_scan.proofs.group_name.capturing_group_name_counted.Given as given
use Rattle.rx_scan.proofs.group_name.capturing_group_name_counted.Goals as goal

pub loop-place-init : goal.loop-place-init
loop-place-init g c = record {
  within = omega arith;
  read = no_name_yet c.args.unicode_mode (values c.args.units.now) c.in_ok-name.name (c.in_ok-name.ensures ∙ chars-nil);
  most = omega arith;
  least = omega arith;
}

-- the character that was read at the place
read_here : (g : given.Over) (c : goal.In_ok-push-in-Some g) → character c.in-Some.character c.in-Some.length ≡ name_character_at c.args.unicode_mode (c.loop-place.place == 0) (drop c.loop-place.place (values c.args.units.now))
read_here g c = at_place c.args.unicode_mode (c.loop-place.place == 0) (values c.args.units.now) c.loop-place.place (value_at g.U.Unit.value _ c.loop-place.place _ c.items-items.ensures.values c.loop-place-test.true (c.value-unit.ensures ∙ ap g.U.Unit.value c.index-items-place.is) ∙ ap (λ w. c.value-unit.result ∷ w) (sym c.from-following.ensures.values)) c.in-Some.ensures.read

within_here : (g : given.Over) (c : goal.In_ok-push-in-Some g) → c.loop-place.place + c.in-Some.length ≤ length c.args.units.now
within_here g c =
    let us = c.args.units.now in
    let within = character_within c.args.unicode_mode (c.loop-place.place == 0) (values us) c.loop-place.place c.in-Some.character c.in-Some.length (omega (arith, values_length us)) (read_here g c) in
    omega (arith, within, values_length us)

pub overflow_add-place-in-Some : goal.overflow_add-place-in-Some
overflow_add-place-in-Some g c = let within = within_here g c in search (rules, within)

pub loop-place-smaller : goal.loop-place-smaller
loop-place-smaller g c =
    let some = character_some c.args.unicode_mode (c.loop-place.place == 0) (drop c.loop-place.place (values c.args.units.now)) c.in-Some.character c.in-Some.length (read_here g c) in
    let more = c.loop-place-test.true in
    omega (arith, some, more)

pub loop-place-preserved : goal.loop-place-preserved
loop-place-preserved g c =
    let us = c.args.units.now in
    record {
      within = within_here g c;
      read = goes_on c.args.unicode_mode (values us) c.loop-place.name c.loop-place.place (omega (arith, values_length us)) c.loop-place.invariant.read c.in-Some.character c.in-Some.length (read_here g c)
          ∙ ap (λ name. row_following name (c.loop-place.place + c.in-Some.length) (row_after c.args.unicode_mode (c.loop-place.place + c.in-Some.length == 0) 0 (drop (c.loop-place.place + c.in-Some.length) (values us)))) (sym c.in_ok-push-in-Some.ensures.ok);
      most = omega (arith, c.in-Some.ensures.found);
      least = omega (arith, c.in-Some.ensures.found);
    }

pub returns-in-None-clause-read : goal.returns-in-None-clause-read
returns-in-None-clause-read g c =
    let us = c.args.units.now in
    is_name_of c.args.unicode_mode (values us) None
    (ends_early c.args.unicode_mode (values us) c.loop-place.name c.loop-place.place (omega (arith, values_length us)) c.loop-place.invariant.read (omega (arith, values_length us, c.items-items.ensures.length, c.loop-place-test.true))
    (at_place c.args.unicode_mode (c.loop-place.place == 0) (values c.args.units.now) c.loop-place.place (value_at g.U.Unit.value _ c.loop-place.place _ c.items-items.ensures.values c.loop-place-test.true (c.value-unit.ensures ∙ ap g.U.Unit.value c.index-items-place.is) ∙ ap (λ w. c.value-unit.result ∷ w) (sym c.from-following.ensures.values)) c.in-None.ensures.read))

pub returns-in-None-clause-steps : goal.returns-in-None-clause-steps
returns-in-None-clause-steps g c =
    let left = units_left c.loop-place.place c.args.units.now c.from-following.result _ (value_at g.U.Unit.value _ c.loop-place.place _ c.items-items.ensures.values c.loop-place-test.true (c.value-unit.ensures ∙ ap g.U.Unit.value c.index-items-place.is) ∙ ap (λ w. c.value-unit.result ∷ w) (sym c.from-following.ensures.values)) in
    (omega (arith, c.in-None.ensures.steps), omega (arith, c.in-None.ensures.steps, left))

pub returns-then-place-eq0-clause-read : goal.returns-then-place-eq0-clause-read
returns-then-place-eq0-clause-read g c =
    let us = c.args.units.now in
    let none = drop_all 0 (values us) (omega (arith, values_length us, c.items-items.ensures.length, c.loop-place-test.false, c.if-place-eq0.true)) in
    is_name_of c.args.unicode_mode (values us) None (sym (ap (name_of c.args.unicode_mode) none))

pub returns-clause-read : goal.returns-clause-read
returns-clause-read g c =
    let us = c.args.units.now in
    is_name_of c.args.unicode_mode (values us) (Some c.loop-place.name)
    (ends_whole c.args.unicode_mode (values us) c.loop-place.name c.loop-place.place (omega (arith, values_length us)) c.loop-place.invariant.read (omega (arith, c.if-place-eq0.false)) (omega (arith, values_length us, c.items-items.ensures.length, c.loop-place-test.false)))

pub overflow_add-place : goal.overflow_add-place
overflow_add-place g c = omega (arith, c.loop-place-test.true, c.items-items.ensures.short)

pub from-following-requires : goal.from-following-requires
from-following-requires g c = omega (arith, c.loop-place-test.true, c.items-items.ensures.length)

pub returns-in_err-push-in-Some-clause-steps : goal.returns-in_err-push-in-Some-clause-steps
returns-in_err-push-in-Some-clause-steps g c =
    let left = units_left c.loop-place.place c.args.units.now c.from-following.result _ (value_at g.U.Unit.value _ c.loop-place.place _ c.items-items.ensures.values c.loop-place-test.true (c.value-unit.ensures ∙ ap g.U.Unit.value c.index-items-place.is) ∙ ap (λ w. c.value-unit.result ∷ w) (sym c.from-following.ensures.values)) in
    (omega (arith, c.in-Some.ensures.steps), omega (arith, c.in-Some.ensures.steps, left))

pub returns-in-None-clause-least : goal.returns-in-None-clause-least
returns-in-None-clause-least g c = tt

pub returns-then-place-eq0-clause-least : goal.returns-then-place-eq0-clause-least
returns-then-place-eq0-clause-least g c = tt

pub returns-then-place-eq0-clause-steps : goal.returns-then-place-eq0-clause-steps
returns-then-place-eq0-clause-steps g c = (omega (arith, c.loop-place.invariant.least), omega (arith, c.loop-place.invariant.most, c.loop-place.invariant.within))

pub returns-clause-steps : goal.returns-clause-steps
returns-clause-steps g c = (omega (arith, c.loop-place.invariant.least), omega (arith, c.loop-place.invariant.most, c.loop-place.invariant.within))

pub returns-clause-least : goal.returns-clause-least
returns-clause-least g c = omega (arith, c.loop-place.invariant.least, c.loop-place-test.false, c.items-items.ensures.length)
