use Rattle.std.proofs.Common.{arith}
use Rattle.std.proofs.lemmas.Bool.Decides.{nat_tests}
use Rattle.std.proofs.lemmas.Grind.{common_steps}
use Rattle.std.proofs.lemmas.List.{at_drop_all, at_drop_more}
use Rattle.rx_class.proofs.Common.{is_decimal_digit, prefix_len}
use Rattle.rx_units.specs.Stored.{values_of}
use Rattle.rx_model.specs.Characters.LegacyEscapes.{run_number}
use Rattle.rx_class.proofs.EscapeReading.LegacyLooks.{digit_run, number_grows}
use Rattle.rx_class.proofs.escapes.legacy.is_at_most.Goals as goal

pub returns-then-not-is_decimal_digit-clause-all : goal.returns-then-not-is_decimal_digit-clause-all
returns-then-not-is_decimal_digit-clause-all g c = λ _.
    let run = digit_run c.args.units.now in
    let next = at_drop_more (λ xs. prefix_len is_decimal_digit (values_of g.U.Unit.value xs)) c.items-items.result.now c.loop-unit.unit-index c.unit-item.result c.loop-unit-test.true in
    grind (arith, common_steps)

pub returns-then-number-limit-clause-value : goal.returns-then-number-limit-clause-value
returns-then-number-limit-clause-value g c =
    let next = at_drop_more (λ xs. run_number c.loop-unit.number (values_of g.U.Unit.value xs)) c.items-items.result.now c.loop-unit.unit-index c.unit-item.result c.loop-unit-test.true in
    grind (arith, nat_tests, number_grows)

pub returns-clause-all : goal.returns-clause-all
returns-clause-all g c = λ _.
    let run = digit_run c.args.units.now in
    let none = at_drop_all (λ xs. prefix_len is_decimal_digit (values_of g.U.Unit.value xs)) c.items-items.result.now c.loop-unit.unit-index c.loop-unit-test.false in
    grind (arith, common_steps)
