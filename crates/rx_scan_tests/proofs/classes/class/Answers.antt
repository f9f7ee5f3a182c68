use Rattle.std.proofs.Common.{refl, ◌∙◌, sym, subst, ◌+◌, ◌-◌, ◌<◌, ◌^◌, true, arith, rules, length}
use Rattle.rx_units.specs.Cursor.{Cursor}
use Rattle.rx_class.specs.ClassReading.Answers.{HoldsFirstPass}
use Rattle.rx_class.proofs.FirstPasses.{holds_first_pass, without_err}
use Rattle.rx_class.proofs.TextFits.{made_are_fitting}
use Rattle.rx_scan_tests.proofs.classes.class.Goals as goal

pub counted_class-found-requires-clause-pass : goal.counted_class-found-requires-clause-pass
counted_class-found-requires-clause-pass c =
    let it = c.initialize_with_parsing.ensures in
    let call = c.initialize_with_parsing.result in
    let no_err = sym c.if-is_err.ensures.value in
    let new = c.initialize_with_parsing.new.self in
    let small : new.num_of_capturing_groups < 2 ^ 32 - 1 = search rules in
    subst (λ (r : Cursor). HoldsFirstPass new r.units) (sym it.reader)
    (holds_first_pass c.in_ok-reader.reader.units c.new-state.result new it.counted.unicode_mode it.counted.unicode_sets_mode
    (without_err call no_err it.counted.groups) (without_err call no_err it.counted.names) small)

pub counted_class-found-requires-clause-fits : goal.counted_class-found-requires-clause-fits
counted_class-found-requires-clause-fits c =
    let fits : c.new-spans.result + length c.args.text.now < 2 ^ 32 = omega (arith, c.requires, c.new-spans.ensures) in
    made_are_fitting true c.args.text.now c.new-spans.result c.initialize_with_parsing.new.reader c.utf8.text fits (c.initialize_with_parsing.ensures.reader ∙ c.in_ok-reader.ensures.literal refl)
