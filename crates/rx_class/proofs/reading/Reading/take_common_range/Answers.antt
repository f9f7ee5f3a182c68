use Rattle.std.proofs.Common.{ap, arith, drop, subst, sym, ◌∙◌}
use Rattle.rx_ast.specs.ClassTree.{range}
use Rattle.rx_class.proofs.Common.{IsCommonAtom, Span, environment_of, values}
use Rattle.rx_model.specs.Classes.ClassRows.{is_dashed}
use Rattle.rx_class.proofs.ClassReading.Ranges.{common_range_gives}
use Rattle.rx_class.proofs.Keeping.{keeps_on, moved_keeps, rest_moved}
use Rattle.rx_class.proofs.Readings.{reads_on}
use Rattle.rx_class.proofs.reading.Reading.take_common_range.Goals as goal

pub take_common-max-requires : goal.take_common-max-requires
take_common-max-requires g c =
    let e = environment_of c.args.self.now.state.now in
    let on = reads_on c.take_common-min.ensures.on c.advance.ensures.on in
    let here = ap (drop 1) (rest_moved c.args.low.length _ _ c.take_common-min.ensures.reader) ∙ rest_moved 1 _ _ c.advance.ensures.reader in
    rw on.state (subst (λ us. IsCommonAtom e us c.args.high) here c.requires.front.high_is)

pub returns-clause-keeps : goal.returns-clause-keeps
returns-clause-keeps g c =
    keeps_on (keeps_on (moved_keeps _ _ _ c.take_common-min.ensures.reader) (moved_keeps 1 _ _ c.advance.ensures.reader)) (moved_keeps _ _ _ c.take_common-max.ensures.reader)

pub returns-clause-gives : goal.returns-clause-gives
returns-clause-gives g c = λ given is.
    let min = c.take_common-min in
    let max = c.take_common-max in
    let on = reads_on min.ensures.on c.advance.ensures.on in
    let dashed = ap (λ us. is_dashed (values us)) (sym (rest_moved c.args.low.length _ _ min.ensures.reader)) ∙ c.requires.front.dashed in
    common_range_gives _ _ _ _ dashed min.ensures.gives c.advance.ensures.reader (rw (on.state, on.spans) at max.ensures.gives) (omega (arith, min.ensures.value, max.ensures.value, c.requires.front.ordered))
    (is ∙ ap (λ (s : Span). range (record { span = s; min = min.result; max = max.result })) c.new-span.ensures)
