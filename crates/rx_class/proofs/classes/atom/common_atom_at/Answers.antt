use Rattle.std.proofs.Common.{◌∙◌, ap, arith, subst}
use Rattle.rx_scan.proofs.MarkSteps.{value_at}
use Rattle.rx_class.specs.EscapeReading.CommonEscapes.{IsCommonEscape}
use Rattle.rx_class.proofs.ClassReading.Atoms.{escape_common, stands_some, unit_common}
use Rattle.rx_class.proofs.classes.atom.common_atom_at.Goals as goal

pub returns-then-first : goal.returns-then-first
returns-then-first g c = λ e unicode no_sets.
    let unit = c.unit_atom.ensures in
    unit_common e no_sets c.args.units.now c.unit_atom.result c.requires.stands c.requires.code_points
    (value_at g.U.Unit.value _ 0 _ c.items.ensures.values (omega (arith, c.items.ensures.length, stands_some c.requires.stands)) (c.value-first.ensures ∙ ap g.U.Unit.value c.index-items-0.is))
    c.escape_kind.ensures c.if-first.true unit.kind unit.value unit.length

pub returns : goal.returns
returns g c = λ e unicode no_sets.
    escape_common e c.args.units.now c.in_ok-escape.escape c.requires.stands
    (value_at g.U.Unit.value _ 0 _ c.items.ensures.values (omega (arith, c.items.ensures.length, stands_some c.requires.stands)) (c.value-first.ensures ∙ ap g.U.Unit.value c.index-items-0.is))
    c.if-first.false unicode (subst (λ us. IsCommonEscape c.args.unicode_mode us c.in_ok-escape.escape) c.from.ensures.units c.in_ok-escape.ensures)
