use Rattle.std.proofs.Common.{◌∙◌, ap, arith, sym, subst}
use Rattle.rx_scan.proofs.MarkSteps.{value_at}
use Rattle.rx_class.proofs.Common.{IsCommonAtom, StandsItem, environment_of}
use Rattle.rx_class.proofs.ClassReading.Atoms.{stands_some, unit_common}
use Rattle.rx_class.proofs.reading.Reading.class_atom.Goals as goal

pub take_common-requires : goal.take_common-requires
take_common-requires g c =
    let e = environment_of c.args.self.now.state.now in
    let unit = c.unit_atom-atom.ensures in
    let here = c.units-units.ensures.units in
    let stands = subst StandsItem (sym here) c.requires.stands in
    subst (λ us. IsCommonAtom e us c.unit_atom-atom.result) here
    (unit_common e c.requires.no_sets c.units-units.result c.unit_atom-atom.result stands c.units-units.ensures.code_points
    (value_at g.S.Unit.Unit.value _ 0 _ c.items.ensures.values (omega (arith, c.items.ensures.length, stands_some stands)) (c.value-first.ensures ∙ ap g.S.Unit.Unit.value c.index-items-0.is))
    c.escape_kind.ensures c.if-first.false unit.kind unit.value unit.length)
