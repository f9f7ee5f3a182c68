use Rattle.std.proofs.Common.{ap, arith, drop, subst, sym, ◌≤◌, ◌∙◌}
use Rattle.std.proofs.lemmas.List.Elements.{All-drop}
use Rattle.rx_class.proofs.Common.{CodePoint, IsCommonAtom, StandsItem, environment_of, values}
use Rattle.rx_model.specs.Classes.ClassRows.{is_dashed}
use Rattle.rx_class.proofs.ClassReading.Atoms.{common_within}
use Rattle.rx_class.proofs.ClassReading.Ranges.{after_dash}
use Rattle.rx_class.proofs.reading.Reading.item_front.Goals as goal

pub from-after-requires : goal.from-after-requires
from-after-requires g c = common_within (c.in-Some.ensures (environment_of c.args.self.now.state.now) (sym c.is_unicode-unicode.ensures) c.requires.no_sets)

pub from-requires : goal.from-requires
from-requires g c = (after_dash c.from-after.result (sym c.is_dashed.ensures ∙ c.if-not-is_dashed.false)).0

pub common_atom_at-requires-2-clause-stands : goal.common_atom_at-requires-2-clause-stands
common_atom_at-requires-2-clause-stands g c = subst StandsItem (sym c.from.ensures.units) (after_dash c.from-after.result (sym c.is_dashed.ensures ∙ c.if-not-is_dashed.false)).1

pub common_atom_at-requires-2-clause-code_points : goal.common_atom_at-requires-2-clause-code_points
common_atom_at-requires-2-clause-code_points g c =
    let small = λ (u : CodePoint). u.value ≤ 0x10FFFF in
    rw (c.from.ensures.units, c.from-after.ensures.units) (All-drop small 1 _ (All-drop small c.in-Some.low.length _ c.units-units.ensures.code_points))

pub returns-then-not-is_dashed : goal.returns-then-not-is_dashed
returns-then-not-is_dashed g c =
    let e = environment_of c.args.self.now.state.now in
    record {
      common = subst (λ us. IsCommonAtom e us c.in-Some.low) c.units-units.ensures.units (c.in-Some.ensures e (sym c.is_unicode-unicode.ensures) c.requires.no_sets);
      alone = ap (λ us. is_dashed (values us)) (sym (c.from-after.ensures.units ∙ ap (drop c.in-Some.low.length) c.units-units.ensures.units)) ∙ sym c.is_dashed.ensures ∙ c.if-not-is_dashed.true;
    }

pub returns : goal.returns
returns g c =
    let e = environment_of c.args.self.now.state.now in
    let here = c.from-after.ensures.units ∙ ap (drop c.in-Some.low.length) c.units-units.ensures.units in
    record {
      low_is = subst (λ us. IsCommonAtom e us c.in-Some.low) c.units-units.ensures.units (c.in-Some.ensures e (sym c.is_unicode-unicode.ensures) c.requires.no_sets);
      dashed = ap (λ us. is_dashed (values us)) (sym here) ∙ sym c.is_dashed.ensures ∙ c.if-not-is_dashed.false;
      high_is = subst (λ us. IsCommonAtom e us c.in-Some-common_atom_at.high) (c.from.ensures.units ∙ ap (drop 1) here) (c.in-Some-common_atom_at.ensures e (sym c.is_unicode-unicode.ensures) c.requires.no_sets);
      ordered = omega arith;
    }
