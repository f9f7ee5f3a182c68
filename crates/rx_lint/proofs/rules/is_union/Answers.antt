use Rattle.std.proofs.Common.{ap, sym, ◌∙◌, Some}
use Rattle.rx_ast.specs.MirrorKinds.{mirror_kind}
use Rattle.rx_lint.specs.Rules.{is_union}
use Rattle.rx_lint.proofs.OtherNodes.{no_class, union_class, intersection_class, subtraction_class}
use Rattle.rx_lint.proofs.rules.is_union.Goals as goal

pub returns-in-Union : goal.returns-in-Union
returns-in-Union c = union_class c.in-CharacterClass.it.now c.in-Union.is ∙ sym (ap (λ n. is_union (Some (mirror_kind n))) c.in-CharacterClass.is)

pub returns-in-Intersection : goal.returns-in-Intersection
returns-in-Intersection c = intersection_class c.in-CharacterClass.it.now c.in-Intersection.is ∙ sym (ap (λ n. is_union (Some (mirror_kind n))) c.in-CharacterClass.is)

pub returns-in-Subtraction : goal.returns-in-Subtraction
returns-in-Subtraction c = subtraction_class c.in-CharacterClass.it.now c.in-Subtraction.is ∙ sym (ap (λ n. is_union (Some (mirror_kind n))) c.in-CharacterClass.is)

pub returns-in_default : goal.returns-in_default
returns-in_default c = sym (no_class c.args.node c.in_default.not-CharacterClass).1
