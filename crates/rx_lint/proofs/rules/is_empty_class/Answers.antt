use Rattle.std.proofs.Common.{ap, sym, ◌∙◌}
use Rattle.rx_ast.specs.MirrorKinds.{mirror_kind}
use Rattle.rx_lint.specs.Rules.{is_empty_class}
use Rattle.rx_lint.proofs.OtherNodes.{no_class, class_with_items, class_without_items}
use Rattle.rx_lint.proofs.rules.is_empty_class.Goals as goal

pub returns-in-Some : goal.returns-in-Some
returns-in-Some c = class_with_items c.in-CharacterClass.it.now _ c.in-Some.ensures.value ∙ sym (ap (λ n. is_empty_class (mirror_kind n)) c.in-CharacterClass.is)

pub returns-in-None : goal.returns-in-None
returns-in-None c = class_without_items c.in-CharacterClass.it.now c.in-None.ensures.value ∙ sym (ap (λ n. is_empty_class (mirror_kind n)) c.in-CharacterClass.is)

pub returns-in_default : goal.returns-in_default
returns-in_default c = sym (no_class c.args.node c.in_default.not-CharacterClass).0
