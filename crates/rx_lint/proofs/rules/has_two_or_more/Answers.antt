use Rattle.std.proofs.Common.{ap, sym, ◌∙◌, Some}
use Rattle.rx_ast.specs.MirrorKinds.{mirror_kind}
use Rattle.rx_lint.specs.Rules.{has_two_or_more}
use Rattle.rx_lint.proofs.OtherNodes.{no_disjunction, two_alternatives, one_alternative}
use Rattle.rx_lint.proofs.rules.has_two_or_more.Goals as goal

pub returns-in-Some : goal.returns-in-Some
returns-in-Some c = two_alternatives c.in-Disjunction.it.now _ c.in-Some.ensures.value ∙ sym (ap (λ n. has_two_or_more (Some (mirror_kind n))) c.in-Disjunction.is)

pub returns-in-None : goal.returns-in-None
returns-in-None c = one_alternative c.in-Disjunction.it.now c.in-None.ensures.value ∙ sym (ap (λ n. has_two_or_more (Some (mirror_kind n))) c.in-Disjunction.is)

pub returns-in_default : goal.returns-in_default
returns-in_default c = sym (no_disjunction c.args.node c.in_default.not-Disjunction)
