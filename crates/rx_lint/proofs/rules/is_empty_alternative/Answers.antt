use Rattle.std.proofs.Common.{ap, sym, ◌∙◌}
use Rattle.rx_ast.specs.MirrorKinds.{mirror_kind}
use Rattle.rx_lint.specs.Rules.{is_empty_alternative}
use Rattle.rx_lint.proofs.OtherNodes.{no_terms_in, with_terms, without_terms}
use Rattle.rx_lint.proofs.rules.is_empty_alternative.Goals as goal

pub returns-in-Some : goal.returns-in-Some
returns-in-Some c = with_terms c.in-Alternative.it.now _ c.in-Some.ensures.value ∙ sym (ap (λ n. is_empty_alternative (mirror_kind n)) c.in-Alternative.is)

pub returns-in-None : goal.returns-in-None
returns-in-None c = without_terms c.in-Alternative.it.now c.in-None.ensures.value ∙ sym (ap (λ n. is_empty_alternative (mirror_kind n)) c.in-Alternative.is)

pub returns-in_default : goal.returns-in_default
returns-in_default c = sym (no_terms_in c.args.node c.in_default.not-Alternative)
