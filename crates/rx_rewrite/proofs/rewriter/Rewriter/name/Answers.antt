use Rattle.std.proofs.Common.{None, if◌then◌else◌, sym, ap, ◌∙◌}
use Rattle.std.proofs.lemmas.Result.{IfOk-weaker}
use Rattle.rx_rewrite.proofs.rewriter.Rewriter.name.Goals as goal

pub returns-then-self : goal.returns-then-self
returns-then-self c = λ names. ap (λ b. if b then None else c.args.name.now) (sym c.if-self.true)

pub returns-else-self : goal.returns-else-self
returns-else-self c = IfOk-weaker c.copy_text.result _ _ (λ it same names. same ∙ ap (λ b. if b then None else c.args.name.now) (sym c.if-self.false)) c.copy_text.ensures
