use Rattle.std.proofs.Common.{if◌then◌else◌, sym, ap, ◌∙◌}
use Rattle.rx_rewrite.specs.Rewriting.{modifiers_kept}
use Rattle.rx_rewrite.proofs.rewriter.Rewriter.modifiers.Goals as goal

pub returns-then-self : goal.returns-then-self
returns-then-self c = λ names. c.modifiers_kept.ensures ∙ ap (λ b. if b then modifiers_kept c.args.modifiers.now else c.args.modifiers.now) (sym c.if-self.true)

pub returns-else-self : goal.returns-else-self
returns-else-self c = λ names. c.modifiers_copied.ensures ∙ ap (λ b. if b then modifiers_kept c.args.modifiers.now else c.args.modifiers.now) (sym c.if-self.false)
