use Rattle.std.proofs.Common.{refl, ap, ◌∙◌}
use Rattle.rx_parser.proofs.Common.{out-roll-Disjunction}
use Rattle.rx_parser.proofs.EventEquations.{level_finish}
use Rattle.rx_parser.proofs.Goods.{good_finish}
use Rattle.rx_parser.proofs.level.Level.finish.Goals as goal

pub returns-clause-events : goal.returns-clause-events
returns-clause-events c = level_finish c.args.self _ _ c.args.at (ap (λ d. d.body) (out-roll-Disjunction _) ∙ (rw c.in_ok-alternatives.ensures at c.in_ok-push.ensures.ok)) (ap (λ d. d.span.start) (out-roll-Disjunction _) ∙ ap (λ s. s.start) c.new-2.ensures) (ap (λ d. d.span.end) (out-roll-Disjunction _) ∙ ap (λ s. s.end) c.new-2.ensures) (ap (λ s. s.start) c.new.ensures) (ap (λ s. s.end) c.new.ensures) refl

pub returns-clause-good : goal.returns-clause-good
returns-clause-good c = λ mode. good_finish mode c.args.self _ _ (ap (λ d. d.body) (out-roll-Disjunction _) ∙ (rw c.in_ok-alternatives.ensures at c.in_ok-push.ensures.ok)) refl
