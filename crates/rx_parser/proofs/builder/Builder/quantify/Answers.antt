use Rattle.rx_parser.proofs.Common.{IfOk-weaker, Repeats}
use Rattle.rx_parser.proofs.FrameEvents.{builder_inner}
use Rattle.rx_parser.proofs.Goods.{good_level}
use Rattle.rx_parser.proofs.builder.Builder.quantify.Goals as goal

pub returns-clause-events : goal.returns-clause-events
returns-clause-events c = IfOk-weaker c.quantify.result _ _ (λ it h t. builder_inner c.args.self.now (λ old new. Repeats old new c.args.counts.0 c.args.counts.1 c.args.greedy c.args.after) c.quantify.new.self (h t)) c.quantify.ensures.events

pub returns-clause-good : goal.returns-clause-good
returns-clause-good c = IfOk-weaker c.quantify.result _ _ (λ it h t. good_level c.args.self.now c.quantify.new.self (h t)) c.quantify.ensures.good
