use Rattle.rx_parser.proofs.Common.{on_ok_weaker}
use Rattle.rx_parser.proofs.FrameEvents.{opened_after}
use Rattle.rx_parser.proofs.builder.Builder.open.Goals as goal

pub returns-clause-openers : goal.returns-clause-openers
returns-clause-openers c = on_ok_weaker c.push.result (λ e. opened_after c.args.self.now.frames c.push.new.self _ e) c.push.ensures.ok
