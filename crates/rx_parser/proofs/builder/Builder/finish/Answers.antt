use Rattle.rx_parser.proofs.FrameEvents.{builder_finish, frames_none}
use Rattle.rx_parser.proofs.Goods.{good_whole}
use Rattle.rx_parser.proofs.builder.Builder.finish.Goals as goal

pub returns-clause-events : goal.returns-clause-events
returns-clause-events c = builder_finish c.args.self _ c.args.at (frames_none _ c.requires) c.new.ensures c.in_ok-finish.ensures.events

pub returns-clause-good : goal.returns-clause-good
returns-clause-good c = λ h. c.in_ok-finish.ensures.good c.args.self.mode (good_whole c.args.self h)
