use Rattle.std.proofs.Common.{refl}
use Rattle.rx_parser.proofs.Turns.{before, has_turned}
use Rattle.rx_parser.proofs.turn.Parse.take_common.Goals as goal

pub plain_run-requires-clause-before : goal.plain_run-requires-clause-before
plain_run-requires-clause-before g c = before c.requires

pub returns-clause-turned : goal.returns-clause-turned
returns-clause-turned g c = has_turned c.requires c.in_ok-plain_run.ensures.turned refl refl
