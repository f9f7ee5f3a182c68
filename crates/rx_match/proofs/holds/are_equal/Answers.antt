use Rattle.std.proofs.Common.{◌∙◌}
use Rattle.rx_trace.proofs.EqualUnits.{pointwise_is}
use Rattle.rx_match.proofs.holds.are_equal.Goals as goal

pub returns : goal.returns
returns c = c.eq.ensures ∙ pointwise_is c.args.a.now c.args.b.now
