use Rattle.rx_rewrite.proofs.SameSupport.{same_support}
use Rattle.rx_rewrite.proofs.laws.refusals_stay.Goals as goal

pub returns : goal.returns
returns c = same_support
