use Rattle.rx_paint.proofs.NoOther.{no_token_is_other}
use Rattle.rx_paint.proofs.laws.no_token_is_other.Goals as goal

pub returns : goal.returns
returns c mode rules p us first added rising row = no_token_is_other mode rules p us first added rising row
