use Rattle.rx_rewrite.proofs.SameOutcomes.{same_states}
use Rattle.rx_rewrite.proofs.laws.states_stay.Goals as goal

pub returns : goal.returns
returns c = λ what flags tree input start can. same_states what flags tree can input start
