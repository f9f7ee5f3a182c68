use Rattle.rx_rewrite.proofs.ReadBack.{rewritten_is_read_back}
use Rattle.rx_rewrite.proofs.laws.spelling_is_read_back.Goals as goal

pub returns : goal.returns
returns c = λ what flags p q mode rules us is reads fit some. rewritten_is_read_back what flags p q is mode rules us reads fit some
