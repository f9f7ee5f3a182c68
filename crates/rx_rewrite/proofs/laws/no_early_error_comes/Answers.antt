use Rattle.rx_rewrite.proofs.Early.{its_early}
use Rattle.rx_rewrite.proofs.Patterns.{its_shape}
use Rattle.rx_rewrite.proofs.laws.no_early_error_comes.Goals as goal

pub returns-clause-early : goal.returns-clause-early
returns-clause-early c = λ what flags p q rules is early. its_early what flags p q is rules early

pub returns-clause-shape : goal.returns-clause-shape
returns-clause-shape c = λ what flags p q mode is made. its_shape what flags p q is mode made
