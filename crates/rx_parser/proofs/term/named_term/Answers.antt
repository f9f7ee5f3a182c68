use Rattle.rx_parser.proofs.Leaves.{named_is_leaf}
use Rattle.rx_parser.proofs.term.named_term.Goals as goal

pub returns : goal.returns
returns c = named_is_leaf c.in_ok-new.field-0 _ c.in_ok-new.ensures.ok
