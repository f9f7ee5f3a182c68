use Rattle.rx_parser.proofs.Leaves.{property_is_leaf}
use Rattle.rx_parser.proofs.term.property_term.Goals as goal

pub returns : goal.returns
returns c = property_is_leaf c.in_ok-new.field-0 c.args.escape c.in_ok-new.ensures.ok
