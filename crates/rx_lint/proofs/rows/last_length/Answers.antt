use Rattle.rx_lint.proofs.NodeNumbers.{last_some, last_none}
use Rattle.rx_lint.proofs.rows.last_length.Goals as goal

pub returns-in-Some : goal.returns-in-Some
returns-in-Some c = last_some c.args.rows.now c.in-Some.row.now c.in-Some.ensures.value

pub returns-in-None : goal.returns-in-None
returns-in-None c = last_none c.args.rows.now c.in-None.ensures.value
