use Rattle.std.proofs.Common.{sym, arith}
use Rattle.rx_records.proofs.Made.{with_end_past, with_end_set}
use Rattle.rx_records.proofs.records.set_next.Goals as goal

pub returns-then-at-nodes : goal.returns-then-at-nodes
returns-then-at-nodes c = sym (with_end_set c.args.at c.args.next c.args.nodes.now _ c.if-at-nodes.true)

pub returns-else-at-nodes : goal.returns-else-at-nodes
returns-else-at-nodes c = sym (with_end_past c.args.at c.args.next c.args.nodes.now (λ within. absurd (omega arith)))
