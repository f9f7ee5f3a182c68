use Rattle.std.proofs.Common.{ap, sym, ◌∙◌, length}
use Rattle.rx_match.proofs.Entries.{row-none, row-last}
use Rattle.rx_match.proofs.slots.last_row.Goals as goal

pub returns-in-None : goal.returns-in-None
returns-in-None c = sym (row-none c.args.entries.now (ap length (sym c.as_slice.ensures) ∙ c.in-None.ensures.cases))

pub returns-in-Some : goal.returns-in-Some
returns-in-Some c = c.row_of.ensures ∙ sym (row-last c.in-Some.last.now c.args.entries.now c.in-Some.field-0-1.now (sym c.as_slice.ensures ∙ c.in-Some.ensures.cases.0))
