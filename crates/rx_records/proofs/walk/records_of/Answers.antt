use Rattle.rx_records.proofs.Made.{whole_made}
use Rattle.rx_records.proofs.walk.records_of.Goals as goal

pub returns : goal.returns
returns c =
    whole_made c.in_ok-made.made _ _ _ _ _ c.in_ok-made.ensures.nodes c.in_ok-made.ensures.groups c.in_ok-made.ensures.texts c.in_ok-whole.ensures.node c.in_ok-whole.ensures.of c.in_ok-whole.ensures.rest c.in_ok-work_through.ensures
