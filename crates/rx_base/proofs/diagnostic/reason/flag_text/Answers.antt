use Rattle.rx_base.proofs.Messages.{shown_in_hex}
use Rattle.rx_base.proofs.diagnostic.reason.flag_text.Goals as goal

pub returns-in_ok-write-in-None : goal.returns-in_ok-write-in-None
returns-in_ok-write-in-None c =
    let empty = c.new-text.ensures in
    shown_in_hex c.new-text.result c.write.new.self _ c.args.flag c.ranges.flag.fits c.in-None.ensures.cases empty.text empty.intact c.in_radix.ensures c.in_ok-write-in-None.ensures.writes
