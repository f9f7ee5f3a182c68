use Rattle.rx_refusal.proofs.FlagText.{flag_shown}
use Rattle.rx_refusal.proofs.values.text_of_flag.Goals as goal

pub returns-in_ok-format-in-None : goal.returns-in_ok-format-in-None
returns-in_ok-format-in-None c = flag_shown _ _ c.args.flag c.ranges.flag.fits c.in-None.ensures.cases c.in_radix.ensures c.in_ok-format-in-None.ensures.ok
