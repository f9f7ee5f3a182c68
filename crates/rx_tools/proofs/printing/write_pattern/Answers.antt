use Rattle.rx_tools.proofs.Tasks.{spelling_is}
use Rattle.rx_tools.proofs.printing.write_pattern.Goals as goal

pub returns : goal.returns
returns g c = rw (spelling_is c.args.pattern.now c.args.mode _ c.as_slice.ensures, ← c.whole_body-body.ensures.text, ← c.new.ensures.text) c.work_through.ensures
