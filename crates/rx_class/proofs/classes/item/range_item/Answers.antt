use Rattle.rx_class.specs.ClassReading.Items.{IsRangeItem, no_memory, range, refused}
use Rattle.rx_class.proofs.Keeping.{handed}
use Rattle.rx_class.proofs.classes.item.range_item.Goals as goal

pub returns-in_err-range : goal.returns-in_err-range
returns-in_err-range c = handed (IsRangeItem c.args.low.now c.args.high.now) c.from_residual.ensures.1 (refused c.in_err-range.ensures)

pub returns-in_err-range_contents : goal.returns-in_err-range_contents
returns-in_err-range_contents c = handed (IsRangeItem c.args.low.now c.args.high.now) c.from_residual-in_err-range_contents.ensures.1 no_memory

pub returns : goal.returns
returns c = range c.in_ok-range.ensures c.in_ok-range_contents.ensures
