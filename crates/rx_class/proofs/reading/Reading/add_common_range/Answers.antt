use Rattle.rx_class.proofs.ClassReading.Ranges.{range_added, range_not_added}
use Rattle.rx_class.proofs.reading.Reading.add_common_range.Goals as goal

pub returns-clause-added : goal.returns-clause-added
returns-clause-added g c = range_added _ _ _ _ _ _ c.push_range.result c.take_common_range-range.ensures.gives c.push_range.ensures

pub returns-clause-refused : goal.returns-clause-refused
returns-clause-refused g c = range_not_added _ _ _ _ _ _ _ c.push_range.result c.take_common_range-range.ensures.keeps c.push_range.ensures
