use Rattle.rx_visit.proofs.Finders.{counter_visit, twice_of}
use Rattle.rx_visit.proofs.patterns.is_twice.Goals as goal

pub returns : goal.returns
returns c = twice_of _ _ (counter_visit _ _ _ c.walk_pattern.ensures).1
