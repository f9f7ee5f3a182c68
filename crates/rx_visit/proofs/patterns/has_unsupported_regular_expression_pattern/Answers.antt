use Rattle.rx_visit.proofs.Finders.{finder_visit}
use Rattle.rx_visit.proofs.patterns.has_unsupported_regular_expression_pattern.Goals as goal

pub returns : goal.returns
returns c = finder_visit _ _ _ c.walk_pattern.ensures
