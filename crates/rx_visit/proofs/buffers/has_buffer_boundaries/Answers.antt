use Rattle.rx_visit.proofs.Finders.{buffers_visit}
use Rattle.rx_visit.proofs.buffers.has_buffer_boundaries.Goals as goal

pub returns : goal.returns
returns c = buffers_visit _ _ _ c.walk_pattern.ensures
