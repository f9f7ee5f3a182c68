-- What a reading keeps while it goes on.
use Rattle.std.specs.Prelude.{◌≡◌}
use Rattle.rx_class.specs.declared.reading.Reading.{Reading}

-- One reading, before and after: it has the same reader, which may have moved, the same counter, and the same state and spans.
pub record ReadsOn {S C U : Type 0} {s : _} {u : _} (old new : Reading S C U s u) : Type 0 where
  pub reader : new.reader.ghost_name ≡ old.reader.ghost_name
  pub steps : new.steps.ghost_name ≡ old.steps.ghost_name
  pub state : new.state.now ≡ old.state.now
  pub spans : new.spans.now ≡ old.spans.now
