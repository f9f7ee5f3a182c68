-- What a call that reads and writes tells of faults.
use Rattle.std.specs.Prelude.{◌≡◌, ℕ, List}
use Rattle.rx_base.specs.FaultCounts.{Rose}

-- Where the result tells of a fault of reading, the source had one, and where it tells of none, there was none; so with the sink and writing. `source_faults`,
-- `sink_faults` and `fixed_part` are those of the source and of the sink.
pub record TellsFaults {S K : Type 0} (source_faults : S → ℕ) (sink_faults : K → ℕ) (fixed_part : K → List ℕ) (source source' : S) (sink sink' : K) (tells_read tells_write : Type 0) : Type 0 where
  pub fixed : fixed_part sink' ≡ fixed_part sink
  pub read_fault : tells_read → Rose (source_faults source) (source_faults source')
  pub write_fault : tells_write → Rose (sink_faults sink) (sink_faults sink')
  pub no_read_fault : ¬ tells_read → source_faults source' ≡ source_faults source
  pub no_write_fault : ¬ tells_write → sink_faults sink' ≡ sink_faults sink
