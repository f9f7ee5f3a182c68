-- What a call wrote to a sink.
use Rattle.std.specs.Prelude.{◌≡◌, ℕ, ◌<◌, List, ◌++◌, length, Option, Result, OnOk, OnErr}
use Rattle.std.specs.Io.KnownBytes.{Appends}
use Rattle.rx_base.specs.FaultCounts.{CountsFaults}

-- Known bytes grew by the front of these, of which at least one byte is missing.
pub record AppendsFront (old new : Option (List ℕ)) (bytes : List ℕ) : Type 0 where
  pub front : List ℕ
  pub back : List ℕ
  pub cut : bytes ≡ front ++ back
  pub missing : 0 < length back
  pub appended : Appends old new front

-- All bytes were written, or the sink had a fault and only their front was written. `taken`, `fixed` and `faults` are those of the
-- sink.
pub record Written {K T E : Type 0} (taken : K → Option (List ℕ)) (fixed : K → List ℕ) (faults : K → ℕ) (old new : K) (result : Result T E) (bytes : List ℕ) : Type 0 where
  pub whole : OnOk result (Appends (taken old) (taken new) bytes)
  pub part : OnErr result (AppendsFront (taken old) (taken new) bytes)
  pub kept : fixed new ≡ fixed old
  pub cause : CountsFaults (faults old) (faults new) result
