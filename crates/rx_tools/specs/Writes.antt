-- That a text is written.
use Rattle.std.specs.Prelude.{ℕ, List, Option}
use Rattle.std.specs.Io.KnownBytes.{Appends}
use Rattle.rx_tools.specs.Utf8.{utf8}

-- The sink w is v after a text was written. `taken` is the ghost member of the sink.
abbrev pub writes : {W : Type 0} → (W → Option (List ℕ)) → W → List ℕ → W → Type 0
writes taken v text w = Appends (taken v) (taken w) (utf8 text)
