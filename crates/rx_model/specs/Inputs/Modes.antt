-- Modes, by two truth values.
use Rattle.std.specs.Prelude.{Bool, true, false}
use Rattle.rx_model.specs.declared.mode.Mode.{Mode}
use Rattle.rx_model.specs.declared.mode.Mode.TheVariants.{Legacy, Unicode, Sets}

-- the mode by whether it is a unicode mode, and whether it is sets mode
abbrev pub mode_by : Bool → Bool → Mode
mode_by unicode true = Sets
mode_by true false = Unicode
mode_by false false = Legacy
