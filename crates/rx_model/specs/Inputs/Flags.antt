-- Flags texts.
use Rattle.std.specs.Prelude.{ℕ, Bool, true, ◌&&◌, ◌||◌, not, List, [], ◌∷◌, if◌then◌else◌}
use Rattle.rx_base.specs.Ascii as ascii
use Rattle.rx_base.specs.Flags.{holds, is_flag}
use Rattle.rx_model.specs.declared.mode.Mode.{Mode}
use Rattle.rx_model.specs.declared.mode.Mode.TheVariants.{Legacy, Unicode, Sets}

-- each is a flag, and none occurs twice
abbrev pub are_distinct_flags : List ℕ → Bool
are_distinct_flags [] = true
are_distinct_flags (f ∷ fs) = (is_flag f && not (holds fs f)) && are_distinct_flags fs

-- ParsePattern and RegExpInitialize (22.2.3.3): flags, none twice, not `u` and `v` both
abbrev pub flags_ok : List ℕ → Bool
flags_ok fs = are_distinct_flags fs && not (holds fs ascii.u && holds fs ascii.v)

abbrev pub mode_of : List ℕ → Mode
mode_of fs = if holds fs ascii.v then Sets else (if holds fs ascii.u then Unicode else Legacy)

-- whether the flags ask for a unicode mode, and for sets mode
abbrev pub modes_of : List ℕ → Bool × Bool
modes_of fs = (holds fs ascii.v || holds fs ascii.u, holds fs ascii.v)
