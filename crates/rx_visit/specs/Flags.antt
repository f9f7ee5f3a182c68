-- Flags that are not valid (ParsePattern and RegExpInitialize, 22.2.3.3), or not supported.
use Rattle.std.specs.Prelude.{ℕ, Bool, false, ◌==◌, ◌&&◌, ◌||◌, not, List, [], ◌∷◌}
use Rattle.rx_base.specs.Ascii as ascii
use Rattle.rx_base.specs.Flags.{holds, is_flag}
use Rattle.rx_visit.specs.declared.flags.RegexUnsupportedFlags.{RegexUnsupportedFlags}

-- one of those that are not supported
abbrev pub is_unsupported_flag : RegexUnsupportedFlags → ℕ → Bool
is_unsupported_flag set f =
    (set.match_indices && f == ascii.d) || (set.dot_all && f == ascii.s) || (set.unicode && f == ascii.u) || (set.unicode_sets && f == ascii.v)
    || (set.sticky && f == ascii.y)

-- a flag, and none of those
abbrev pub is_supported_flag : RegexUnsupportedFlags → ℕ → Bool
is_supported_flag set f = is_flag f && not (is_unsupported_flag set f)

-- one is not supported, or occurs twice
abbrev pub has_refused : RegexUnsupportedFlags → List ℕ → Bool
has_refused set [] = false
has_refused set (f ∷ fs) = (not (is_supported_flag set f) || holds fs f) || has_refused set fs

-- or `u` and `v` both occur
abbrev pub are_refused_flags : RegexUnsupportedFlags → List ℕ → Bool
are_refused_flags set fs = has_refused set fs || (holds fs ascii.u && holds fs ascii.v)
