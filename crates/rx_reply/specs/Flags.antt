-- What the flags of a request ask of a match.
use Rattle.std.specs.Prelude.{ℕ, List}
use Rattle.rx_base.specs.Ascii as ascii
use Rattle.rx_base.specs.Flags.{holds}
use Rattle.rx_model.specs.declared.mode.Mode.{Mode}
use Rattle.rx_model.specs.Inputs.Environment.{is_unicode}
use Rattle.rx_trace.specs.declared.answer.MatchFlags.{MatchFlags}

-- how a pattern that is read in this mode, with these flags, is matched (RegExpInitialize of ECMA-262, 22.2.3.3): `i`, `m` and `s` are flags of the match, and the mode
-- says whether its units are characters
abbrev pub match_flags : Mode → List ℕ → MatchFlags
match_flags mode letters = record { ignore_case = holds letters ascii.i; multiline = holds letters ascii.m; dot_all = holds letters ascii.s; unicode_mode = is_unicode mode }
