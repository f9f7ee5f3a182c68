-- What is to go from patterns.
use Rattle.std.specs.Prelude.{true}
use Rattle.rx_rewrite.specs.declared.rewrites.Rewrites.{Rewrites}
use Rattle.rx_rewrite.specs.declared.wanted.Wanted.{Wanted}
use Rattle.rx_rewrite.specs.declared.wanted.Wanted.TheVariants.{All, Listed}

abbrev pub rewrites_of : Wanted → Rewrites
rewrites_of All = record { named_capture_groups = true; dot_all = true; multiline = true; pattern_modifiers = true }
rewrites_of (Listed what) = what
