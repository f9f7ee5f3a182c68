-- Lists of what is to go from patterns.
use Rattle.std.specs.Prelude.{ℕ, Bool, List, codes}
use Rattle.rx_rewrite.specs.declared.rewrites.Rewrites.{Rewrites}
use Rattle.rx_command.specs.declared.constructs.Construct.{Construct}
use Rattle.rx_command.specs.declared.constructs.Construct.TheVariants.{NamedCaptureGroups, DotAll, Multiline, PatternModifiers}
use Rattle.rx_command.specs.Names.{IsNamesOf}

abbrev pub construct_name : Construct → List ℕ
construct_name NamedCaptureGroups = codes "named_capture_groups"
construct_name DotAll = codes "dot_all"
construct_name Multiline = codes "multiline"
construct_name PatternModifiers = codes "pattern_modifiers"

-- whether the field of a construct is set
abbrev pub has_construct : Rewrites → Construct → Bool
has_construct what NamedCaptureGroups = what.named_capture_groups
has_construct what DotAll = what.dot_all
has_construct what Multiline = what.multiline
has_construct what PatternModifiers = what.pattern_modifiers

-- The word lists some constructs, and exactly their fields are set.
abbrev pub IsConstructList : List ℕ → Rewrites → Type 0
IsConstructList word what = IsNamesOf construct_name has_construct word what
