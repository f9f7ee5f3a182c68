-- Lists of what an engine may not support.
use Rattle.std.specs.Prelude.{ℕ, Bool, ◌&&◌, ◌||◌, List, codes}
use Rattle.rx_ast.specs.Kinds.{Kind}
use Rattle.rx_visit.specs.Buffers.{has_buffer_boundaries}
use Rattle.rx_visit.specs.Patterns.{is_refused_pattern}
use Rattle.rx_command.specs.declared.features.Feature.{Feature}
use Rattle.rx_command.specs.declared.features.Feature.TheVariants.{Sticky, Unicode, DotAll, MatchIndices, UnicodeSets, NamedCaptureGroups, DuplicateNamedCaptureGroups, UnicodePropertyEscapes, LookBehindAssertions, PatternModifiers, BufferBoundaries}
use Rattle.rx_command.specs.declared.features.Features.{Features}
use Rattle.rx_command.specs.Names.{IsNamesOf}

abbrev pub feature_name : Feature → List ℕ
feature_name Sticky = codes "sticky"
feature_name Unicode = codes "unicode"
feature_name DotAll = codes "dot_all"
feature_name MatchIndices = codes "match_indices"
feature_name UnicodeSets = codes "unicode_sets"
feature_name NamedCaptureGroups = codes "named_capture_groups"
feature_name DuplicateNamedCaptureGroups = codes "duplicate_named_capture_groups"
feature_name UnicodePropertyEscapes = codes "unicode_property_escapes"
feature_name LookBehindAssertions = codes "look_behind_assertions"
feature_name PatternModifiers = codes "pattern_modifiers"
feature_name BufferBoundaries = codes "buffer_boundaries"

-- whether the field of a feature is set
abbrev pub has_feature : Features → Feature → Bool
has_feature set Sticky = set.flags.sticky
has_feature set Unicode = set.flags.unicode
has_feature set DotAll = set.flags.dot_all
has_feature set MatchIndices = set.flags.match_indices
has_feature set UnicodeSets = set.flags.unicode_sets
has_feature set NamedCaptureGroups = set.patterns.named_capture_groups
has_feature set DuplicateNamedCaptureGroups = set.patterns.duplicate_named_capture_groups
has_feature set UnicodePropertyEscapes = set.patterns.unicode_property_escapes
has_feature set LookBehindAssertions = set.patterns.look_behind_assertions
has_feature set PatternModifiers = set.patterns.pattern_modifiers
has_feature set BufferBoundaries = set.buffer_boundaries

-- The word lists some features, and exactly their fields are set.
abbrev pub IsFeatureList : List ℕ → Features → Type 0
IsFeatureList word features = IsNamesOf feature_name has_feature word features

-- one of these nodes of a pattern has one of the features
abbrev pub needs_feature : Features → List Kind → Bool
needs_feature features ks = is_refused_pattern features.patterns ks || (features.buffer_boundaries && has_buffer_boundaries ks)
