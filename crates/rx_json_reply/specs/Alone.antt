-- Features one by one.
use Rattle.std.specs.Prelude.{ℕ, Bool, ◌==◌}
use Rattle.rx_command.specs.declared.features.Feature.{Feature}
use Rattle.rx_command.specs.declared.features.Feature.TheVariants.{Sticky, Unicode, DotAll, MatchIndices, UnicodeSets, NamedCaptureGroups, DuplicateNamedCaptureGroups, UnicodePropertyEscapes, LookBehindAssertions, PatternModifiers, BufferBoundaries}
use Rattle.rx_command.specs.declared.features.Features.{Features}

-- which of the features it is, from the first on
abbrev pub place_of : Feature → ℕ
place_of Sticky = 0
place_of Unicode = 1
place_of DotAll = 2
place_of MatchIndices = 3
place_of UnicodeSets = 4
place_of NamedCaptureGroups = 5
place_of DuplicateNamedCaptureGroups = 6
place_of UnicodePropertyEscapes = 7
place_of LookBehindAssertions = 8
place_of PatternModifiers = 9
place_of BufferBoundaries = 10

-- the features of which this is so
abbrev pub features_by : (Feature → Bool) → Features
features_by has = record {
  flags = record { sticky = has Sticky; unicode = has Unicode; dot_all = has DotAll; match_indices = has MatchIndices; unicode_sets = has UnicodeSets };
  patterns = record {
    named_capture_groups = has NamedCaptureGroups;
    duplicate_named_capture_groups = has DuplicateNamedCaptureGroups;
    unicode_property_escapes = has UnicodePropertyEscapes;
    look_behind_assertions = has LookBehindAssertions;
    pattern_modifiers = has PatternModifiers;
  };
  buffer_boundaries = has BufferBoundaries;
}

-- a feature and no other
abbrev pub alone : Feature → Features
alone feature = features_by (λ other. place_of other == place_of feature)
