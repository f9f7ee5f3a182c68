-- What can be asked for by its name.
use Rattle.std.specs.Prelude.{ℕ, Bool, List, [], ◌∷◌, ◌||◌, codes, map}
use Rattle.std.specs.List.{list_any}
use Rattle.rx_base.specs.Texts.{is_among}
use Rattle.rx_command.specs.declared.features.Feature.{Feature}
use Rattle.rx_command.specs.declared.features.Feature.TheVariants.{Sticky, Unicode, DotAll, MatchIndices, UnicodeSets, NamedCaptureGroups, DuplicateNamedCaptureGroups, UnicodePropertyEscapes, LookBehindAssertions, PatternModifiers, BufferBoundaries}
use Rattle.rx_command.specs.Features.{feature_name}

-- what is told of any pattern
abbrev pub parts : List (List ℕ)
parts = codes "spelling" ∷ codes "groups" ∷ codes "tree" ∷ codes "display" ∷ []

-- the features, in the order in which they are told
abbrev pub features : List Feature
features = Sticky ∷ Unicode ∷ DotAll ∷ MatchIndices ∷ UnicodeSets ∷ NamedCaptureGroups ∷ DuplicateNamedCaptureGroups ∷ UnicodePropertyEscapes ∷ LookBehindAssertions ∷ PatternModifiers ∷ BufferBoundaries ∷ []

abbrev pub is_feature : List ℕ → Bool
is_feature name = is_among (map feature_name features) name

abbrev pub can_be_asked : List ℕ → Bool
can_be_asked name = is_among parts name || is_feature name

-- what is told where a request does not say
abbrev pub usual : List (List ℕ)
usual = codes "spelling" ∷ codes "groups" ∷ []

-- one of these names is a feature's
abbrev pub has_features : List (List ℕ) → Bool
has_features names = list_any is_feature names
