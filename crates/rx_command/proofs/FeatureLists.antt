-- Lists of features.
use Rattle.std.proofs.Common.{◌≡◌, ◌∙◌, refl, sym, ap, ℕ, ◌+◌, ◌*◌, Bool, true, not, eqb, nat_lt, cond, Option, Some, None, List, [], ◌∷◌, length}
use Rattle.std.specs.List.{list_all}
use Rattle.rx_command.specs.declared.features.Feature.{Feature}
use Rattle.rx_command.specs.declared.features.Feature.TheVariants.{Sticky, Unicode, DotAll, MatchIndices, UnicodeSets, NamedCaptureGroups, DuplicateNamedCaptureGroups, UnicodePropertyEscapes, LookBehindAssertions, PatternModifiers, BufferBoundaries}
use Rattle.rx_command.specs.declared.features.Features.{Features}
use Rattle.rx_command.specs.Features.{IsFeatureList, feature_name, has_feature}
use Rattle.rx_command.proofs.NameLists.{IsNaming, same_items}

-- the first character and the length tell a name from the others
key : List ℕ → ℕ
key [] = 0
key (first ∷ rest) = first * 32 + length rest

at_key : ℕ → Option Feature
at_key n =
    cond (eqb n 3685) (Some Sticky) (cond (eqb n 3750) (Some Unicode) (cond (eqb n 3206) (Some DotAll) (cond (eqb n 3500) (Some MatchIndices) (cond (eqb n 3755) (Some UnicodeSets)
    (cond (eqb n 3539) (Some NamedCaptureGroups) (cond (eqb n 3229) (Some DuplicateNamedCaptureGroups) (cond (eqb n 3767) (Some UnicodePropertyEscapes)
    (cond (eqb n 3477) (Some LookBehindAssertions) (cond (eqb n 3600) (Some PatternModifiers) (cond (eqb n 3152) (Some BufferBoundaries) None))))))))))

named : (feature : Feature) → at_key (key (feature_name feature)) ≡ Some feature
unfolding at_key key
named Sticky = refl
named Unicode = refl
named DotAll = refl
named MatchIndices = refl
named UnicodeSets = refl
named NamedCaptureGroups = refl
named DuplicateNamedCaptureGroups = refl
named UnicodePropertyEscapes = refl
named LookBehindAssertions = refl
named PatternModifiers = refl
named BufferBoundaries = refl

one_name : (one other : Feature) → feature_name one ≡ feature_name other → one ≡ other
one_name one other same =
    let both : Some one ≡ Some other = sym (named one) ∙ ap (λ (name : List ℕ). at_key (key name)) same ∙ named other in cc

no_comma : (feature : Feature) → list_all (λ x. not (eqb x 44)) (feature_name feature) ≡ true
no_comma Sticky = refl
no_comma Unicode = refl
no_comma DotAll = refl
no_comma MatchIndices = refl
no_comma UnicodeSets = refl
no_comma NamedCaptureGroups = refl
no_comma DuplicateNamedCaptureGroups = refl
no_comma UnicodePropertyEscapes = refl
no_comma LookBehindAssertions = refl
no_comma PatternModifiers = refl
no_comma BufferBoundaries = refl

plain : (feature : Feature) → list_all (λ b. nat_lt b 128) (feature_name feature) ≡ true
plain Sticky = refl
plain Unicode = refl
plain DotAll = refl
plain MatchIndices = refl
plain UnicodeSets = refl
plain NamedCaptureGroups = refl
plain DuplicateNamedCaptureGroups = refl
plain UnicodePropertyEscapes = refl
plain LookBehindAssertions = refl
plain PatternModifiers = refl
plain BufferBoundaries = refl

pub feature_naming : IsNaming feature_name
feature_naming = record { one_name = one_name; no_comma = no_comma; plain = plain }

-- ---- a list has one meaning

fields : (sticky unicode dot_all match_indices unicode_sets named duplicate property lookbehind modifiers buffers : Bool) → Features
fields sticky unicode dot_all match_indices unicode_sets named duplicate property lookbehind modifiers buffers = record {
  flags = record { sticky = sticky; unicode = unicode; dot_all = dot_all; match_indices = match_indices; unicode_sets = unicode_sets };
  patterns = record {
    named_capture_groups = named;
    duplicate_named_capture_groups = duplicate;
    unicode_property_escapes = property;
    look_behind_assertions = lookbehind;
    pattern_modifiers = modifiers;
  };
  buffer_boundaries = buffers;
}

-- features, from their fields
abbrev from_fields : Features → Features
from_fields set =
    fields (has_feature set Sticky) (has_feature set Unicode) (has_feature set DotAll) (has_feature set MatchIndices) (has_feature set UnicodeSets)
    (has_feature set NamedCaptureGroups) (has_feature set DuplicateNamedCaptureGroups) (has_feature set UnicodePropertyEscapes)
    (has_feature set LookBehindAssertions) (has_feature set PatternModifiers) (has_feature set BufferBoundaries)

fields_are : (set : Features) → from_fields set ≡ set
unfolding fields
fields_are set = refl

same_features : (one other : Features) → ((feature : Feature) → has_feature one feature ≡ has_feature other feature) → one ≡ other
same_features one other same =
    let e1 = same Sticky in
    let e2 = same Unicode in
    let e3 = same DotAll in
    let e4 = same MatchIndices in
    let e5 = same UnicodeSets in
    let e6 = same NamedCaptureGroups in
    let e7 = same DuplicateNamedCaptureGroups in
    let e8 = same UnicodePropertyEscapes in
    let e9 = same LookBehindAssertions in
    let e10 = same PatternModifiers in
    let e11 = same BufferBoundaries in
    let both : from_fields one ≡ from_fields other = cc in
    sym (fields_are one) ∙ both ∙ fields_are other

pub features_once : (word : List ℕ) (one other : Features) → IsFeatureList word one → IsFeatureList word other → one ≡ other
features_once word one other is is' = same_features one other (same_items feature_name has_feature feature_naming word one other is is')
