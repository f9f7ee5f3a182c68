-- What has one feature and no other.
use Rattle.std.proofs.Common.{◌≡◌, ◌∙◌, ◌⊎◌, ◌↔◌, refl, sym, ap, inl, inr, ℕ, Bool, IsTrue, true, false, eqb, cond}
use Rattle.std.proofs.lemmas.Bool.{eq-eqb, ne_eqb}
use Rattle.rx_command.specs.declared.features.Feature.{Feature}
use Rattle.rx_command.specs.declared.features.Feature.TheVariants.{Sticky, Unicode, DotAll, MatchIndices, UnicodeSets, NamedCaptureGroups, DuplicateNamedCaptureGroups, UnicodePropertyEscapes, LookBehindAssertions, PatternModifiers, BufferBoundaries}
use Rattle.rx_command.specs.declared.features.Features.{Features}
use Rattle.rx_command.specs.Features.{has_feature}
use Rattle.rx_json_reply.specs.Alone.{alone, features_by, place_of}

at_place : ℕ → Feature
at_place n =
    cond (eqb n 0) Sticky (cond (eqb n 1) Unicode (cond (eqb n 2) DotAll (cond (eqb n 3) MatchIndices (cond (eqb n 4) UnicodeSets
    (cond (eqb n 5) NamedCaptureGroups (cond (eqb n 6) DuplicateNamedCaptureGroups (cond (eqb n 7) UnicodePropertyEscapes
    (cond (eqb n 8) LookBehindAssertions (cond (eqb n 9) PatternModifiers BufferBoundaries)))))))))

found_there : (feature : Feature) → at_place (place_of feature) ≡ feature
unfolding at_place
found_there Sticky = refl
found_there Unicode = refl
found_there DotAll = refl
found_there MatchIndices = refl
found_there UnicodeSets = refl
found_there NamedCaptureGroups = refl
found_there DuplicateNamedCaptureGroups = refl
found_there UnicodePropertyEscapes = refl
found_there LookBehindAssertions = refl
found_there PatternModifiers = refl
found_there BufferBoundaries = refl

one_place : (one other : Feature) → place_of one ≡ place_of other → one ≡ other
one_place one other same = sym (found_there one) ∙ ap at_place same ∙ found_there other

-- a truth that holds exactly where the features are the same
tells : (b : Bool) (one other : Feature) → IsTrue b ↔ (one ≡ other) → b ≡ eqb (place_of one) (place_of other)
tells true one other iff = sym (eq-eqb (place_of one) (place_of other) (ap place_of (iff.0 refl)))
tells false one other iff = sym (ne_eqb (place_of one) (place_of other) (λ same. let wrong : false ≡ true = iff.1 (one_place one other same) in cc))

by_all : (p q : Feature → Bool) → ((feature : Feature) → p feature ≡ q feature) → features_by p ≡ features_by q
by_all p q same =
    cc (same Sticky, same Unicode, same DotAll, same MatchIndices, same UnicodeSets, same NamedCaptureGroups, same DuplicateNamedCaptureGroups, same UnicodePropertyEscapes, same LookBehindAssertions, same PatternModifiers, same BufferBoundaries)

pub alone_is : (set : Features) (feature : Feature) → ((other : Feature) → IsTrue (has_feature set other) ↔ (other ≡ feature)) → set ≡ alone feature
alone_is set feature has =
    by_all (has_feature set) (λ other. eqb (place_of other) (place_of feature)) (λ other. tells (has_feature set other) other feature (has other))

-- what is there once a feature is added to none
pub only_inserted : (old new : Features) (feature : Feature) → ((other : Feature) → has_feature old other ≡ false)
    → ((other : Feature) → IsTrue (has_feature new other) ↔ ((other ≡ feature) ⊎ IsTrue (has_feature old other))) → new ≡ alone feature
only_inserted old new feature none inserted =
    alone_is new feature (λ other. (
      λ has. elim ((inserted other).0 has) [ inl same ↦ same | inr before ↦ let wrong : false ≡ true = sym (none other) ∙ before in cc ],
      λ same. (inserted other).1 (inl same),
    ))
