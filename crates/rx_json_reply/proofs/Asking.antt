-- Asking for what has a name, beside what is asked for already.
use Rattle.std.proofs.Common.{◌≡◌, ◌≢◌, ◌∙◌, ◌⊎◌, ◌↔◌, ⊎_elim, inl, inr, refl, sym, ap, ℕ, Bool, true, false, ◌||◌, List, [], ◌∷◌, ◌++◌, map, codes, Option, Some, None}
use Rattle.std.specs.List.{list_any}
use Rattle.std.specs.Bool.{IsTrue}
use Rattle.std.specs.Option.{MatchOption, is_some}
use Rattle.std.proofs.lemmas.List.Recursion.{or_push}
use Rattle.rx_base.specs.Texts.{are_same, is_among}
use Rattle.rx_command.specs.declared.features.Feature.{Feature}
use Rattle.rx_command.specs.declared.features.Feature.TheVariants.{Sticky, Unicode, DotAll, MatchIndices, UnicodeSets, NamedCaptureGroups, DuplicateNamedCaptureGroups, UnicodePropertyEscapes, LookBehindAssertions, PatternModifiers, BufferBoundaries}
use Rattle.rx_command.specs.Features.{feature_name}
use Rattle.rx_command.proofs.FeatureLists.{feature_naming}
use Rattle.rx_json_reply.specs.Wants.{features, has_features, is_feature, parts}
use Rattle.rx_json_reply.proofs.Named.{equal_same, other_not_same, same_equal}

-- with one more name
pub is_among-more : (names : List (List ℕ)) (name text : List ℕ) → is_among (names ++ name ∷ []) text ≡ (is_among names text || are_same name text)
is_among-more names name text = or_push (λ xs. is_among xs text) (λ other. are_same other text) refl (λ _ _. refl) names name

pub has_features-more : (names : List (List ℕ)) (name : List ℕ) → has_features (names ++ name ∷ []) ≡ (has_features names || is_feature name)
has_features-more names name = or_push has_features is_feature refl (λ _ _. refl) names name

pub or_false : (b : Bool) → (b || false) ≡ b
or_false true = refl
or_false false = refl

-- ---- features

pub named_is_feature : (f : Feature) → is_feature (feature_name f) ≡ true
named_is_feature Sticky = refl
named_is_feature Unicode = refl
named_is_feature DotAll = refl
named_is_feature MatchIndices = refl
named_is_feature UnicodeSets = refl
named_is_feature NamedCaptureGroups = refl
named_is_feature DuplicateNamedCaptureGroups = refl
named_is_feature UnicodePropertyEscapes = refl
named_is_feature LookBehindAssertions = refl
named_is_feature PatternModifiers = refl
named_is_feature BufferBoundaries = refl

none_in : {X Y : Type 0} (test : Y → Bool) (name_of : X → Y) (xs : List X) → ((x : X) → test (name_of x) ≡ false) → list_any test (map name_of xs) ≡ false
none_in test name_of [] none = refl
none_in test name_of (x ∷ xs) none = ap (λ (b : Bool). b || list_any test (map name_of xs)) (none x) ∙ none_in test name_of xs none

-- a name that no feature has
pub unnamed : (name : List ℕ) → ((f : Feature) → name ≢ feature_name f) → is_feature name ≡ false
unnamed name other = none_in (λ text. are_same text name) feature_name features (λ f. other_not_same (feature_name f) name (λ e. other f (sym e)))

pub named : (name : List ℕ) (f : Feature) → name ≡ feature_name f → is_feature name ≡ true
named name f is = ap is_feature is ∙ named_is_feature f

-- whether a feature was found by its name
pub found_is : (name : List ℕ) (o : Option Feature) → MatchOption o ((f : Feature) → ¬ (name ≡ feature_name f)) (λ f. name ≡ feature_name f) → is_some o ≡ is_feature name
found_is name None other = sym (unnamed name other)
found_is name (Some f) is = sym (named name f is)

-- ---- a feature more

same_truths : (new old same : Bool) (P : Type 0) → IsTrue new ↔ (P ⊎ IsTrue old) → (P → same ≡ true) → (same ≡ true → P) → new ≡ (old || same)
same_truths true true same P is to from = refl
same_truths true false true P is to from = refl
same_truths true false false P is to from = sym (⊎_elim to (λ e. e) (is.0 refl))
same_truths false true same P is to from = is.1 (inr refl)
same_truths false false true P is to from = is.1 (inl (from refl))
same_truths false false false P is to from = refl

pub one_feature : (name : List ℕ) (f other : Feature) (new old : Bool) → name ≡ feature_name f → IsTrue new ↔ ((other ≡ f) ⊎ IsTrue old) → new ≡ (old || are_same name (feature_name other))
one_feature name f other new old is changed =
    same_truths new old (are_same name (feature_name other)) (other ≡ f) changed
    (λ e. equal_same name (feature_name other) (is ∙ ap feature_name (sym e)))
    (λ same. sym (feature_naming.one_name f other (sym is ∙ same_equal name (feature_name other) same)))

pub no_feature_more : (name : List ℕ) (old : Bool) (other : Feature) → ((f : Feature) → ¬ (name ≡ feature_name f)) → old ≡ (old || are_same name (feature_name other))
no_feature_more name old other none = sym (ap (λ (b : Bool). old || b) (other_not_same name (feature_name other) (none other)) ∙ or_false old)

-- ---- parts

none_of_four : (a b c d : Bool) → a ≡ false → b ≡ false → c ≡ false → d ≡ false → (a || (b || (c || (d || false)))) ≡ false
none_of_four a b c d p q r s =
    ap (λ (x : Bool). x || (b || (c || (d || false)))) p ∙ ap (λ (x : Bool). x || (c || (d || false))) q ∙ ap (λ (x : Bool). x || (d || false)) r ∙ ap (λ (x : Bool). x || false) s

pub no_part : (name : List ℕ) → name ≢ codes "spelling" → name ≢ codes "groups" → name ≢ codes "tree" → name ≢ codes "display" → is_among parts name ≡ false
no_part name spelling groups tree display =
    none_of_four _ _ _ _ (other_not_same _ name (λ e. spelling (sym e))) (other_not_same _ name (λ e. groups (sym e))) (other_not_same _ name (λ e. tree (sym e)))
    (other_not_same _ name (λ e. display (sym e)))
