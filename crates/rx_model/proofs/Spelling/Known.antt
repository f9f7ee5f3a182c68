-- What is known of tokens that some units spell: where `bounded` is true also that each character has a value of the mode, and those of a name are code points.
use Rattle.std.proofs.Common.{◌≡◌, ◌≢◌, refl, subst, ℕ, Bool, true, Some, None, List, [], ◌∷◌, ◌++◌}
use Rattle.rx_units.specs.declared.code_point.CodePoint.{CodePoint}
use Rattle.rx_units.specs.Units.{values}
use Rattle.rx_model.specs.declared.mode.Mode.{Mode}
use Rattle.rx_model.specs.declared.mode.Mode.TheVariants.{Legacy}
use Rattle.rx_model.specs.Reading.Boundaries.{has_boundary}
use Rattle.rx_ast.specs.Texts.{property_body}
use Rattle.rx_model.specs.Inputs.Environment.{for_classes, Environment, is_unicode}
use Rattle.rx_model.specs.Groups.GroupNames.{SpellsName}
use Rattle.rx_model.specs.Groups.Groups.{SpellsOpener}
use Rattle.rx_model.specs.Properties.PropertyEscapes.{SpellsProperty}
use Rattle.rx_model.specs.Spelling.ReadBack.{AreCodeUnits, FitIn}
use Rattle.rx_model.specs.Reading.Rows.{Spells, TokenRow}
use Rattle.rx_model.specs.Trees.Token.{Token, Opener, boundary, character, dot, class_escape, property, class, indexed, named, opener, capturing, ignoring, looking}
use Rattle.rx_model.proofs.Spelling.Bounds.{FitsIn, Narrow, AreCodePoints, narrow_values, narrow_front, narrow_back, fit_front, fit_back, character_low, name_low}
use Rattle.rx_model.proofs.Spelling.ClassKnown.{IsKnownClass, class_known}
use Rattle.rx_model.proofs.Groups.ModifierTexts.{AreThreeBits, modifiers_known}
use Rattle.rx_model.proofs.Groups.NameTexts.{IsName, name_known}
use Rattle.rx_model.proofs.Properties.PropertyTexts.{property_again}

-- What is known of an opener: its name is one, and its modifiers have three bits a side.
abbrev pub NameFits : Mode → List ℕ → Type 0
NameFits mode name = mode ≡ Legacy → AreCodePoints name

abbrev pub IsKnownOpener : Bool → Mode → Opener → Type 0
IsKnownOpener bounded mode (capturing None) = Unit {0}
IsKnownOpener bounded mode (capturing (Some name)) = IsName name × (bounded ≡ true → NameFits mode name)
IsKnownOpener bounded mode (ignoring None) = Unit {0}
IsKnownOpener bounded mode (ignoring (Some bits)) = AreThreeBits bits
IsKnownOpener bounded mode (looking kind) = Unit {0}

-- The token is one that is read today in this environment.
abbrev pub Known : Bool → Environment → Token → Type 0
Known bounded e (boundary kind) = has_boundary e kind ≡ true
Known bounded e (character kind value) = bounded ≡ true → FitsIn e.mode value
Known bounded e dot = Unit {0}
Known bounded e (class_escape kind) = Unit {0}
Known bounded e (property negative strings name value) = (is_unicode e.mode ≡ true) × SpellsProperty e.mode strings name value (property_body name value)
Known bounded e (class c) = IsKnownClass bounded e.mode c
Known bounded e (indexed n) = Unit {0}
Known bounded e (named name) = (IsName name × (bounded ≡ true → NameFits e.mode name)) × (e.named ≡ true)
Known bounded e (opener o) = IsKnownOpener bounded e.mode o
Known bounded e q = Unit {0}

abbrev pub AreKnown : Bool → Environment → List Token → Type 0
AreKnown bounded e [] = Unit {0}
AreKnown bounded e (t ∷ ts) = Known bounded e t × AreKnown bounded e ts

-- the units of a name
name_there : (name : List ℕ) (head spelled : List ℕ) (unicode_mode : Bool) (rest : List ℕ) (w : List CodePoint) → values w ≡ head ++ (spelled ++ (62 ∷ [])) → SpellsName unicode_mode name spelled rest → AreCodeUnits w →
    AreCodePoints name
name_there name head spelled unicode_mode rest w e s f =
    name_low unicode_mode name spelled rest s (narrow_front spelled (62 ∷ []) (narrow_back head (spelled ++ (62 ∷ [])) (subst Narrow e (narrow_values w f))))

opener_known : (bounded : Bool) (e : Environment) (o : Opener) (w rest : List CodePoint) → (bounded ≡ true → FitIn e.mode w) → SpellsOpener e o w rest → IsKnownOpener bounded e.mode o
opener_known bounded e (capturing None) w rest f s = tt
opener_known bounded e (capturing (Some name)) w rest f s = (
  name_known (is_unicode e.mode) name s.spelled (62 ∷ values rest) s.spells,
  λ b m. name_there name (40 ∷ 63 ∷ 60 ∷ []) s.spelled (is_unicode e.mode) (62 ∷ values rest) w s.whole s.spells (f b m),
)
opener_known bounded e (ignoring None) w rest f s = tt
opener_known bounded e (ignoring (Some bits)) w rest f s = modifiers_known bits.0 bits.1 s.text s.spelled
opener_known bounded e (looking kind) w rest f s = tt

known : (bounded : Bool) (e : Environment) (t : Token) (w rest : List CodePoint) → (bounded ≡ true → FitIn e.mode (w ++ rest)) → Spells e t w rest → Known bounded e t
known bounded e (boundary kind) w rest f s = s.there
known bounded e (character kind value) w rest f s = λ b. character_low e kind value w rest s (fit_front e.mode (w ++ rest) w rest refl (f b))
known bounded e dot w rest f s = tt
known bounded e (class_escape kind) w rest f s = tt
known bounded e (property negative strings name value) w rest f s = (s.unicode, property_again e.mode strings name value s.text s.spelled)
known bounded e (class c) w rest f s = class_known (for_classes e) bounded c w rest f s
known bounded e (indexed n) w rest f s = tt
known bounded e (named name) w rest f s = (
  (
    name_known (is_unicode e.mode) name s.spelled (62 ∷ values rest) s.spells,
    λ b m. name_there name (92 ∷ 107 ∷ 60 ∷ []) s.spelled (is_unicode e.mode) (62 ∷ values rest) w s.whole s.spells (fit_front e.mode (w ++ rest) w rest refl (f b) m),
  ),
  s.there,
)
known bounded e (opener o) w rest f s = opener_known bounded e o w rest (λ b. fit_front e.mode (w ++ rest) w rest refl (f b)) s
known bounded e q w rest f s = tt

pub are_known : (bounded : Bool) (e : Environment) (ts : List Token) (us rest : List CodePoint) → (bounded ≡ true → FitIn e.mode us) → TokenRow e ts us rest → AreKnown bounded e ts
are_known bounded e [] us rest f r = tt
are_known bounded e (t ∷ ts) us rest f r =
    (known bounded e t r.0 r.1 (λ b m. subst AreCodeUnits r.2 (f b m)) r.3, are_known bounded e ts r.1 rest (λ b. fit_back e.mode us r.0 r.1 r.2 (f b)) r.4)

-- the pattern of some units has tokens
pub has_tokens : (e : Environment) (ts : List Token) (us : List CodePoint) → TokenRow e ts us [] → us ≢ [] → ts ≢ []
has_tokens e [] us r h = absurd (h r)
has_tokens e (t ∷ ts) us r h = λ k. cc
