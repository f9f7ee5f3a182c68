-- What each token spells, and rows of tokens. A relation `.. w rest` says that the units w spell a thing before all that follows them, rest.
use Rattle.std.specs.Prelude.{◌≡◌, ℕ, ◌+◌, Bool, true, false, not, ◌⊎◌, List, [], ◌∷◌, ◌++◌, length, codes}
use Rattle.rx_base.specs.Ascii as ascii
use Rattle.rx_tables.specs.Characters.{is_syntax_character}
use Rattle.rx_ast.specs.declared.leaf.BoundaryAssertionKind.{BoundaryAssertionKind}
use Rattle.rx_ast.specs.declared.leaf.CharacterKind.{CharacterKind}
use Rattle.rx_units.specs.declared.code_point.CodePoint.{CodePoint}
use Rattle.rx_units.specs.Units.{values}
use Rattle.rx_model.specs.declared.mode.Mode.{Mode}
use Rattle.rx_model.specs.declared.mode.Mode.TheVariants.{Legacy, Unicode, Sets}
use Rattle.rx_ast.specs.Texts.{boundary_text, class_escape_text}
use Rattle.rx_model.specs.Reading.Boundaries.{has_boundary}
use Rattle.rx_model.specs.Classes.ClassRows.{IsClass, IsClassSpanned}
use Rattle.rx_model.specs.Inputs.Environment.{Environment, for_classes, is_unicode}
use Rattle.rx_model.specs.Characters.Escapes.{SpellsEscape}
use Rattle.rx_model.specs.Trees.Events.{Events, enter, leave, token, inside, modified}
use Rattle.rx_model.specs.Characters.LegacyEscapes.{SpellsLegacy}
use Rattle.rx_model.specs.Quantifiers.Quantifiers.{BeginsWithBraces, IsQuantifier}
use Rattle.rx_model.specs.Groups.Groups.{IsIndexed, IsNamed, IsModifying, SpellsOpener}
use Rattle.rx_model.specs.Properties.PropertyEscapes.{IsProperty}
use Rattle.rx_model.specs.Trees.Token.{Token, boundary, character, dot, class_escape, property, class, indexed, named, opener, closer, bar, quantifier}
use Rattle.rx_model.specs.Characters.UnitKinds.{unit_kind}
use Rattle.rx_base.specs.Characters.{is_one_of}

-- the SyntaxCharacters that ExtendedPatternCharacter leaves out (B.1.2)
abbrev pub is_legacy_syntax : ℕ → Bool
is_legacy_syntax c = is_one_of (codes "^$\\.*+?()[|") c

-- whether a value may stand for itself outside classes: with `u` or `v` it is no SyntaxCharacter (PatternCharacter, 22.2.1), with neither it is none of
-- those that ExtendedPatternCharacter leaves out (B.1.2)
abbrev pub stands_raw : Mode → ℕ → Bool
stands_raw Legacy c = not (is_legacy_syntax c)
stands_raw Unicode c = not (is_syntax_character c)
stands_raw Sets c = not (is_syntax_character c)

-- One unit stands for itself; with neither `u` nor `v` also a brace, where no quantifier in braces begins there (InvalidBracedQuantifier, B.1.2).
pub record IsRaw (e : Environment) (kind : CharacterKind) (value : ℕ) (w rest : List CodePoint) : Type 0 where
  pub unit : CodePoint
  pub alone : w ≡ unit ∷ []
  pub kind_is : kind ≡ unit_kind unit.escape_kind
  pub value_is : value ≡ unit.value
  pub allowed : stands_raw e.mode unit.value ≡ true
  pub no_quantifier : is_unicode e.mode ≡ false → BeginsWithBraces (values (unit ∷ rest)) → ⊥

-- A backslash and a character escape stand for one character.
pub record IsEscaped (e : Environment) (kind : CharacterKind) (value : ℕ) (w rest : List CodePoint) : Type 0 where
  pub backslash : CodePoint
  pub following : List CodePoint
  pub whole : w ≡ backslash ∷ following
  pub backslash_is : backslash.value ≡ ascii.backslash
  pub spelled : SpellsEscape e kind value (values following) (values rest)

-- A backslash and an escape that is one with neither `u` nor `v` alone stand for one character.
pub record IsLegacyEscaped (e : Environment) (kind : CharacterKind) (value : ℕ) (w rest : List CodePoint) : Type 0 where
  pub backslash : CodePoint
  pub following : List CodePoint
  pub whole : w ≡ backslash ∷ following
  pub backslash_is : backslash.value ≡ ascii.backslash
  pub legacy : is_unicode e.mode ≡ false
  pub spelled : SpellsLegacy false e kind value (values following) (values rest)

-- One of the boundaries that there are.
pub record IsBoundary (e : Environment) (kind : BoundaryAssertionKind) (w : List CodePoint) : Type 0 where
  pub text : values w ≡ boundary_text kind
  pub there : has_boundary e kind ≡ true

-- The units w spell the token before rest.
abbrev pub Spells : Environment → Token → List CodePoint → List CodePoint → Type 0
Spells e (character kind value) w rest = IsRaw e kind value w rest ⊎ (IsEscaped e kind value w rest ⊎ IsLegacyEscaped e kind value w rest)
Spells e dot w rest = values w ≡ codes "."
Spells e bar w rest = values w ≡ codes "|"
Spells e (boundary kind) w rest = IsBoundary e kind w
Spells e (class_escape kind) w rest = values w ≡ class_escape_text kind
Spells e (property negative strings name value) w rest = IsProperty e negative strings name value w
Spells e (class c) w rest = IsClass (for_classes e) c w rest
Spells e (indexed n) w rest = IsIndexed e n w rest
Spells e (named name) w rest = IsNamed e name w rest
Spells e (opener o) w rest = SpellsOpener e o w rest
Spells e closer w rest = values w ≡ codes ")"
Spells e (quantifier min max greedy) w rest = IsQuantifier min max greedy w rest

-- The tokens lead from these units to the rest, each spelled before all that follows it.
abbrev pub TokenRow : Environment → List Token → List CodePoint → List CodePoint → Type 0
TokenRow e [] us rest = us ≡ rest
TokenRow e (t ∷ ts) us rest =
    (w : List CodePoint) × (more : List CodePoint) × (us ≡ w ++ more) × Spells e t w more × TokenRow e ts more rest

-- The events lead from place i, with these units left, to place j with the rest left, where o gives the offset of a place: each node
-- begins and ends at the offset of its place, modifiers and what stands in classes too.
abbrev pub Row : Environment → (ℕ → ℕ) → Events → ℕ → List CodePoint → ℕ → List CodePoint → Type 0
Row e o [] i us j rest = (i ≡ j) × (us ≡ rest)
Row e o ((enter n) ∷ es) i us j rest = (n ≡ o i) × Row e o es i us j rest
Row e o ((leave n) ∷ es) i us j rest = (n ≡ o i) × Row e o es i us j rest
Row e o ((token t) ∷ es) i us j rest =
    (w : List CodePoint) × (more : List CodePoint) × (us ≡ w ++ more) × Spells e t w more × Row e o es (i + length w) more j rest
Row e o ((inside c) ∷ es) i us j rest =
    (w : List CodePoint) × (more : List CodePoint) × (us ≡ w ++ more) × IsClassSpanned (for_classes e) o i c w more × Row e o es (i + length w) more j rest
Row e o ((modified m) ∷ es) i us j rest =
    (w : List CodePoint) × (more : List CodePoint) × (us ≡ w ++ more) × IsModifying o i m w × Row e o es (i + length w) more j rest
