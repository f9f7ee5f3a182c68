-- Class strings, in the words of ClassStringDisjunction (22.2.1). A relation `.. w rest` says that the units w spell a thing before all that follows them, rest.
use Rattle.std.specs.Prelude.{◌≡◌, ◌⊎◌, ℕ, true, List, ◌∷◌, ◌++◌, codes}
use Rattle.rx_base.specs.Ascii as ascii
use Rattle.rx_ast.specs.declared.leaf.Character.{Character}
use Rattle.rx_ast.specs.declared.leaf.CharacterKind.{CharacterKind}
use Rattle.rx_ast.specs.declared.class.ClassString.{ClassString}
use Rattle.rx_units.specs.declared.code_point.CodePoint.{CodePoint}
use Rattle.rx_units.specs.Units.{values}
use Rattle.rx_model.specs.Classes.ClassFromTokens.{character_of, string_of}
use Rattle.rx_model.specs.Classes.ClassRows.{SpellsClassCharacter}
use Rattle.rx_model.specs.FirstPass.Marks.{starts}
use Rattle.rx_model.specs.Inputs.Environment.{Environment, is_sets}
use Rattle.rx_units.specs.Sequences.{ElementRow}

-- ClassSetCharacter, which stands in classes with `v` alone
pub data SpellsSetCharacter (e : Environment) : Character → List CodePoint → List CodePoint → Type 0 where
  of_character : {k : CharacterKind} {v : ℕ} {w rest : List CodePoint} → is_sets e.mode ≡ true → SpellsClassCharacter e k v w rest → SpellsSetCharacter e (character_of k v) w rest

-- `|` or `}` stands next.
abbrev pub IsStringEnd : List CodePoint → Type 0
IsStringEnd us = (starts ascii.vertical_bar (values us) ≡ true) ⊎ (starts ascii.right_brace (values us) ≡ true)

-- The characters of a class string lead from these units to the rest (ClassString).
abbrev pub StringRow : Environment → List Character → List CodePoint → List CodePoint → Type 0
StringRow e cs us rest = ElementRow {Place = Unit {0}} (λ q. SpellsSetCharacter e) (λ q c more. tt) cs tt us tt rest

-- a class string with the `|` before it (ClassStringDisjunctionContents): its characters, up to a `|` or a `}`
pub data SpellsBarredString (e : Environment) : ClassString → List CodePoint → List CodePoint → Type 0 where
  of_bar : {rest : List CodePoint} (bar : CodePoint) (cs : List Character) (w : List CodePoint) → bar.value ≡ ascii.vertical_bar → StringRow e cs (w ++ rest) rest → IsStringEnd rest
      → SpellsBarredString e (string_of cs) (bar ∷ w) rest

-- `}` stands next.
abbrev pub IsDisjunctionEnd : List CodePoint → Type 0
IsDisjunctionEnd us = starts ascii.right_brace (values us) ≡ true

abbrev pub BarredRow : Environment → List ClassString → List CodePoint → List CodePoint → Type 0
BarredRow e ss us rest = ElementRow {Place = Unit {0}} (λ q. SpellsBarredString e) (λ q s more. tt) ss tt us tt rest

-- `\q{`, a class string, others with a `|` before each, and `}` (ClassStringDisjunction)
pub record SpellsStrings (e : Environment) (strings : List ClassString) (w rest : List CodePoint) : Type 0 where
  pub sets : is_sets e.mode ≡ true
  pub opener : List CodePoint
  pub inside : List CodePoint
  pub whole : w ++ rest ≡ opener ++ inside
  pub opener_is : values opener ≡ codes "\\q{"
  pub first : List Character
  pub further : List CodePoint
  pub first_row : StringRow e first inside further
  pub more : List ClassString
  pub closer : CodePoint
  pub more_row : BarredRow e more further (closer ∷ rest)
  pub closer_is : closer.value ≡ ascii.right_brace
  pub strings_are : strings ≡ string_of first ∷ more
