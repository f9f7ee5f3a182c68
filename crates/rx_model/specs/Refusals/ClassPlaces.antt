-- Which places of a class a reading reaches, also of a class that does not end.
use Rattle.std.specs.Prelude.{◌≡◌, ℕ, ◌+◌, ◌⊎◌, Bool, true, false, Some, List, [], ◌∷◌, ◌++◌, length, All}
use Rattle.rx_base.specs.Ascii as ascii
use Rattle.rx_units.specs.declared.code_point.CodePoint.{CodePoint}
use Rattle.rx_units.specs.Units.{values}
use Rattle.rx_model.specs.Classes.ClassRows.{ClassTokenRow, Place, SpellsAtom, outside, fresh, at_dash, at_high, at_second, at_third, after_operator, in_strings, is_dashed}
use Rattle.rx_model.specs.Classes.ClassRuns.{Bracket, Brackets, class_run_from_start, class_run, is_union, takes_operand}
use Rattle.rx_model.specs.Classes.ClassTokens.{Atom, ClassToken, is_character, strings, letter, string_bar}
use Rattle.rx_model.specs.Inputs.Environment.{Environment, is_sets}

-- whether an item of a bracket may begin: after another, or with `v` after an operator
abbrev pub begins_item : Place → Bool
begins_item outside = false
begins_item fresh = true
begins_item at_dash = false
begins_item at_high = false
begins_item at_second = false
begins_item at_third = false
begins_item (after_operator o) = true
begins_item in_strings = false

-- From a bracket, at place `from` of a text, class tokens lead to a place where an item of the innermost bracket may begin: they are spelled before all that
-- follows them and free of early errors.
pub record IsItemPlace (e : Environment) (from : ℕ) (at_class : List CodePoint) (place : ℕ) (rest : List CodePoint) : Type 0 where
  pub tokens : List ClassToken
  pub at : Place
  pub inner : Bracket
  pub outer : Brackets
  pub begins : begins_item at ≡ true
  pub row : ClassTokenRow e tokens outside at_class at rest
  pub accepted : class_run_from_start tokens ≡ Some (inner ∷ outer)
  pub place_is : from + length at_class ≡ place + length rest

-- The same, where an operand may stand: with `v` none may stand right after an operand of an intersection or a subtraction.
pub record IsOperandPlace (e : Environment) (from : ℕ) (at_class : List CodePoint) (place : ℕ) (rest : List CodePoint) : Type 0 where
  pub item_place : IsItemPlace e from at_class place rest
  pub takes : takes_operand item_place.inner.held ≡ true

-- An atom and a `-` lead from an item place to here, where the end of a range is to stand: with `v` a character does, in a union.
pub record IsSecondPlace (e : Environment) (from : ℕ) (at_class : List CodePoint) (place : ℕ) (rest : List CodePoint) : Type 0 where
  pub first : ℕ
  pub atom : Atom
  pub w : List CodePoint
  pub hyphen : CodePoint
  pub item_place : IsItemPlace e from at_class first (w ++ (hyphen ∷ rest))
  pub hyphen_is : hyphen.value ≡ ascii.hyphen
  pub dashed : is_dashed (values (hyphen ∷ rest)) ≡ true
  pub spelled : SpellsAtom e atom w (hyphen ∷ rest)
  pub of_union : is_sets e.mode ≡ true → (is_character atom ≡ true) × (is_union item_place.inner.held ≡ true)
  pub place_is : place ≡ first + length w + 1

-- a character or a bar of class strings
abbrev pub IsOfStrings : ClassToken → Type 0
IsOfStrings (letter k v) = Unit {0}
IsOfStrings string_bar = Unit {0}
IsOfStrings t = ⊥

-- The `\q{` of class strings at place `opener`, characters and bars lead to here.
pub record IsStringPlace (e : Environment) (from : ℕ) (at_class : List CodePoint) (opener : ℕ) (place : ℕ) (rest : List CodePoint) : Type 0 where
  pub at_strings : List CodePoint
  pub item_place : IsItemPlace e from at_class opener at_strings
  pub inside : List ClassToken
  pub of_strings : All IsOfStrings inside
  pub row : ClassTokenRow e (strings ∷ inside) item_place.at at_strings in_strings rest
  pub inner : Bracket
  pub outer : Brackets
  pub accepted : class_run (strings ∷ inside) (item_place.inner ∷ item_place.outer) ≡ Some (inner ∷ outer)
  pub place_is : from + length at_class ≡ place + length rest

-- a character escape may stand here
abbrev pub IsAtomPlace : Environment → ℕ → List CodePoint → ℕ → List CodePoint → Type 0
IsAtomPlace e from at_class place rest =
    IsOperandPlace e from at_class place rest ⊎ (IsSecondPlace e from at_class place rest ⊎ ((opener : ℕ) × IsStringPlace e from at_class opener place rest))

-- A property escape may stand here: with `v` no end of a range is one.
abbrev pub IsPropertyPlace : Environment → ℕ → List CodePoint → ℕ → List CodePoint → Type 0
IsPropertyPlace e from at_class place rest =
    IsOperandPlace e from at_class place rest ⊎ ((is_sets e.mode ≡ false) × IsSecondPlace e from at_class place rest)

-- The innermost bracket that is open at an item place began at place `begin`: the class's own bracket, or with `v` that of a nested class.
pub data BeginsBracket (e : Environment) (from : ℕ) (at_class : List CodePoint) : Bool → ℕ → List CodePoint → Type 0 where
  of_class : BeginsBracket e from at_class false from at_class
  nested : {begin : ℕ} {at_bracket : List CodePoint} → is_sets e.mode ≡ true → IsOperandPlace e from at_class begin at_bracket → BeginsBracket e from at_class true begin at_bracket

pub record IsInBracket (e : Environment) (from : ℕ) (at_class : List CodePoint) (is_nested : Bool) (begin place : ℕ) (rest : List CodePoint) : Type 0 where
  pub at_bracket : List CodePoint
  pub begins : BeginsBracket e from at_class is_nested begin at_bracket
  pub item_place : IsItemPlace e begin at_bracket place rest
  pub innermost : item_place.outer ≡ []
