-- What stands in a class with `v`, in the words of ClassUnion, ClassIntersection and ClassSubtraction (22.2.1): members without spans. A relation `.. w rest` says
-- that the units w spell a thing before all that follows them, rest.
use Rattle.std.specs.Prelude.{◌≡◌, ◌≢◌, ℕ, Bool, true, List, [], ◌∷◌, ◌++◌}
use Rattle.rx_base.specs.Ascii as ascii
use Rattle.rx_base.specs.declared.diagnostic.kinds.SetOperator.{SetOperator}
use Rattle.rx_ast.specs.declared.leaf.CharacterKind.{CharacterKind}
use Rattle.rx_ast.specs.declared.class.CharacterClassContentsKind.TheVariants.{Union}
use Rattle.rx_ast.specs.declared.class.ClassString.{ClassString}
use Rattle.rx_ast.specs.ClassTree.{Class, Member, character, nested}
use Rattle.rx_units.specs.declared.code_point.CodePoint.{CodePoint}
use Rattle.rx_units.specs.Units.{values}
use Rattle.rx_model.specs.Classes.ClassBrackets.{InBrackets, class_of_members}
use Rattle.rx_model.specs.Classes.ClassFromTokens.{atom_member, range_member, strings_member}
use Rattle.rx_model.specs.Classes.ClassRows.{BeforeHigh, IsClass, SpellsAtom, SpellsClassCharacter, may_follow_operator}
use Rattle.rx_model.specs.Classes.ClassStrings.{SpellsStrings}
use Rattle.rx_model.specs.Classes.ClassTokens.{Atom, contents_kind, operator_text}
use Rattle.rx_model.specs.FirstPass.Marks.{starts}
use Rattle.rx_model.specs.Inputs.Environment.{Environment, is_sets}
use Rattle.rx_units.specs.Sequences.{ElementRow}

-- ClassSetOperand
pub data SpellsWholeOperand (e : Environment) : Member → List CodePoint → List CodePoint → Type 0 where
  -- a ClassSetCharacter, or a CharacterClassEscape (NestedClass too)
  of_atom : {w rest : List CodePoint} (a : Atom) → SpellsAtom e a w rest → SpellsWholeOperand e (atom_member a) w rest
  -- a class in the class (NestedClass)
  of_class : {w rest : List CodePoint} (c : Class) → is_sets e.mode ≡ true → IsClass e c w rest → SpellsWholeOperand e (nested c) w rest
  -- ClassStringDisjunction
  of_strings : {w rest : List CodePoint} (strings : List ClassString) → SpellsStrings e strings w rest → SpellsWholeOperand e (strings_member strings) w rest

abbrev pub IsCharacter : Member → Type 0
IsCharacter (character c) = Unit {0}
IsCharacter m = ⊥

-- an item of a ClassUnion
pub data SpellsUnionItem (e : Environment) : Member → List CodePoint → List CodePoint → Type 0 where
  -- ClassSetRange: two characters and a `-`
  of_range : {k j : CharacterKind} {v x : ℕ} {rest : List CodePoint} (low : List CodePoint) (hyphen : CodePoint) (high : List CodePoint)
      → SpellsClassCharacter e k v low (hyphen ∷ (high ++ rest)) → hyphen.value ≡ ascii.hyphen → SpellsClassCharacter e j x high rest → SpellsUnionItem e (range_member k v j x) (low ++ (hyphen ∷ high)) rest
  -- ClassSetOperand, where it does not begin a range: no character before a `-` and a character
  of_operand : {m : Member} {w rest : List CodePoint} → SpellsWholeOperand e m w rest → (IsCharacter m → BeforeHigh e rest → ⊥) → SpellsUnionItem e m w rest

-- `&&` before no `&` (ClassIntersection), and `--` (ClassSubtraction)
abbrev pub SpellsOperator : SetOperator → List CodePoint → List CodePoint → Type 0
SpellsOperator o w rest = (values w ≡ operator_text o) × (may_follow_operator o (values rest) ≡ true)

-- an operand with the operator before it
pub data SpellsFurtherOperand (e : Environment) (o : SetOperator) : Member → List CodePoint → List CodePoint → Type 0 where
  of_operator : {m : Member} {rest : List CodePoint} (operator w : List CodePoint) → SpellsOperator o operator (w ++ rest) → SpellsWholeOperand e m w rest → SpellsFurtherOperand e o m (operator ++ w) rest

-- `]` stands next.
abbrev pub IsOperandsEnd : List CodePoint → Type 0
IsOperandsEnd us = starts ascii.right_bracket (values us) ≡ true

-- A class of the items of a union, of which there may be none.
pub record IsClassOfUnion (e : Environment) (c : Class) (w rest : List CodePoint) : Type 0 where
  pub negative : Bool
  pub brackets : InBrackets negative w rest
  pub items : List Member
  pub row : ElementRow {Place = Unit {0}} (λ q. SpellsUnionItem e) (λ q m more. tt) items tt brackets.inside tt (brackets.closer ∷ rest)
  pub class_is : c ≡ class_of_members negative Union items

-- A class of the operands of an intersection or a subtraction, of which there are two at least.
pub record IsClassOfOperands (e : Environment) (o : SetOperator) (c : Class) (w rest : List CodePoint) : Type 0 where
  pub negative : Bool
  pub brackets : InBrackets negative w rest
  pub first : Member
  pub front : List CodePoint
  pub further : List CodePoint
  pub whole : brackets.inside ≡ front ++ further
  pub first_is : SpellsWholeOperand e first front further
  pub more : List Member
  pub some_more : more ≢ []
  pub row : ElementRow {Place = Unit {0}} (λ q. SpellsFurtherOperand e o) (λ q m more. tt) more tt further tt (brackets.closer ∷ rest)
  pub class_is : c ≡ class_of_members negative (contents_kind o) (first ∷ more)
