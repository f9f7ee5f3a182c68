-- What each token of a class spells (ClassContents, NonemptyClassRanges, and with `v` ClassSetExpression, 22.2.1), and rows of them. A relation `.. w rest`
-- says that the units w spell a thing before all that follows them, rest.
use Rattle.std.specs.Prelude.{◌≡◌, ℕ, ◌+◌, Bool, true, false, not, ◌==◌, ◌&&◌, ◌||◌, ◌⊎◌, List, [], ◌∷◌, ◌++◌, length, codes}
use Rattle.rx_base.specs.Ascii as ascii
use Rattle.rx_base.specs.declared.diagnostic.kinds.SetOperator.{SetOperator}
use Rattle.rx_base.specs.declared.diagnostic.kinds.SetOperator.TheVariants.{Intersection, Subtraction}
use Rattle.rx_tables.specs.Characters.{is_class_set_reserved_double_punctuator, is_class_set_syntax_character, is_reserved_punctuator}
use Rattle.rx_ast.specs.declared.leaf.CharacterKind.{CharacterKind}
use Rattle.rx_ast.specs.declared.leaf.CharacterKind.TheVariants as kind
use Rattle.rx_ast.specs.ClassTree.{Class}
use Rattle.rx_ast.specs.Forget.{forget_class, same_kind}
use Rattle.rx_units.specs.declared.code_point.CodePoint.{CodePoint}
use Rattle.rx_units.specs.Units.{values}
use Rattle.rx_units.specs.Digits.{front_is}
use Rattle.rx_model.specs.declared.mode.Mode.{Mode}
use Rattle.rx_model.specs.declared.mode.Mode.TheVariants.{Legacy, Unicode, Sets}
use Rattle.rx_ast.specs.Texts.{class_escape_text}
use Rattle.rx_model.specs.Classes.ClassTokens.{Atom, character, escape, property, is_character, ClassToken, bracket, closer, item, low, dash, high, operator, operator_text, strings, letter, string_bar, strings_end, ClassEvents, enter, leave, token, class_events, class_tokens}
use Rattle.rx_model.specs.Classes.ClassShapes.{IsFitting, IsFlagged}
use Rattle.rx_model.specs.Inputs.Environment.{Environment, is_sets, is_unicode}
use Rattle.rx_model.specs.Characters.Escapes.{SpellsEscape}
use Rattle.rx_model.specs.Characters.LegacyEscapes.{SpellsLegacy}
use Rattle.rx_model.specs.FirstPass.Marks.{starts}
use Rattle.rx_model.specs.Properties.PropertyEscapes.{IsProperty}
use Rattle.rx_model.specs.Characters.UnitKinds.{unit_kind}
use Rattle.rx_base.specs.Characters.{is_one_of}

-- whether a value may stand for itself in a class before these characters (ClassAtomNoDash): neither a backslash, nor `]`, nor `-`; with `v`
-- (ClassSetCharacter) no ClassSetSyntaxCharacter, and with what stands after it no ClassSetReservedDoublePunctuator
abbrev pub stands_raw_in_class : Mode → ℕ → List ℕ → Bool
stands_raw_in_class Legacy c w = not (is_one_of (codes "\\]-") c)
stands_raw_in_class Unicode c w = not (is_one_of (codes "\\]-") c)
stands_raw_in_class Sets c w = not (is_class_set_syntax_character c || front_is (is_class_set_reserved_double_punctuator c) w)

-- the escapes that are characters in classes alone (ClassEscape, 22.2.1): `\b`; with `u`, `\-`; with `v`, a ClassSetReservedPunctuator
pub data SpellsInClassAlone (mode : Mode) : CharacterKind → ℕ → List ℕ → Type 0 where
  backspace : SpellsInClassAlone mode kind.SingleEscape ascii.backspace (codes "b")
  hyphen : mode ≡ Unicode → SpellsInClassAlone mode kind.SingleEscape ascii.hyphen (codes "-")
  reserved : (c : ℕ) → mode ≡ Sets → is_reserved_punctuator c ≡ true → SpellsInClassAlone mode kind.Identifier c (c ∷ [])

-- whether a `-` may stand for itself
abbrev pub has_hyphen : Mode → Bool
has_hyphen Legacy = true
has_hyphen Unicode = true
has_hyphen Sets = false

-- A character in a class.
pub data SpellsClassCharacter (e : Environment) : CharacterKind → ℕ → List CodePoint → List CodePoint → Type 0 where
  -- one unit
  raw : {rest : List CodePoint} (unit : CodePoint) → stands_raw_in_class e.mode unit.value (values rest) ≡ true → SpellsClassCharacter e (unit_kind unit.escape_kind) unit.value (unit ∷ []) rest
  -- a `-`, however it was written
  hyphen : {rest : List CodePoint} (unit : CodePoint) → has_hyphen e.mode ≡ true → unit.value ≡ ascii.hyphen → SpellsClassCharacter e kind.Symbol ascii.hyphen (unit ∷ []) rest
  -- a backslash and an escape that is a character everywhere
  escaped : {k : CharacterKind} {v : ℕ} {rest : List CodePoint} (backslash : CodePoint) (following : List CodePoint) → backslash.value ≡ ascii.backslash
      → SpellsEscape e k v (values following) (values rest) → SpellsClassCharacter e k v (backslash ∷ following) rest
  -- a backslash and one that is a character in classes alone
  escaped_in_class : {k : CharacterKind} {v : ℕ} {rest : List CodePoint} (backslash : CodePoint) (following : List CodePoint)
      → backslash.value ≡ ascii.backslash → SpellsInClassAlone e.mode k v (values following) → SpellsClassCharacter e k v (backslash ∷ following) rest
  -- a backslash and one that is a character with neither `u` nor `v` alone
  escaped_in_legacy : {k : CharacterKind} {v : ℕ} {rest : List CodePoint} (backslash : CodePoint) (following : List CodePoint) → backslash.value ≡ ascii.backslash → is_unicode e.mode ≡ false
      → SpellsLegacy true e k v (values following) (values rest) → SpellsClassCharacter e k v (backslash ∷ following) rest

-- ClassAtom
abbrev pub SpellsAtom : Environment → Atom → List CodePoint → List CodePoint → Type 0
SpellsAtom e (character k v) w rest = SpellsClassCharacter e k v w rest
SpellsAtom e (escape k) w rest = values w ≡ class_escape_text k
SpellsAtom e (property negative of_strings name value) w rest = IsProperty e negative of_strings name value w

-- whether a `-` stands next, and then neither `]` nor the end
abbrev pub is_dashed : List ℕ → Bool
is_dashed [] = false
is_dashed (c ∷ []) = false
is_dashed (c ∷ d ∷ w) = c == ascii.hyphen && not (d == ascii.right_bracket)

-- a `-` and a character stand next
pub record BeforeHigh (e : Environment) (rest : List CodePoint) : Type 0 where
  pub hyphen : CodePoint
  pub kind : CharacterKind
  pub value : ℕ
  pub w : List CodePoint
  pub more : List CodePoint
  pub whole : rest ≡ hyphen ∷ (w ++ more)
  pub hyphen_is : hyphen.value ≡ ascii.hyphen
  pub spelled : SpellsClassCharacter e kind value w more

-- whether an atom, a `-` and an atom that make no range are three items: with neither `u` nor `v` (CharacterRangeOrUnion, B.1.2.8.1)
abbrev pub has_threes : Mode → Bool
has_threes Legacy = true
has_threes Unicode = false
has_threes Sets = false

-- a `-` and an atom stand next, which are the second and the third of three items, of which this atom is the first
pub record BeforeThird (e : Environment) (first : Atom) (rest : List CodePoint) : Type 0 where
  pub hyphen : CodePoint
  pub third : Atom
  pub w : List CodePoint
  pub more : List CodePoint
  pub whole : rest ≡ hyphen ∷ (w ++ more)
  pub hyphen_is : hyphen.value ≡ ascii.hyphen
  pub dashed : is_dashed (values rest) ≡ true
  pub spelled : SpellsAtom e third w more
  pub apart : (is_character first && is_character third) ≡ false
  pub threes : has_threes e.mode ≡ true

-- With `v` an operand of a union is what no range begins with (ClassUnion): it is no character, or no `-` and character stand next.
pub record BeginsNoRange (e : Environment) (a : Atom) (rest : List CodePoint) : Type 0 where
  pub sets : is_sets e.mode ≡ true
  pub none : is_character a ≡ true → BeforeHigh e rest → ⊥

-- what stands after an item: no `-` that could make it the low end of a range, or the other two of three items
abbrev pub StandsBefore : Environment → Atom → List CodePoint → Type 0
StandsBefore e a rest = (is_dashed (values rest) ≡ false) ⊎ (BeforeThird e a rest ⊎ BeginsNoRange e a rest)

-- What may stand next in a class: its bracket; an item, an operator or a closer; the `-` of a range; the end of a range; the second and the third of three
-- items; with `v` the operand after an operator; what class strings may go on with.
pub data Place : Type 0 where
  outside : Place
  fresh : Place
  at_dash : Place
  at_high : Place
  at_second : Place
  at_third : Place
  after_operator : SetOperator → Place
  in_strings : Place

-- `[^`, or a `[` before no `^`
abbrev pub SpellsBracket : Bool → List CodePoint → List CodePoint → Type 0
SpellsBracket true w rest = values w ≡ codes "[^"
SpellsBracket false w rest = (values w ≡ codes "[") × (starts ascii.caret (values rest) ≡ false)

-- what an operand is or begins with (ClassSetOperand): an atom, a nested class, the `\q{` of class strings
abbrev pub SpellsOperand : Environment → ClassToken → List CodePoint → List CodePoint → Type 0
SpellsOperand e (item a) w rest = SpellsAtom e a w rest
SpellsOperand e (bracket negative) w rest = SpellsBracket negative w rest
SpellsOperand e strings w rest = values w ≡ codes "\\q{"
SpellsOperand e t w rest = ⊥

-- what class strings go on with (ClassStringDisjunction): a character, `|`, or the `}` that ends them
abbrev pub SpellsOfStrings : Environment → ClassToken → List CodePoint → List CodePoint → Type 0
SpellsOfStrings e (letter k v) w rest = SpellsClassCharacter e k v w rest
SpellsOfStrings e string_bar w rest = values w ≡ codes "|"
SpellsOfStrings e strings_end w rest = values w ≡ codes "}"
SpellsOfStrings e t w rest = ⊥

-- whether these characters may stand right after the operator: after `&&` no `&` may (ClassIntersection)
abbrev pub may_follow_operator : SetOperator → List ℕ → Bool
may_follow_operator Intersection w = not (starts ascii.ampersand w)
may_follow_operator Subtraction w = true

-- At a place the token is spelled. Nested classes, class strings and operators stand in classes with `v` alone.
abbrev pub SpellsInClass : Environment → Place → ClassToken → List CodePoint → List CodePoint → Type 0
SpellsInClass e outside (bracket negative) w rest = SpellsBracket negative w rest
SpellsInClass e fresh closer w rest = values w ≡ codes "]"
SpellsInClass e fresh (item a) w rest = SpellsAtom e a w rest × StandsBefore e a rest
SpellsInClass e fresh (low k v) w rest = SpellsClassCharacter e k v w rest × (is_dashed (values rest) ≡ true) × BeforeHigh e rest
SpellsInClass e fresh (bracket negative) w rest = (is_sets e.mode ≡ true) × SpellsOperand e (bracket negative) w rest
SpellsInClass e fresh strings w rest = (is_sets e.mode ≡ true) × SpellsOperand e strings w rest
SpellsInClass e fresh (operator o) w rest = (is_sets e.mode ≡ true) × (values w ≡ operator_text o)
SpellsInClass e at_dash dash w rest = values w ≡ codes "-"
SpellsInClass e at_high (high k v) w rest = SpellsClassCharacter e k v w rest
SpellsInClass e at_second (item a) w rest = (a ≡ character kind.Symbol ascii.hyphen) × (values w ≡ codes "-")
SpellsInClass e at_third (item a) w rest = SpellsAtom e a w rest
SpellsInClass e (after_operator o) t w rest = (is_sets e.mode ≡ true) × SpellsOperand e t w rest × (may_follow_operator o (values w) ≡ true)
SpellsInClass e in_strings t w rest = (is_sets e.mode ≡ true) × SpellsOfStrings e t w rest
SpellsInClass e q t w rest = ⊥

-- the place after an item, by whether it is the first of three
abbrev pub following_item : Place → Bool → Place
following_item fresh true = at_second
following_item fresh false = fresh
following_item at_second first = at_third
following_item at_third first = fresh
following_item outside first = fresh
following_item at_dash first = fresh
following_item at_high first = fresh
following_item (after_operator o) first = fresh
following_item in_strings first = fresh

-- the place after a token, from its own place and with what follows it
abbrev pub next_place : Mode → Place → ClassToken → List CodePoint → Place
next_place mode q (bracket negative) rest = fresh
next_place mode q closer rest = fresh
next_place mode q (item a) rest = following_item q (is_dashed (values rest) && has_threes mode)
next_place mode q (low k v) rest = at_dash
next_place mode q dash rest = at_high
next_place mode q (high k v) rest = fresh
next_place mode q (operator o) rest = after_operator o
next_place mode q strings rest = in_strings
next_place mode q (letter k v) rest = in_strings
next_place mode q string_bar rest = in_strings
next_place mode q strings_end rest = fresh

-- The tokens lead from these units, at a place of the class, to the rest.
abbrev pub ClassTokenRow : Environment → List ClassToken → Place → List CodePoint → Place → List CodePoint → Type 0
ClassTokenRow e [] q us r rest = (q ≡ r) × (us ≡ rest)
ClassTokenRow e (t ∷ ts) q us r rest =
    (w : List CodePoint) × (more : List CodePoint) × (us ≡ w ++ more) × SpellsInClass e q t w more × ClassTokenRow e ts (next_place e.mode q t more) more r rest

-- The events lead from place i of the text to place j, where o gives the offset of a place.
abbrev pub ClassRow : Environment → (ℕ → ℕ) → ClassEvents → Place → ℕ → List CodePoint → Place → ℕ → List CodePoint → Type 0
ClassRow e o [] q i us r j rest = (q ≡ r) × (i ≡ j) × (us ≡ rest)
ClassRow e o ((enter n) ∷ es) q i us r j rest = (n ≡ o i) × ClassRow e o es q i us r j rest
ClassRow e o ((leave n) ∷ es) q i us r j rest = (n ≡ o i) × ClassRow e o es q i us r j rest
ClassRow e o ((token t) ∷ es) q i us r j rest =
    (w : List CodePoint) × (more : List CodePoint) × (us ≡ w ++ more) × SpellsInClass e q t w more × ClassRow e o es (next_place e.mode q t more) (i + length w) more r j rest

-- What the text of a class does not tell by itself, of nested classes too: that its kind has as many operands as it takes, and that each flag is
-- MayContainStrings (22.2.1.8).
abbrev pub IsClassShape : Class → Type 0
IsClassShape c = IsFitting c × IsFlagged c

-- A whole class without spans is spelled: from before its bracket to after its closer.
pub record IsClass (e : Environment) (c : Class) (w rest : List CodePoint) : Type 0 where
  pub no_spans : forget_class same_kind c ≡ c
  pub shape : IsClassShape c
  pub row : ClassTokenRow e (class_tokens c) outside (w ++ rest) fresh rest

-- The same from place i on, where o gives the offset of a place: each node in it has the span of what it spells.
pub record IsClassSpanned (e : Environment) (o : ℕ → ℕ) (i : ℕ) (c : Class) (w rest : List CodePoint) : Type 0 where
  pub shape : IsClassShape c
  pub row : ClassRow e o (class_events c) outside i (w ++ rest) fresh (i + length w) rest
