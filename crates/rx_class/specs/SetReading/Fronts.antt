-- How what stands next in a class with `v` is read (ClassSetExpression, 22.2.1), and what each answer says of the units. Lengths count from the front on.
use Rattle.std.specs.Prelude.{◌≡◌, ◌≢◌, ℕ, ◌+◌, ◌==◌, ◌&&◌, ◌⊎◌, Bool, true, false, Option, Some, None, List, [], ◌∷◌, ◌++◌, if◌then◌else◌, codes}
use Rattle.rx_base.specs.Ascii as ascii
use Rattle.rx_base.specs.declared.diagnostic.Diagnostic.{Diagnostic}
use Rattle.rx_base.specs.declared.diagnostic.kinds.SetOperator.{SetOperator}
use Rattle.rx_base.specs.declared.diagnostic.kinds.SetOperator.TheVariants as set
use Rattle.rx_tables.specs.Characters.{is_reserved_punctuator}
use Rattle.rx_ast.specs.declared.leaf.CharacterClassEscapeKind.{CharacterClassEscapeKind}
use Rattle.rx_ast.specs.declared.leaf.CharacterKind.TheVariants as kind
use Rattle.rx_units.specs.declared.code_point.CodePoint.{CodePoint}
use Rattle.rx_units.specs.Units.{values}
use Rattle.rx_units.specs.Digits.{front_is}
use Rattle.rx_model.specs.declared.mode.Mode.TheVariants.{Sets}
use Rattle.rx_model.specs.Characters.EscapeFronts.{EscapeRead, escaped, nothing, too_many, no_unicode, escape_at}
use Rattle.rx_model.specs.Characters.UnitKinds.{unit_kind}
use Rattle.rx_model.specs.Classes.ClassFronts.{are_next}
use Rattle.rx_model.specs.Classes.ClassRows.{Place, SpellsBracket, SpellsInClass, stands_raw_in_class}
use Rattle.rx_model.specs.Classes.ClassTokens.{ClassToken, is_character, operator, operator_text}
use Rattle.rx_model.specs.Classes.ClassTokens as token
use Rattle.rx_model.specs.FirstPass.Marks.{starts}
use Rattle.rx_model.specs.Inputs.Environment.{Environment}
use Rattle.rx_model.specs.Properties.PropertyForms.{begins_property}
use Rattle.rx_model.specs.Refusals.ClassPlaces.{begins_item}
use Rattle.rx_model.specs.Refusals.EscapeCauses.{IsEscapeCause, IsPropertyCause}
use Rattle.rx_ast.specs.Texts.{class_escape_text}
use Rattle.rx_class.specs.EscapeReading.Found.{class_escape_front}

-- the character after a backslash
abbrev pub set_escape_at : List ℕ → EscapeRead
set_escape_at [] = nothing
set_escape_at (c ∷ w) =
    if c == ascii.b then escaped kind.SingleEscape ascii.backspace 1 else (if is_reserved_punctuator c then escaped kind.Identifier c 1 else escape_at true (c ∷ w))

-- the same from the backslash on
abbrev pub after_backslash : EscapeRead → EscapeRead
after_backslash (escaped k v n) = escaped k v (n + 1)
after_backslash nothing = nothing
after_backslash (too_many n) = too_many n
after_backslash no_unicode = no_unicode

-- the character (ClassSetCharacter) at the front
unfoldable pub set_character_at : List CodePoint → EscapeRead
set_character_at [] = nothing
set_character_at (u ∷ us) =
    if u.value == ascii.backslash then after_backslash (set_escape_at (values us))
    else (if stands_raw_in_class Sets u.value (values us) then escaped (unit_kind u.escape_kind) u.value 1 else nothing)

-- a `-` and a character after it; the count is from after the `-` on
abbrev pub range_end_at : List CodePoint → EscapeRead
range_end_at [] = nothing
range_end_at (u ∷ us) = if u.value == ascii.hyphen then set_character_at us else nothing

-- What stands next: `]`; `[` or `[^`; `\q{`; an operator; a character, or a character escape that is refused; a class escape; what begins a
-- property escape; none of these.
pub data FrontRead : Type 0 where
  closer_next : FrontRead
  bracket_next : Bool → FrontRead
  strings_next : FrontRead
  operator_next : SetOperator → FrontRead
  character_next : EscapeRead → FrontRead
  escape_next : CharacterClassEscapeKind → FrontRead
  property_next : FrontRead
  nothing_next : FrontRead

abbrev pub character_front : EscapeRead → FrontRead
character_front (escaped k v n) = character_next (escaped k v n)
character_front nothing = nothing_next
character_front (too_many n) = character_next (too_many n)
character_front no_unicode = character_next no_unicode

abbrev pub escape_front : Option CharacterClassEscapeKind → EscapeRead → FrontRead
escape_front (Some k) read = escape_next k
escape_front None read = character_front (after_backslash read)

-- after a backslash
abbrev pub escaped_front : List ℕ → FrontRead
escaped_front w =
    if are_next ascii.q ascii.left_brace w then strings_next
    else (if front_is begins_property w then property_next
    else escape_front (class_escape_front w) (set_escape_at w))

-- where these characters stand next, by what is read there as a character
abbrev pub front_by : ℕ → List ℕ → FrontRead → FrontRead
front_by c w character =
    if c == ascii.right_bracket then closer_next
    else (if c == ascii.left_bracket then bracket_next (starts ascii.caret w)
    else (if c == ascii.ampersand && starts ascii.ampersand w then operator_next set.Intersection
    else (if c == ascii.hyphen && starts ascii.hyphen w then operator_next set.Subtraction
    else (if c == ascii.backslash then escaped_front w else character))))

unfoldable pub set_front_at : List CodePoint → FrontRead
set_front_at [] = nothing_next
set_front_at (u ∷ us) = front_by u.value (values us) (character_front (set_character_at (u ∷ us)))

-- The units begin with this text.
pub record Begins (us : List CodePoint) (text : List ℕ) : Type 0 where
  pub w : List CodePoint
  pub rest : List CodePoint
  pub whole : us ≡ w ++ rest
  pub text_is : values w ≡ text

-- a bracket at the front
pub record BeginsBracket (us : List CodePoint) (negative : Bool) : Type 0 where
  pub w : List CodePoint
  pub rest : List CodePoint
  pub whole : us ≡ w ++ rest
  pub spelled : SpellsBracket negative w rest

-- `\p` or `\P` at the front
pub record BeginsProperty (us : List CodePoint) : Type 0 where
  pub letter : ℕ
  pub following : List ℕ
  pub whole : values us ≡ ascii.backslash ∷ letter ∷ following
  pub letter_is : begins_property letter ≡ true

-- what an answer says of the units
abbrev pub StandsFront : List CodePoint → FrontRead → Type 0
StandsFront us closer_next = Begins us (codes "]")
StandsFront us (bracket_next negative) = BeginsBracket us negative
StandsFront us strings_next = Begins us (codes "\\q{")
StandsFront us (operator_next o) = Begins us (operator_text o)
StandsFront us (character_next read) = (set_character_at us ≡ read) × (read ≢ nothing)
StandsFront us (escape_next k) = Begins us (class_escape_text k)
StandsFront us property_next = BeginsProperty us
StandsFront us nothing_next = Unit {0}

-- a character of a class, or one that begins a range
abbrev pub IsOfCharacter : ClassToken → Type 0
IsOfCharacter (token.item a) = is_character a ≡ true
IsOfCharacter (token.low k v) = Unit {0}
IsOfCharacter t = ⊥

abbrev pub IsItem : ClassToken → Type 0
IsItem (token.item a) = Unit {0}
IsItem t = ⊥

-- the tokens that the front of the units may spell, where this was read of them and an item or an operand may begin
abbrev pub IsOfFront : FrontRead → ClassToken → Type 0
IsOfFront closer_next t = t ≡ token.closer
IsOfFront (bracket_next negative) t = t ≡ token.bracket negative
IsOfFront strings_next t = t ≡ token.strings
IsOfFront (operator_next o) t = t ≡ operator o
IsOfFront (character_next read) t = IsOfCharacter t
IsOfFront (escape_next k) t = t ≡ token.item (token.escape k)
IsOfFront property_next t = IsItem t
IsOfFront nothing_next t = ⊥

-- whether a refusal of an escape may hold there
abbrev pub may_be_refused : FrontRead → Bool
may_be_refused closer_next = false
may_be_refused (bracket_next negative) = false
may_be_refused strings_next = false
may_be_refused (operator_next o) = false
may_be_refused (character_next read) = true
may_be_refused (escape_next k) = false
may_be_refused property_next = true
may_be_refused nothing_next = false

-- Neither a character escape nor a property escape is refused here.
abbrev pub NoneRefused : Environment → List CodePoint → Type 0
NoneRefused e rest =
    (us : List CodePoint) (first added place : ℕ) (d : Diagnostic) → IsEscapeCause e.mode us first added place rest d ⊎ IsPropertyCause e.mode us first added place rest d → ⊥

-- What was read where an item or an operand may begin: what stands there, that no other token is spelled there, and whether an escape is refused there.
pub record IsSetFront (e : Environment) (us : List CodePoint) (read : FrontRead) : Type 0 where
  pub stands : StandsFront us read
  pub only : (q : Place) (t : ClassToken) (w more : List CodePoint) → begins_item q ≡ true → us ≡ w ++ more → SpellsInClass e q t w more → IsOfFront read t
  pub none_refused : may_be_refused read ≡ false → NoneRefused e us
