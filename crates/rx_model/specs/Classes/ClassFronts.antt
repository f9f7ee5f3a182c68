-- How a class at the front of a text is read: a token at a time, by its place, up to the closer. What it means stands in ClassRows.
use Rattle.std.specs.Prelude.{ℕ, zero, suc, ◌+◌, ◌-◌, Bool, true, false, ◌==◌, ◌&&◌, ◌||◌, Option, Some, None, List, [], ◌∷◌, drop, if◌then◌else◌}
use Rattle.rx_base.specs.Ascii as ascii
use Rattle.rx_base.specs.declared.diagnostic.kinds.SetOperator.TheVariants.{Intersection, Subtraction}
use Rattle.rx_tables.specs.Characters.{is_reserved_punctuator}
use Rattle.rx_ast.specs.declared.leaf.CharacterClassEscapeKind.{CharacterClassEscapeKind}
use Rattle.rx_ast.specs.declared.leaf.CharacterKind.TheVariants as kind
use Rattle.rx_ast.specs.ClassTree.{Class}
use Rattle.rx_units.specs.declared.code_point.CodePoint.{CodePoint}
use Rattle.rx_units.specs.Units.{values}
use Rattle.rx_model.specs.declared.mode.Mode.{Mode}
use Rattle.rx_model.specs.Classes.ClassFromTokens.{class_of_tokens}
use Rattle.rx_model.specs.Classes.ClassRows.{Place, outside, fresh, at_dash, at_high, at_second, at_third, after_operator, in_strings, has_hyphen, has_threes, is_dashed, may_follow_operator, stands_raw_in_class}
use Rattle.rx_model.specs.Classes.ClassTokens.{Atom, character, escape, property, is_character, ClassToken, bracket, closer, item, low, dash, high, operator, strings, letter, string_bar, strings_end}
use Rattle.rx_model.specs.Inputs.Environment.{Environment, is_sets, is_unicode}
use Rattle.rx_model.specs.Characters.EscapeFronts.{EscapeRead, escaped, nothing, too_many, no_unicode, any_escape_at, class_escape_at}
use Rattle.rx_model.specs.FirstPass.Marks.{starts}
use Rattle.rx_model.specs.Properties.PropertyFronts.{PropertyRead, property_read, no_property, property_front}
use Rattle.rx_model.specs.Reading.ElementKinds.{NestedPlace, after_of_class}
use Rattle.rx_model.specs.Refusals.Stops.{is_hyphen_escaped}
use Rattle.rx_model.specs.Characters.UnitKinds.{unit_kind}
use Rattle.rx_model.specs.Properties.PropertyForms.{begins_property}

-- an atom in n units; none
pub data AtomRead : Type 0 where
  atom_read : Atom → ℕ → AtomRead
  no_atom : AtomRead

abbrev pub property_atom : PropertyRead → AtomRead
property_atom (property_read negative may name value n) = atom_read (property negative may name value) (n + 1)
property_atom no_property = no_atom

abbrev pub character_atom : EscapeRead → AtomRead
character_atom (escaped k v n) = atom_read (character k v) (n + 1)
character_atom nothing = no_atom
character_atom (too_many n) = no_atom
character_atom no_unicode = no_atom

abbrev pub escape_atom : Option CharacterClassEscapeKind → EscapeRead → AtomRead
escape_atom (Some k) r = atom_read (escape k) 2
escape_atom None r = character_atom r

-- after a backslash
abbrev pub escape_in_class : Environment → List ℕ → AtomRead
escape_in_class e [] = no_atom
escape_in_class e (c ∷ w) =
    if c == ascii.b then atom_read (character kind.SingleEscape ascii.backspace) 2
    else (if is_hyphen_escaped e.mode && c == ascii.hyphen then atom_read (character kind.SingleEscape ascii.hyphen) 2
    else (if is_sets e.mode && is_reserved_punctuator c then atom_read (character kind.Identifier c) 2
    else (if begins_property c && is_unicode e.mode then property_atom (property_front e.mode (c ∷ w))
    else escape_atom (class_escape_at c) (any_escape_at true e (c ∷ w)))))

-- the atom at the front
unfoldable pub atom_at : Environment → List CodePoint → AtomRead
atom_at e [] = no_atom
atom_at e (u ∷ us) =
    if stands_raw_in_class e.mode u.value (values us) then atom_read (character (unit_kind u.escape_kind) u.value) 1
    else (if has_hyphen e.mode && u.value == ascii.hyphen then atom_read (character kind.Symbol ascii.hyphen) 1
    else (if u.value == ascii.backslash then escape_in_class e (values us) else no_atom))

-- a token in n units; none
abbrev pub TokenRead : Type 0
TokenRead = Option (ClassToken × ℕ)

-- an atom as an item, where it may be one
abbrev pub item_where : Bool → Atom → ℕ → TokenRead
item_where true a n = Some (item a, n)
item_where false a n = None

abbrev pub item_of : AtomRead → TokenRead
item_of no_atom = None
item_of (atom_read a n) = Some (item a, n)

-- a character as the low end of a range, as its high end, and as a letter of class strings
abbrev pub low_of : Atom → ℕ → TokenRead
low_of (character k v) n = Some (low k v, n)
low_of (escape k) n = None
low_of (property negative may name value) n = None

abbrev pub high_of : AtomRead → TokenRead
high_of no_atom = None
high_of (atom_read (character k v) n) = Some (high k v, n)
high_of (atom_read (escape k) n) = None
high_of (atom_read (property negative may name value) n) = None

-- an atom before a `-` and what stands after that: the low end of a range, or with neither `u` nor `v` the first of three items, or with `v` an item in any
-- other case
abbrev pub before_dash : Mode → Atom → ℕ → AtomRead → TokenRead
before_dash mode a n no_atom = item_where (is_sets mode) a n
before_dash mode a n (atom_read b m) = if is_character a && is_character b then low_of a n else item_where (has_threes mode || is_sets mode) a n

-- an atom before these units
abbrev pub item_before : Environment → Atom → ℕ → List CodePoint → TokenRead
item_before e a n rest = if is_dashed (values rest) then before_dash e.mode a n (atom_at e (drop 1 rest)) else Some (item a, n)

abbrev pub bracket_at : List ℕ → TokenRead
bracket_at [] = None
bracket_at (c ∷ w) = if c == ascii.left_bracket then (if starts ascii.caret w then Some (bracket true, 2) else Some (bracket false, 1)) else None

-- whether these two characters stand next
abbrev pub are_next : ℕ → ℕ → List ℕ → Bool
are_next c d [] = false
are_next c d (x ∷ w) = x == c && starts d w

-- whether `\q{` stands next
abbrev pub begins_strings : List ℕ → Bool
begins_strings [] = false
begins_strings (c ∷ w) = c == ascii.backslash && are_next ascii.q ascii.left_brace w

-- an operand that is no atom, or the beginning of one
abbrev pub operand_token : List ℕ → TokenRead
operand_token w = if begins_strings w then Some (strings, 3) else bracket_at w

-- the token of a class with `v` alone that no atom begins, where an item may begin
abbrev pub set_token : List ℕ → TokenRead
set_token w =
    if are_next ascii.ampersand ascii.ampersand w then Some (operator Intersection, 2)
    else (if are_next ascii.hyphen ascii.hyphen w then Some (operator Subtraction, 2) else operand_token w)

-- where an item may begin
abbrev pub fresh_token : Environment → AtomRead → List CodePoint → TokenRead
fresh_token e (atom_read a n) us = item_before e a n (drop n us)
fresh_token e no_atom us = if starts ascii.right_bracket (values us) then Some (closer, 1) else (if is_sets e.mode then set_token (values us) else None)

-- where an operand may
abbrev pub operand_of : AtomRead → List ℕ → TokenRead
operand_of (atom_read a n) w = Some (item a, n)
operand_of no_atom w = operand_token w

-- in class strings
abbrev pub string_token : AtomRead → List ℕ → TokenRead
string_token (atom_read (character k v) n) w = Some (letter k v, n)
string_token (atom_read (escape k) n) w = None
string_token (atom_read (property negative may name value) n) w = None
string_token no_atom w = if starts ascii.vertical_bar w then Some (string_bar, 1) else (if starts ascii.right_brace w then Some (strings_end, 1) else None)

abbrev pub token_where : Bool → TokenRead → TokenRead
token_where true r = r
token_where false r = None

-- the token at a place of a class, and how many units it takes
unfoldable pub class_token_at : Environment → Place → List CodePoint → TokenRead
class_token_at e outside us = bracket_at (values us)
class_token_at e fresh us = fresh_token e (atom_at e us) us
class_token_at e at_dash us = token_where (starts ascii.hyphen (values us)) (Some (dash, 1))
class_token_at e at_high us = high_of (atom_at e us)
class_token_at e at_second us = token_where (starts ascii.hyphen (values us)) (Some (item (character kind.Symbol ascii.hyphen), 1))
class_token_at e at_third us = item_of (atom_at e us)
class_token_at e (after_operator o) us = token_where (is_sets e.mode && may_follow_operator o (values us)) (operand_of (atom_at e us) (values us))
class_token_at e in_strings us = token_where (is_sets e.mode) (string_token (atom_at e us) (values us))

-- tokens in n units; none
abbrev pub TokensRead : Type 0
TokensRead = Option (List ClassToken × ℕ)

abbrev pub with_token : ClassToken → ℕ → TokensRead → TokensRead
with_token t n None = None
with_token t n (Some r) = Some (t ∷ r.0, n + r.1)

-- the tokens after n units; none where the class ends there
abbrev pub tokens_on : ℕ → Option NestedPlace → (NestedPlace → ℕ → TokensRead) → TokensRead
tokens_on n None again = Some ([], 0)
tokens_on n (Some p) again = again p (n - 1)

-- the tokens from a token on that was read at a place; `again` goes on after further units
abbrev pub tokens_from : Environment → NestedPlace → List CodePoint → TokenRead → (NestedPlace → ℕ → TokensRead) → TokensRead
tokens_from e p us None again = None
tokens_from e p us (Some r) again = with_token r.0 r.1 (tokens_on r.1 (after_of_class e (Some p) r.0 (drop r.1 us)) again)

-- the tokens of a class from a place on up to its closer, after some units that were read
abbrev pub class_tokens_at : Environment → NestedPlace → ℕ → List CodePoint → TokensRead
class_tokens_at e p skipped [] = None
class_tokens_at e p (suc skipped) (u ∷ us) = class_tokens_at e p skipped us
class_tokens_at e p zero (u ∷ us) = tokens_from e p (u ∷ us) (class_token_at e p.1 (u ∷ us)) (λ q n. class_tokens_at e q n us)

abbrev pub class_in : ℕ → Option Class → Option (Class × ℕ)
class_in n None = None
class_in n (Some c) = Some (c, n)

abbrev pub class_of : TokensRead → Option (Class × ℕ)
class_of None = None
class_of (Some r) = class_in r.1 (class_of_tokens r.0)

-- the class at the front, without spans, and how many units it has
unfoldable pub class_front : Environment → List CodePoint → Option (Class × ℕ)
class_front e us = class_of (class_tokens_at e (0, outside) 0 us)
