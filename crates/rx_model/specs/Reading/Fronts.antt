-- How the token at the front of a text is read: by its first characters, in the order in which the readers look. What the tokens mean stands in Rows.
use Rattle.std.specs.Prelude.{ℕ, zero, suc, ◌+◌, ◌-◌, ◌*◌, Bool, true, false, not, nat_le, ◌==◌, ◌&&◌, ◌||◌, Option, Some, None, List, [], ◌∷◌, drop, if◌then◌else◌}
use Rattle.rx_base.specs.Ascii as ascii
use Rattle.rx_tables.specs.Characters.{is_decimal_digit}
use Rattle.rx_ast.specs.declared.leaf.BoundaryAssertionKind.{BoundaryAssertionKind}
use Rattle.rx_ast.specs.declared.leaf.BoundaryAssertionKind.TheVariants as boundary_kind
use Rattle.rx_ast.specs.declared.leaf.CharacterClassEscapeKind.{CharacterClassEscapeKind}
use Rattle.rx_ast.specs.ClassTree.{Class}
use Rattle.rx_units.specs.declared.code_point.CodePoint.{CodePoint}
use Rattle.rx_units.specs.Units.{values}
use Rattle.rx_units.specs.Digits.{front_is}
use Rattle.rx_model.specs.Reading.Boundaries.{has_buffers}
use Rattle.rx_model.specs.Classes.ClassFronts.{class_front}
use Rattle.rx_model.specs.Inputs.Environment.{Environment, for_classes, is_unicode}
pub use Rattle.rx_model.specs.Characters.EscapeFronts.{EscapeRead, escaped, nothing, too_many, no_unicode, escape_if, unicode_read, letter_at, two_at, escape_after, control_after, octal_at, digit_at, or_legacy, any_escape_at, class_escape_at}
unfoldable pub use Rattle.rx_model.specs.Characters.EscapeFronts.{escape_at, legacy_at}
use Rattle.rx_model.specs.Groups.GroupFronts.{group_front, reference_front}
use Rattle.rx_model.specs.Characters.LegacyEscapes.{begins_run, run_number}
use Rattle.rx_model.specs.Properties.PropertyFronts.{PropertyRead, property_read, no_property, property_front}
use Rattle.rx_model.specs.Quantifiers.Quantifiers.{is_question}
use Rattle.rx_model.specs.Reading.Rows.{stands_raw}
use Rattle.rx_model.specs.Characters.UnitKinds.{unit_kind}
use Rattle.rx_model.specs.Trees.Token.{Token, Opener, boundary, character, dot, class_escape, property, class, indexed, named, opener, closer, bar, quantifier}
use Rattle.rx_model.specs.Properties.PropertyForms.{begins_property}

abbrev pub buffer_at : ℕ → Option BoundaryAssertionKind
buffer_at c =
    if c == ascii.A then Some boundary_kind.StartBuffer
    else (if c == ascii.z then Some boundary_kind.EndBuffer
    else (if c == ascii.Z then Some boundary_kind.EndBufferOptionalNewline else None))

-- the boundary after a backslash
abbrev pub boundary_at : Environment → ℕ → Option BoundaryAssertionKind
boundary_at e c =
    if c == ascii.b then Some boundary_kind.Boundary
    else (if c == ascii.B then Some boundary_kind.NegativeBoundary
    else (if has_buffers e then buffer_at c else None))

abbrev pub escaped_token : EscapeRead → Option (Token × ℕ)
escaped_token (escaped k v n) = Some (character k v, n + 1)
escaped_token nothing = None
escaped_token (too_many n) = None
escaped_token no_unicode = None

abbrev pub backslash_token : Option BoundaryAssertionKind → Option CharacterClassEscapeKind → EscapeRead → Option (Token × ℕ)
backslash_token (Some k) c r = Some (boundary k, 2)
backslash_token None (Some k) r = Some (class_escape k, 2)
backslash_token None None r = escaped_token r

-- digits: their number, how many they are, what stands after them
pub data Digits : Type 0 where
  digits : ℕ → ℕ → List ℕ → Digits

-- the digits that stand next, after a number and n digits
abbrev pub digits_after : ℕ → ℕ → List ℕ → Digits
digits_after n count [] = digits n count []
digits_after n count (c ∷ w) = if is_decimal_digit c then digits_after (10 * n + (c - ascii.zero)) (count + 1) w else digits n count (c ∷ w)

abbrev pub indexed_token : Digits → Option (Token × ℕ)
indexed_token (digits n count w) = Some (indexed n, count + 1)

-- `\k<`, a name and `>`
abbrev pub named_token : Option (List ℕ × ℕ) → Option (Token × ℕ)
named_token None = None
named_token (Some n) = Some (named n.0, n.1 + 3)

abbrev pub property_token : PropertyRead → Option (Token × ℕ)
property_token (property_read negative strings name value n) = Some (property negative strings name value, n + 1)
property_token no_property = None

-- whether a reference by number stands after a backslash
abbrev pub is_reference : Environment → List ℕ → Bool
is_reference e w = begins_run w && (is_unicode e.mode || nat_le (run_number 0 w) e.groups)

-- the token of a backslash and what stands after it
unfoldable pub backslash_front : Environment → List ℕ → Option (Token × ℕ)
backslash_front e [] = None
backslash_front e (c ∷ w) =
    if is_reference e (c ∷ w) then indexed_token (digits_after 0 0 (c ∷ w))
    else (if c == ascii.k && e.named then named_token (reference_front (is_unicode e.mode) w)
    else (if begins_property c && is_unicode e.mode then property_token (property_front e.mode (c ∷ w))
    else backslash_token (boundary_at e c) (class_escape_at c) (any_escape_at false e (c ∷ w))))

-- the counts of a quantifier, in n characters, or none
pub data Counts : Type 0 where
  counts : ℕ → Option ℕ → ℕ → Counts
  no_counts : Counts

abbrev pub greatest_of : ℕ → ℕ → Option ℕ
greatest_of zero m = None
greatest_of (suc count) m = Some m

-- after `{`, a number of n digits and `,`
abbrev pub counts_after_comma : ℕ → ℕ → Digits → Counts
counts_after_comma n count (digits m more []) = no_counts
counts_after_comma n count (digits m more (c ∷ w)) = if c == ascii.right_brace then counts n (greatest_of more m) (count + more + 3) else no_counts

-- after `{`
abbrev pub counts_in_braces : Digits → Counts
counts_in_braces (digits n zero w) = no_counts
counts_in_braces (digits n (suc more) []) = no_counts
counts_in_braces (digits n (suc more) (c ∷ w)) =
    if c == ascii.right_brace then counts n (Some n) (suc more + 2)
    else (if c == ascii.comma then counts_after_comma n (suc more) (digits_after 0 0 w) else no_counts)

-- the prefix of a quantifier
unfoldable pub counts_at : List ℕ → Counts
counts_at [] = no_counts
counts_at (c ∷ w) =
    if c == ascii.asterisk then counts 0 None 1
    else (if c == ascii.plus then counts 1 None 1
    else (if c == ascii.question_mark then counts 0 (Some 1) 1
    else (if c == ascii.left_brace then counts_in_braces (digits_after 0 0 w) else no_counts)))

abbrev pub quantifier_token : Counts → List ℕ → Option (Token × ℕ)
quantifier_token (counts min max n) w =
    if front_is is_question (drop n w) then Some (quantifier min max false, n + 1) else Some (quantifier min max true, n)
quantifier_token no_counts w = None

abbrev pub opener_token : Option (Opener × ℕ) → Option (Token × ℕ)
opener_token None = None
opener_token (Some o) = Some (opener o.0, o.1)

abbrev pub bracket_token : Option (Class × ℕ) → Option (Token × ℕ)
bracket_token None = None
bracket_token (Some c) = Some (class c.0, c.1)

-- the token that begins with this character, which is neither a backslash nor a `[` nor stands for itself
abbrev pub syntax_front : Environment → ℕ → List ℕ → Option (Token × ℕ)
syntax_front e c w =
    if c == ascii.full_stop then Some (dot, 1)
    else (if c == ascii.left_parenthesis then opener_token (group_front (is_unicode e.mode) w)
    else (if c == ascii.right_parenthesis then Some (closer, 1)
    else (if c == ascii.vertical_bar then Some (bar, 1)
    else (if c == ascii.caret then Some (boundary boundary_kind.Start, 1)
    else (if c == ascii.dollar_sign then Some (boundary boundary_kind.End, 1)
    else quantifier_token (counts_at (c ∷ w)) (c ∷ w))))))

abbrev pub are_counts : Counts → Bool
are_counts (counts min max n) = true
are_counts no_counts = false

-- whether a character stands for itself, with what follows it
abbrev pub is_raw_at : Environment → ℕ → List ℕ → Bool
is_raw_at e c w = stands_raw e.mode c && (is_unicode e.mode || not (are_counts (counts_at (c ∷ w))))

-- the token at the front, and how many units it takes
unfoldable pub front : Environment → List CodePoint → Option (Token × ℕ)
front e [] = None
front e (u ∷ us) =
    if is_raw_at e u.value (values us) then Some (character (unit_kind u.escape_kind) u.value, 1)
    else (if u.value == ascii.backslash then backslash_front e (values us)
    else (if u.value == ascii.left_bracket then bracket_token (class_front (for_classes e) (u ∷ us)) else syntax_front e u.value (values us)))
