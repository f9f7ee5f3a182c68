-- What stands at the front of a text, or why no token does: by its first characters, in the order in which the readers look. It is `front` with reasons,
-- but for classes and properties, whose readers look past their first characters.
use Rattle.std.specs.Prelude.{ℕ, ◌+◌, Bool, true, false, ◌==◌, ◌&&◌, ◌||◌, nat_lt, Option, Some, None, List, [], ◌∷◌, drop, if◌then◌else◌}
use Rattle.rx_base.specs.Ascii as ascii
use Rattle.rx_ast.specs.declared.leaf.BoundaryAssertionKind.{BoundaryAssertionKind}
use Rattle.rx_ast.specs.declared.leaf.BoundaryAssertionKind.TheVariants as boundary_kind
use Rattle.rx_ast.specs.declared.leaf.CharacterClassEscapeKind.{CharacterClassEscapeKind}
use Rattle.rx_ast.specs.declared.leaf.LookAroundAssertionKind.TheVariants as look
use Rattle.rx_units.specs.declared.code_point.CodePoint.{CodePoint}
use Rattle.rx_units.specs.Units.{values}
use Rattle.rx_model.specs.Characters.UnitKinds.{unit_kind}
use Rattle.rx_model.specs.FirstPass.Marks.{starts}
use Rattle.rx_model.specs.Groups.ModifierFronts.{ModifiersHalt, ModifiersRead, modifiers_read, no_modifiers_read, modifiers_read_at}
use Rattle.rx_model.specs.Groups.NameFronts.{NameHalt, NameRead, name_read, no_name_read, name_read_at}
use Rattle.rx_model.specs.Inputs.Environment.{Environment, is_unicode}
use Rattle.rx_model.specs.Properties.PropertyForms.{begins_property}
use Rattle.rx_model.specs.Quantifiers.CountsReading.{CountsRead, counts_read, no_counts_read, many_digits, counts_read_at}
use Rattle.rx_model.specs.Reading.Fronts.{EscapeRead, escaped, nothing, too_many, no_unicode, any_escape_at, boundary_at, class_escape_at, Digits, digits, digits_after, is_raw_at, is_reference}
use Rattle.rx_model.specs.Trees.Early.{greatest_count}
use Rattle.rx_model.specs.Trees.Token.{Token, boundary, character, dot, class_escape, indexed, named, opener, closer, bar, quantifier, capturing, ignoring, looking}

-- Why no token is read. Lengths and places are in units, from the front on.
pub data FrontHalt : Type 0 where
  -- terms end here; reading stands n units on
  ends_here : ℕ → FrontHalt
  -- with neither `u` nor `v`, a backslash at the end of the text
  last_backslash : FrontHalt
  -- the counts of a quantifier of this length
  out_of_order : ℕ → FrontHalt
  too_large : ℕ → FrontHalt
  -- the digits of a count from a place on pass 64 bits, after n of them
  many_decimal_digits : ℕ → ℕ → FrontHalt
  -- the digits of a unicode escape pass 32 bits, after n of them
  many_hex_digits : ℕ → FrontHalt
  no_unicode_escape : FrontHalt
  in_name : NameHalt → FrontHalt
  -- `\k` and no `<`
  no_angle : FrontHalt
  -- the reference of this length has a number above that of the groups
  no_such_group : ℕ → FrontHalt
  in_modifiers : ModifiersHalt → ℕ → FrontHalt

-- a token of n units, what begins a property or a class, or why none is read
pub data FrontRead : Type 0 where
  token_read : Token → ℕ → FrontRead
  property_begins : FrontRead
  class_begins : FrontRead
  halted : FrontHalt → FrontRead

-- a name after three units, which a `>` ends, makes this token
abbrev pub with_name : (List ℕ → Token) → NameRead → FrontRead
with_name make (name_read name n) = token_read (make name) (n + 4)
with_name make (no_name_read it) = halted (in_name it)

abbrev pub modified_read : ModifiersRead → FrontRead
modified_read (modifiers_read enabling disabling n) = token_read (opener (ignoring (Some (enabling, disabling)))) (n + 3)
modified_read (no_modifiers_read it n) = halted (in_modifiers it n)

abbrev pub named_group_read : NameRead → FrontRead
named_group_read = with_name (λ name. opener (capturing (Some name)))

-- after `(?<`
abbrev pub angle_read : Bool → List ℕ → FrontRead
angle_read unicode_mode [] = named_group_read (name_read_at unicode_mode [])
angle_read unicode_mode (c ∷ w) =
    if c == ascii.equals then token_read (opener (looking look.Lookbehind)) 4
    else (if c == ascii.exclamation_mark then token_read (opener (looking look.NegativeLookbehind)) 4
    else named_group_read (name_read_at unicode_mode (c ∷ w)))

-- after `(?`
abbrev pub question_read : Bool → List ℕ → FrontRead
question_read unicode_mode [] = modified_read (modifiers_read_at [])
question_read unicode_mode (c ∷ w) =
    if c == ascii.colon then token_read (opener (ignoring None)) 3
    else (if c == ascii.equals then token_read (opener (looking look.Lookahead)) 3
    else (if c == ascii.exclamation_mark then token_read (opener (looking look.NegativeLookahead)) 3
    else (if c == ascii.less_than then angle_read unicode_mode w
    else modified_read (modifiers_read_at (c ∷ w)))))

-- after `(`
abbrev pub group_read : Bool → List ℕ → FrontRead
group_read unicode_mode [] = token_read (opener (capturing None)) 1
group_read unicode_mode (c ∷ w) = if c == ascii.question_mark then question_read unicode_mode w else token_read (opener (capturing None)) 1

-- a reference by number, with n groups
abbrev pub indexed_read : ℕ → Digits → FrontRead
indexed_read groups (digits n count w) = if nat_lt groups n then halted (no_such_group (count + 1)) else token_read (indexed n) (count + 1)

-- after `\k`
abbrev pub reference_read : Bool → List ℕ → FrontRead
reference_read unicode_mode [] = halted no_angle
reference_read unicode_mode (c ∷ w) = if c == ascii.less_than then with_name named (name_read_at unicode_mode w) else halted no_angle

abbrev pub escape_read : EscapeRead → FrontRead
escape_read (escaped k v n) = token_read (character k v) (n + 1)
escape_read nothing = halted (ends_here 1)
escape_read (too_many n) = halted (many_hex_digits n)
escape_read no_unicode = halted no_unicode_escape

-- a boundary, a class escape or a character escape
abbrev pub one_of_escapes : Option BoundaryAssertionKind → Option CharacterClassEscapeKind → EscapeRead → FrontRead
one_of_escapes (Some k) c r = token_read (boundary k) 2
one_of_escapes None (Some k) r = token_read (class_escape k) 2
one_of_escapes None None r = escape_read r

-- after a backslash
abbrev pub backslash_read : Environment → List ℕ → FrontRead
backslash_read e [] = halted (if is_unicode e.mode then ends_here 1 else last_backslash)
backslash_read e (c ∷ w) =
    if is_reference e (c ∷ w) then indexed_read e.groups (digits_after 0 0 (c ∷ w))
    else (if c == ascii.k && e.named then reference_read (is_unicode e.mode) w
    else (if begins_property c && is_unicode e.mode then property_begins
    else one_of_escapes (boundary_at e c) (class_escape_at c) (any_escape_at false e (c ∷ w))))

abbrev pub are_out_of_order : ℕ → Option ℕ → Bool
are_out_of_order min None = false
are_out_of_order min (Some max) = nat_lt max min

abbrev pub are_too_large : ℕ → Option ℕ → Bool
are_too_large min None = nat_lt greatest_count min
are_too_large min (Some max) = nat_lt greatest_count min || nat_lt greatest_count max

-- a quantifier by its counts
abbrev pub quantifier_read : CountsRead → List ℕ → FrontRead
quantifier_read no_counts_read w = halted (ends_here 0)
quantifier_read (many_digits start many) w = halted (many_decimal_digits start many)
quantifier_read (counts_read min max n) w =
    if are_out_of_order min max then halted (out_of_order n)
    else (if are_too_large min max then halted (too_large n)
    else (if starts ascii.question_mark (drop n w) then token_read (quantifier min max false) (n + 1) else token_read (quantifier min max true) n))

-- from a character on that is neither a backslash nor a `[` nor stands for itself
abbrev pub syntax_read : Environment → ℕ → List ℕ → FrontRead
syntax_read e c w =
    if c == ascii.full_stop then token_read dot 1
    else (if c == ascii.left_parenthesis then group_read (is_unicode e.mode) w
    else (if c == ascii.right_parenthesis then token_read closer 1
    else (if c == ascii.vertical_bar then token_read bar 1
    else (if c == ascii.caret then token_read (boundary boundary_kind.Start) 1
    else (if c == ascii.dollar_sign then token_read (boundary boundary_kind.End) 1
    else quantifier_read (counts_read_at (c ∷ w)) (c ∷ w))))))

unfoldable pub front_read : Environment → List CodePoint → FrontRead
front_read e [] = halted (ends_here 0)
front_read e (u ∷ us) =
    if is_raw_at e u.value (values us) then token_read (character (unit_kind u.escape_kind) u.value) 1
    else (if u.value == ascii.backslash then backslash_read e (values us)
    else (if u.value == ascii.left_bracket then class_begins else syntax_read e u.value (values us)))
