-- What is found at the front of a text.
use Rattle.std.specs.Prelude.{◌≡◌, ℕ, ◌-◌, ◌%◌, ◌≤◌, Bool, ◌&&◌, Option, Some, None, true, List, [], ◌∷◌, length, drop, take}
use Rattle.rx_base.specs.Ascii as ascii
use Rattle.rx_base.specs.declared.span.Span.{Span}
use Rattle.rx_ast.specs.declared.term.Term.{Term}
use Rattle.rx_ast.specs.declared.term.Term.TheVariants as term
use Rattle.rx_ast.specs.declared.leaf.BoundaryAssertionKind.{BoundaryAssertionKind}
use Rattle.rx_units.specs.declared.code_point.CodePoint.{CodePoint}
use Rattle.rx_units.specs.Units.{values}
use Rattle.rx_model.specs.Trees.Early.{Obeys}
use Rattle.rx_model.specs.Inputs.Environment.{Environment, is_unicode}
use Rattle.rx_model.specs.Reading.Fronts.{boundary_at, front}
use Rattle.rx_model.specs.Groups.GroupNameReading.{name_of}
use Rattle.rx_model.specs.FirstPass.Marks.{starts}
use Rattle.rx_model.specs.Properties.PropertyForms.{begins_property}
use Rattle.rx_model.specs.Reading.FrontReading.{FrontHalt, ends_here, last_backslash, out_of_order, too_large, many_decimal_digits, many_hex_digits, no_unicode_escape, in_name, no_angle, no_such_group, in_modifiers, FrontRead, token_read, property_begins, class_begins, halted, backslash_read, front_read}
use Rattle.rx_model.specs.Groups.ModifierFronts.{ModifiersHalt, no_colon, letter_twice, no_letter, letter_shared}
use Rattle.rx_model.specs.Trees.Token.{Token, Opener, boundary, character, dot, class_escape, property, class, indexed, named, opener, closer, bar, quantifier, capturing, ignoring, looking}
use Rattle.rx_parser.specs.Names.{found_name_halt}
use Rattle.rx_parser.specs.HaltPlaces.{halt_end}
use Rattle.rx_parser.specs.declared.found.Leaf.{Leaf}
use Rattle.rx_parser.specs.declared.found.Leaf.TheVariants as leaf
use Rattle.rx_parser.specs.declared.found.OpenerFound.{OpenerFound}
use Rattle.rx_parser.specs.declared.found.OpenerFound.TheVariants as opener_found
use Rattle.rx_parser.specs.declared.found.ModifiersFault.{ModifiersFault}
use Rattle.rx_parser.specs.declared.found.ModifiersFault.TheVariants as fault
use Rattle.rx_parser.specs.declared.found.Halt.{Halt}
use Rattle.rx_parser.specs.declared.found.Halt.TheVariants as halt
use Rattle.rx_parser.specs.declared.found.Found.{Found}
use Rattle.rx_parser.specs.declared.found.Found.TheVariants as found

-- the token that a leaf is
abbrev pub leaf_token : Leaf → Token
leaf_token (leaf.Boundary kind) = boundary kind
leaf_token (leaf.Character kind value) = character kind value
leaf_token leaf.Dot = dot
leaf_token (leaf.ClassEscape kind) = class_escape kind
leaf_token (leaf.IndexedReference n) = indexed n

-- the term that a leaf of this span is
abbrev pub leaf_term : Leaf → Span → Term
leaf_term (leaf.Boundary kind) span = term.BoundaryAssertion (record { span = span; kind = kind })
leaf_term (leaf.Character kind value) span = term.Character (record { span = span; kind = kind; value = value })
leaf_term leaf.Dot span = term.Dot (record { span = span })
leaf_term (leaf.ClassEscape kind) span = term.CharacterClassEscape (record { span = span; kind = kind })
leaf_term (leaf.IndexedReference n) span = term.IndexedReference (record { span = span; index = n })

-- the boundary that the first of these characters is after a backslash (Assertion, 22.2.1)
abbrev pub boundary_front : Environment → List ℕ → Option BoundaryAssertionKind
boundary_front e [] = None
boundary_front e (c ∷ cs) = boundary_at e c

-- A token of n units stands next, which obeys the early rules whatever names there are.
abbrev pub Stands : Environment → List CodePoint → Token → ℕ → Type 0
Stands e us t n = (front e us ≡ Some (t, n)) × (n ≤ length us) × ((names : List (List ℕ)) → Obeys e.groups names t)

-- The first n units end with a name and `>`, and three units stand before the name.
pub record HoldsName (unicode_mode : Bool) (us : List CodePoint) (name : List ℕ) (n : ℕ) : Type 0 where
  pub long : 4 ≤ n
  pub within : n ≤ length us
  pub name_is : name_of unicode_mode (values (take (n - 4) (drop 3 us))) ≡ Some name

-- what the n units are that a group begins with
abbrev pub IsOpenerFound : Environment → List CodePoint → ℕ → Opener → OpenerFound → Type 0
IsOpenerFound e us n o opener_found.Capturing = o ≡ capturing None
IsOpenerFound e us n o opener_found.Named = (name : List ℕ) × (o ≡ capturing (Some name)) × HoldsName (is_unicode e.mode) us name n
IsOpenerFound e us n o opener_found.Ignoring = o ≡ ignoring None
IsOpenerFound e us n o (opener_found.Modified enabling disabling) = (o ≡ ignoring (Some (enabling.0 % 8, disabling.0 % 8))) × (3 ≤ n)
IsOpenerFound e us n o (opener_found.LookAround kind) = o ≡ looking kind

-- the answer on what a group begins with
abbrev pub found_opener : Opener → OpenerFound
found_opener (capturing None) = opener_found.Capturing
found_opener (capturing (Some name)) = opener_found.Named
found_opener (ignoring None) = opener_found.Ignoring
found_opener (ignoring (Some bits)) = opener_found.Modified (record { 0 = bits.0 }) (record { 0 = bits.1 })
found_opener (looking kind) = opener_found.LookAround kind

-- the answer on wrong modifiers
abbrev pub found_fault : ModifiersHalt → ModifiersFault
found_fault no_colon = fault.Unknown
found_fault letter_twice = fault.Duplicated
found_fault no_letter = fault.Empty
found_fault letter_shared = fault.Invalid

-- the answer on a token of n units
abbrev pub found_token : Token → ℕ → Found
found_token (boundary kind) n = found.Leaf (leaf.Boundary kind) n
found_token (character kind value) n = found.Leaf (leaf.Character kind value) n
found_token dot n = found.Leaf leaf.Dot n
found_token (class_escape kind) n = found.Leaf (leaf.ClassEscape kind) n
found_token (property negative strings name value) n = found.Property
found_token (class c) n = found.Class
found_token (indexed index) n = found.Leaf (leaf.IndexedReference index) n
found_token (named name) n = found.NamedReference n
found_token (opener o) n = found.Open (found_opener o) n
found_token closer n = found.Close
found_token bar n = found.Bar
found_token (quantifier min max greedy) n = found.Quantifier min max greedy n

-- the answer where no token is read
abbrev pub found_halt : FrontHalt → Halt
found_halt (ends_here n) = halt.Stop n
found_halt last_backslash = halt.LastBackslash
found_halt (out_of_order n) = halt.OutOfOrder n
found_halt (too_large n) = halt.TooLarge n
found_halt (many_decimal_digits start many) = halt.TooManyDigits start many
found_halt (many_hex_digits many) = halt.TooManyHexDigits 3 many
found_halt no_unicode_escape = halt.InvalidEscape 1 1
found_halt (in_name it) = found_name_halt it
found_halt no_angle = halt.NoGroupName
found_halt (no_such_group n) = halt.NoSuchGroup n
found_halt (in_modifiers it n) = halt.Modifiers (found_fault it) n

-- the answer on what is read at the front
abbrev pub found_front : FrontRead → Found
found_front (token_read t n) = found_token t n
found_front property_begins = found.Property
found_front class_begins = found.Class
found_front (halted it) = found.Halt (found_halt it)

-- Where the first unit is a backslash, the units begin with this leaf of n units, in each environment with `u` or `v`, or in each with neither.
pub record IsCommonLeaf (unicode_mode : Bool) (us : List CodePoint) (it : Leaf) (n : ℕ) : Type 0 where
  pub read : (e : Environment) → is_unicode e.mode ≡ unicode_mode → found_front (backslash_read e (drop 1 (values us))) ≡ found.Leaf it n
  pub long : 2 ≤ n

-- no token is read here, for this reason
abbrev pub IsHalt : Environment → List CodePoint → Halt → Type 0
IsHalt e us it = (reason : FrontHalt) × (front_read e us ≡ halted reason) × (it ≡ found_halt reason)

-- This stands at the front.
abbrev pub IsFound : Environment → List CodePoint → Found → Type 0
IsFound e us (found.Leaf l n) = Stands e us (leaf_token l) n
IsFound e us (found.NamedReference n) = (name : List ℕ) × (front e us ≡ Some (named name, n)) × HoldsName (is_unicode e.mode) us name n
IsFound e us found.Property = (letter : ℕ) × (following : List ℕ) × (values us ≡ ascii.backslash ∷ letter ∷ following) × ((begins_property letter && is_unicode e.mode) ≡ true)
IsFound e us found.Class = starts ascii.left_bracket (values us) ≡ true
IsFound e us (found.Open it n) = (o : Opener) × Stands e us (opener o) n × IsOpenerFound e us n o it
IsFound e us found.Close = Stands e us closer 1
IsFound e us found.Bar = Stands e us bar 1
IsFound e us (found.Quantifier min max greedy n) = Stands e us (quantifier min max greedy) n
IsFound e us (found.Halt it) = IsHalt e us it × (halt_end it ≤ length us)
