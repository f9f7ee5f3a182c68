-- What a node of a tree is written as, as JSON. `place` gives the fields that say where a span lies.
use Rattle.std.specs.Prelude.{ℕ, List, [], ◌∷◌, ◌++◌, Option, Some, None, codes}
use Rattle.json.specs.Json as json
use Rattle.json.specs.Json.{Json, boolean, string}
use Rattle.rx_base.specs.declared.span.Span.{Span}
use Rattle.rx_ast.specs.declared.leaf.BoundaryAssertionKind.{BoundaryAssertionKind}
use Rattle.rx_ast.specs.declared.leaf.BoundaryAssertionKind.TheVariants as boundary
use Rattle.rx_ast.specs.declared.leaf.LookAroundAssertionKind.{LookAroundAssertionKind}
use Rattle.rx_ast.specs.declared.leaf.LookAroundAssertionKind.TheVariants as look
use Rattle.rx_ast.specs.declared.leaf.CharacterKind.{CharacterKind}
use Rattle.rx_ast.specs.declared.leaf.CharacterKind.TheVariants as spelled
use Rattle.rx_ast.specs.declared.leaf.CharacterClassEscapeKind.{CharacterClassEscapeKind}
use Rattle.rx_ast.specs.declared.leaf.CharacterClassEscapeKind.TheVariants.{D, NegativeD, S, NegativeS, W, NegativeW}
use Rattle.rx_ast.specs.declared.leaf.Character.{Character}
use Rattle.rx_ast.specs.declared.leaf.Modifiers.{Modifiers}
use Rattle.rx_ast.specs.declared.class.CharacterClassContentsKind.{CharacterClassContentsKind}
use Rattle.rx_ast.specs.declared.class.CharacterClassContentsKind.TheVariants.{Union, Intersection, Subtraction}
use Rattle.rx_ast.specs.ClassTree as in_class
use Rattle.rx_ast.specs.Kinds.{Kind, pattern, disjunction, alternative, term, look_around, quantifier, capturing_group, ignore_group, boundary_assertion, character, dot, class_escape, property_escape, class, class_contents, class_range, string_disjunction, class_string, indexed_reference, named_reference}
use Rattle.rx_ast.specs.Texts.{letters}
use Rattle.rx_json.specs.Values.{Field, text, number, text_or_null, number_or_null, object_of, list_of}

abbrev pub boundary_kind : BoundaryAssertionKind → List ℕ
boundary_kind boundary.Start = codes "start"
boundary_kind boundary.End = codes "end"
boundary_kind boundary.Boundary = codes "boundary"
boundary_kind boundary.NegativeBoundary = codes "negativeBoundary"
boundary_kind boundary.StartBuffer = codes "startBuffer"
boundary_kind boundary.EndBuffer = codes "endBuffer"
boundary_kind boundary.EndBufferOptionalNewline = codes "endBufferOptionalNewline"

abbrev pub look_kind : LookAroundAssertionKind → List ℕ
look_kind look.Lookahead = codes "lookahead"
look_kind look.NegativeLookahead = codes "negativeLookahead"
look_kind look.Lookbehind = codes "lookbehind"
look_kind look.NegativeLookbehind = codes "negativeLookbehind"

abbrev pub character_kind : CharacterKind → List ℕ
character_kind spelled.ControlLetter = codes "controlLetter"
character_kind spelled.HexadecimalEscape = codes "hexadecimalEscape"
character_kind spelled.Identifier = codes "identifier"
character_kind spelled.Null = codes "null"
character_kind spelled.Octal1 = codes "octal1"
character_kind spelled.Octal2 = codes "octal2"
character_kind spelled.Octal3 = codes "octal3"
character_kind spelled.SingleEscape = codes "singleEscape"
character_kind spelled.Symbol = codes "symbol"
character_kind spelled.UnicodeEscape = codes "unicodeEscape"

abbrev pub class_escape_kind : CharacterClassEscapeKind → List ℕ
class_escape_kind D = codes "d"
class_escape_kind NegativeD = codes "negativeD"
class_escape_kind S = codes "s"
class_escape_kind NegativeS = codes "negativeS"
class_escape_kind W = codes "w"
class_escape_kind NegativeW = codes "negativeW"

abbrev pub contents_kind : CharacterClassContentsKind → List ℕ
contents_kind Union = codes "union"
contents_kind Intersection = codes "intersection"
contents_kind Subtraction = codes "subtraction"

-- what each node begins with
abbrev pub beginning : (Span → List Field) → List ℕ → Span → List Field
beginning place name span = (codes "type", string name) ∷ place span

abbrev pub character_fields : (Span → List Field) → Character → List Field
character_fields place c = beginning place (codes "Character") c.span ++ (codes "kind", string (character_kind c.kind)) ∷ (codes "value", number c.value) ∷ []

abbrev pub modifiers_json : (Span → List Field) → Option Modifiers → Json
modifiers_json place None = json.null
modifiers_json place (Some m) = object_of (beginning place (codes "Modifiers") m.span ++ (codes "enabling", text (letters m.enabling.0)) ∷ (codes "disabling", text (letters m.disabling.0)) ∷ [])

-- the fields of a node but for its body; terms and contents of classes are the nodes in them
abbrev pub own_fields : (Span → List Field) → Kind → List Field
own_fields place (pattern p) = beginning place (codes "Pattern") p.0
own_fields place (disjunction d) = beginning place (codes "Disjunction") d.0
own_fields place (alternative a) = beginning place (codes "Alternative") a.0
own_fields place (term n) = []
own_fields place (look_around s kind d) = beginning place (codes "LookAroundAssertion") s ++ (codes "kind", string (look_kind kind)) ∷ []
own_fields place (quantifier s min max greedy n) =
    beginning place (codes "Quantifier") s ++ (codes "min", number min) ∷ (codes "max", number_or_null max) ∷ (codes "greedy", boolean greedy) ∷ []
own_fields place (capturing_group s name d) = beginning place (codes "CapturingGroup") s ++ (codes "name", text_or_null name) ∷ []
own_fields place (ignore_group s modifiers d) = beginning place (codes "IgnoreGroup") s ++ (codes "modifiers", modifiers_json place modifiers) ∷ []
own_fields place (boundary_assertion b) = beginning place (codes "BoundaryAssertion") b.span ++ (codes "kind", string (boundary_kind b.kind)) ∷ []
own_fields place (character c) = character_fields place c
own_fields place (dot d) = beginning place (codes "Dot") d.span
own_fields place (class_escape e) = beginning place (codes "CharacterClassEscape") e.span ++ (codes "kind", string (class_escape_kind e.kind)) ∷ []
own_fields place (property_escape p) =
    beginning place (codes "UnicodePropertyEscape") p.span
    ++ (codes "negative", boolean p.negative) ∷ (codes "strings", boolean p.strings) ∷ (codes "name", text p.name) ∷ (codes "value", text_or_null p.value) ∷ []
own_fields place (class (in_class.class s negative may_have_strings kind ms)) =
    beginning place (codes "CharacterClass") s ++ (codes "negative", boolean negative) ∷ (codes "strings", boolean may_have_strings) ∷ (codes "kind", string (contents_kind kind)) ∷ []
own_fields place (class_contents m) = []
own_fields place (class_range r) =
    beginning place (codes "CharacterClassRange") r.span ++ (codes "min", object_of (character_fields place r.min)) ∷ (codes "max", object_of (character_fields place r.max)) ∷ []
own_fields place (string_disjunction d) = beginning place (codes "ClassStringDisjunction") d.span ++ (codes "strings", boolean d.strings) ∷ []
own_fields place (class_string s) = beginning place (codes "ClassString") s.span ++ (codes "strings", boolean s.strings) ∷ []
own_fields place (indexed_reference r) = beginning place (codes "IndexedReference") r.span ++ (codes "index", number r.index) ∷ []
own_fields place (named_reference r) = beginning place (codes "NamedReference") r.span ++ (codes "name", text r.name) ∷ []

-- What a node has as its body: nothing, a node, or a list. A term and the contents of a class are written as the node in them.
pub data Body : Type 0 where
  no_body : Body
  one_body : Body
  list_body : Body
  itself : Body

abbrev pub body_of : Kind → Body
body_of (pattern p) = one_body
body_of (disjunction d) = list_body
body_of (alternative a) = list_body
body_of (term n) = itself
body_of (look_around s kind d) = one_body
body_of (quantifier s min max greedy n) = one_body
body_of (capturing_group s name d) = one_body
body_of (ignore_group s modifiers d) = one_body
body_of (boundary_assertion b) = no_body
body_of (character c) = no_body
body_of (dot d) = no_body
body_of (class_escape e) = no_body
body_of (property_escape p) = no_body
body_of (class c) = list_body
body_of (class_contents m) = itself
body_of (class_range r) = no_body
body_of (string_disjunction d) = list_body
body_of (class_string s) = list_body
body_of (indexed_reference r) = no_body
body_of (named_reference r) = no_body

-- the first of some values: the one, where there is one
abbrev pub first_of : List Json → Json
first_of [] = json.null
first_of (j ∷ js) = j

-- a node with these values for the nodes in it
abbrev pub with_body : Body → List Field → List Json → Json
with_body no_body fs js = object_of fs
with_body one_body fs js = object_of (fs ++ (codes "body", first_of js) ∷ [])
with_body list_body fs js = object_of (fs ++ (codes "body", list_of js) ∷ [])
with_body itself fs js = first_of js

abbrev pub node_json : (Span → List Field) → Kind → List Json → Json
node_json place k js = with_body (body_of k) (own_fields place k) js
