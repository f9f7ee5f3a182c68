-- The tokens of a class in the order of its text, without spans; and its events, which are its tokens with the beginnings and ends of nodes between them.
use Rattle.std.specs.Prelude.{ℕ, Bool, true, false, List, [], ◌∷◌, ◌++◌, Option}
use Rattle.rx_base.specs.declared.diagnostic.kinds.SetOperator.{SetOperator}
use Rattle.rx_base.specs.declared.diagnostic.kinds.SetOperator.TheVariants as set
use Rattle.rx_base.specs.declared.span.Span.{Span}
use Rattle.rx_ast.specs.declared.leaf.Character.{Character}
use Rattle.rx_ast.specs.declared.leaf.CharacterClassEscapeKind.{CharacterClassEscapeKind}
use Rattle.rx_ast.specs.declared.leaf.CharacterKind.{CharacterKind}
use Rattle.rx_ast.specs.declared.class.CharacterClassContentsKind.{CharacterClassContentsKind}
use Rattle.rx_ast.specs.declared.class.CharacterClassContentsKind.TheVariants.{Union, Intersection, Subtraction}
use Rattle.rx_ast.specs.declared.class.CharacterClassRange.{CharacterClassRange}
use Rattle.rx_ast.specs.declared.class.ClassString.{ClassString}
use Rattle.rx_ast.specs.ClassTree as tree
use Rattle.rx_ast.specs.ClassTree.{Member, Members, Class, no_member, member, class}
use Rattle.rx_ast.specs.Texts.{operator_text as kind_text}

-- ClassAtom (22.2.1): a character, a class escape, or a property escape: whether it is negative and of strings, its name and its value
pub data Atom : Type 0 where
  character : CharacterKind → ℕ → Atom
  escape : CharacterClassEscapeKind → Atom
  property : Bool → Bool → List ℕ → Option (List ℕ) → Atom

abbrev pub is_character : Atom → Bool
is_character (character k v) = true
is_character (escape k) = false
is_character (property negative strings name value) = false

-- A range is three tokens, so that its two characters have events of their own.
-- Why: docs/DECISIONS.md, 29.
pub data ClassToken : Type 0 where
  -- `[`, or `[^` where it is negative
  bracket : Bool → ClassToken
  closer : ClassToken
  item : Atom → ClassToken
  low : CharacterKind → ℕ → ClassToken
  dash : ClassToken
  high : CharacterKind → ℕ → ClassToken
  -- with `v`: an operator; `\q{`, a character of a string, `|`, `}`
  operator : SetOperator → ClassToken
  strings : ClassToken
  letter : CharacterKind → ℕ → ClassToken
  string_bar : ClassToken
  strings_end : ClassToken

-- A node begins or ends at a byte; a token stands here.
pub data ClassEvent : Type 0 where
  enter : ℕ → ClassEvent
  leave : ℕ → ClassEvent
  token : ClassToken → ClassEvent

abbrev pub ClassEvents : Type 0
ClassEvents = List ClassEvent

abbrev pub class_tokens_of : ClassEvents → List ClassToken
class_tokens_of [] = []
class_tokens_of ((enter n) ∷ es) = class_tokens_of es
class_tokens_of ((leave n) ∷ es) = class_tokens_of es
class_tokens_of ((token t) ∷ es) = t ∷ class_tokens_of es

-- a node with this span, and what is in it
abbrev pub within : Span → ClassEvents → ClassEvents
within s es = enter s.start ∷ (es ++ (leave s.end ∷ []))

abbrev pub letters_events : List Character → ClassEvents
letters_events [] = []
letters_events (c ∷ cs) = enter c.span.start ∷ token (letter c.kind c.value) ∷ leave c.span.end ∷ letters_events cs

abbrev pub string_events : ClassString → ClassEvents
string_events s = within s.span (letters_events s.body)

-- each after a bar
abbrev pub barred_strings_events : List ClassString → ClassEvents
barred_strings_events [] = []
barred_strings_events (s ∷ ss) = token string_bar ∷ (string_events s ++ barred_strings_events ss)

abbrev pub strings_events : List ClassString → ClassEvents
strings_events [] = []
strings_events (s ∷ ss) = string_events s ++ barred_strings_events ss

abbrev pub range_events : CharacterClassRange → ClassEvents
range_events r =
    enter r.min.span.start ∷ token (low r.min.kind r.min.value) ∷ leave r.min.span.end ∷ token dash ∷
    enter r.max.span.start ∷ token (high r.max.kind r.max.value) ∷ leave r.max.span.end ∷ []

-- what operands with the operator between them are
-- Why: docs/DECISIONS.md, 99.
abbrev pub contents_kind : SetOperator → CharacterClassContentsKind
contents_kind set.Intersection = Intersection
contents_kind set.Subtraction = Subtraction

abbrev pub operator_text : SetOperator → List ℕ
operator_text o = kind_text (contents_kind o)

-- what stands between the operands
abbrev pub operator_events : CharacterClassContentsKind → ClassEvents
operator_events Union = []
operator_events Intersection = token (operator set.Intersection) ∷ []
operator_events Subtraction = token (operator set.Subtraction) ∷ []

abbrev mutual
  pub member_events : Member → ClassEvents
  member_events (tree.range r) = within r.span (range_events r)
  member_events (tree.escape e) = within e.span (token (item (escape e.kind)) ∷ [])
  member_events (tree.property p) = within p.span (token (item (property p.negative p.strings p.name p.value)) ∷ [])
  member_events (tree.character c) = within c.span (token (item (character c.kind c.value)) ∷ [])
  member_events (tree.nested c) = class_events c
  member_events (tree.strings d) = within d.span (token strings ∷ (strings_events d.body ++ (token strings_end ∷ [])))

  pub class_events : Class → ClassEvents
  class_events (class s negative may kind ms) = within s (token (bracket negative) ∷ (members_events (operator_events kind) ms ++ (token closer ∷ [])))

  pub members_events : ClassEvents → Members → ClassEvents
  members_events between no_member = []
  members_events between (member m ms) = member_events m ++ more_members_events between ms

  -- each after the operator
  pub more_members_events : ClassEvents → Members → ClassEvents
  more_members_events between no_member = []
  more_members_events between (member m ms) = between ++ (member_events m ++ more_members_events between ms)

abbrev pub class_tokens : Class → List ClassToken
class_tokens c = class_tokens_of (class_events c)
