-- A class without spans from its tokens: the brackets that are open, and what each holds.
use Rattle.std.specs.Prelude.{ℕ, Bool, Option, Some, None, List, [], ◌∷◌, ◌++◌, length, if◌then◌else◌}
use Rattle.rx_ast.specs.declared.leaf.Character.{Character}
use Rattle.rx_ast.specs.declared.leaf.CharacterKind.{CharacterKind}
use Rattle.rx_ast.specs.declared.class.CharacterClassContentsKind.{CharacterClassContentsKind}
use Rattle.rx_ast.specs.declared.class.CharacterClassContentsKind.TheVariants.{Union}
use Rattle.rx_ast.specs.declared.class.ClassString.{ClassString}
use Rattle.rx_ast.specs.ClassTree.{Member, Members, Class, no_member, member, class}
use Rattle.rx_ast.specs.ClassTree as tree
use Rattle.rx_ast.specs.Forget.{nowhere}
use Rattle.rx_model.specs.Classes.ClassRuns.{Held, empty, single, several, pending, joined, is_whole, operand, with_range, with_operator}
use Rattle.rx_model.specs.Classes.ClassTokens.{Atom, character, escape, property, ClassToken, bracket, closer, item, low, dash, high, operator, contents_kind, strings, letter, string_bar, strings_end}
use Rattle.rx_model.specs.Trees.Early.{disjunction_strings, may_contain_strings, string_strings}

abbrev pub character_of : CharacterKind → ℕ → Character
character_of k v = record { span = nowhere; kind = k; value = v }

abbrev pub atom_member : Atom → Member
atom_member (character k v) = tree.character (character_of k v)
atom_member (escape k) = tree.escape (record { span = nowhere; kind = k })
atom_member (property negative may name value) = tree.property (record {
  span = nowhere;
  negative = negative;
  strings = may;
  name = name;
  value = value;
})

abbrev pub range_member : CharacterKind → ℕ → CharacterKind → ℕ → Member
range_member k v j x = tree.range (record { span = nowhere; min = character_of k v; max = character_of j x })

-- a class string of these characters
abbrev pub string_of : List Character → ClassString
string_of cs = record { span = nowhere; strings = string_strings (length cs); body = cs }

abbrev pub strings_member : List ClassString → Member
strings_member ss = tree.strings (record { span = nowhere; strings = disjunction_strings ss; body = ss })

-- one member more
abbrev pub with_last : Members → Member → Members
with_last no_member m = member m no_member
with_last (member n ms) m = member n (with_last ms m)

-- the kind of contents, by what is held
abbrev pub kind_of : Held → CharacterClassContentsKind
kind_of empty = Union
kind_of single = Union
kind_of several = Union
kind_of (pending o) = contents_kind o
kind_of (joined o) = contents_kind o

-- an open bracket: whether it is negative, what it holds, and that as members
pub record Level : Type 0 where
  pub negative : Bool
  pub held : Held
  pub members : Members

abbrev pub level_of : Bool → Held → Members → Level
level_of negative held ms = record { negative = negative; held = held; members = ms }

-- the class that ends here
abbrev pub class_of_level : Level → Class
class_of_level l = class nowhere l.negative (may_contain_strings (kind_of l.held) l.members) (kind_of l.held) l.members

-- What has begun in the innermost bracket and goes on: nothing; a range after its low end, and after its `-`; class strings, of which some are whole, with
-- the characters of the next.
pub data Begun : Type 0 where
  nothing_begun : Begun
  after_low : CharacterKind → ℕ → Begun
  after_dash : CharacterKind → ℕ → Begun
  inside_strings : List ClassString → List Character → Begun

-- before the class; inside it, with the innermost bracket first; the whole class; none
pub data Building : Type 0 where
  before_class : Building
  inside_class : Level → List Level → Begun → Building
  whole_class : Class → Building
  no_class : Building

-- with one member more, if the bracket may hold it
abbrev pub add_member : Level → List Level → Member → Option Held → Building
add_member l outer m None = no_class
add_member l outer m (Some held) = inside_class (level_of l.negative held (with_last l.members m)) outer nothing_begun

-- with an operator
abbrev pub building_with_operator : Level → List Level → Option Held → Building
building_with_operator l outer None = no_class
building_with_operator l outer (Some held) = inside_class (level_of l.negative held l.members) outer nothing_begun

abbrev pub close_class : Level → List Level → Building
close_class l [] = whole_class (class_of_level l)
close_class l (around ∷ outer) = add_member around outer (tree.nested (class_of_level l)) (operand around.held)

-- one token more
abbrev pub build_in : ClassToken → Begun → Level → List Level → Building
build_in (bracket negative) nothing_begun l outer = inside_class (level_of negative empty no_member) (l ∷ outer) nothing_begun
build_in closer nothing_begun l outer = if is_whole l.held then close_class l outer else no_class
build_in (item a) nothing_begun l outer = add_member l outer (atom_member a) (operand l.held)
build_in (low k v) nothing_begun l outer = inside_class l outer (after_low k v)
build_in dash (after_low k v) l outer = inside_class l outer (after_dash k v)
build_in (high j x) (after_dash k v) l outer = add_member l outer (range_member k v j x) (with_range l.held)
build_in (operator o) nothing_begun l outer = building_with_operator l outer (with_operator o l.held)
build_in strings nothing_begun l outer = inside_class l outer (inside_strings [] [])
build_in (letter k v) (inside_strings ss cs) l outer = inside_class l outer (inside_strings ss (cs ++ (character_of k v ∷ [])))
build_in string_bar (inside_strings ss cs) l outer = inside_class l outer (inside_strings (ss ++ (string_of cs ∷ [])) [])
build_in strings_end (inside_strings ss cs) l outer = add_member l outer (strings_member (ss ++ (string_of cs ∷ []))) (operand l.held)
build_in t begun l outer = no_class

abbrev pub build_step : ClassToken → Building → Building
build_step (bracket negative) before_class = inside_class (level_of negative empty no_member) [] nothing_begun
build_step t before_class = no_class
build_step t (inside_class l outer begun) = build_in t begun l outer
build_step t (whole_class c) = no_class
build_step t no_class = no_class

abbrev pub build_class : List ClassToken → Building → Building
build_class [] s = s
build_class (t ∷ ts) s = build_class ts (build_step t s)

abbrev pub finished_class : Building → Option Class
finished_class before_class = None
finished_class (inside_class l outer begun) = None
finished_class (whole_class c) = Some c
finished_class no_class = None

-- the class that has these tokens
abbrev pub class_of_tokens : List ClassToken → Option Class
class_of_tokens ts = finished_class (build_class ts before_class)
