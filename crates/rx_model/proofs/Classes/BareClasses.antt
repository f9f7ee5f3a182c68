-- Tokens of classes but for the kinds of characters; the class that is built from them is the same but for these kinds.
use Rattle.std.proofs.Common.{◌≡◌, refl, sym, ap, ◌∙◌, ◌==◌, Bool, true, false, cond, not, Option, Some, None, option_map, List, [], ◌∷◌, ◌++◌, map}
use Rattle.std.proofs.lemmas.List.{length-map, map-append}
use Rattle.rx_ast.specs.declared.leaf.Character.{Character}
use Rattle.rx_ast.specs.declared.leaf.CharacterKind.TheVariants.{Symbol}
use Rattle.rx_ast.specs.declared.class.ClassString.{ClassString}
use Rattle.rx_ast.specs.ClassTree.{Member, Members, no_member, member, class}
use Rattle.rx_ast.specs.ClassTree as tree
use Rattle.rx_ast.specs.Forget.{nowhere, forget_character, forget_string, forget_member, forget_members, forget_class, no_kind}
use Rattle.rx_model.specs.Classes.ClassFromTokens.{character_of, atom_member, range_member, string_of, strings_member, with_last, kind_of, Level, level_of, class_of_level, Begun, nothing_begun, after_low, after_dash, inside_strings, Building, before_class, inside_class, whole_class, no_class, add_member, building_with_operator, close_class, build_in, build_step, build_class, finished_class, class_of_tokens}
use Rattle.rx_model.specs.Classes.ClassRuns.{Held, is_whole, with_operator, operand, with_range}
use Rattle.rx_model.specs.Classes.ClassTokens.{Atom, character, escape, property, ClassToken, bracket, closer, item, low, dash, high, operator, strings, letter, string_bar, strings_end}
use Rattle.rx_model.proofs.Classes.ClassWithoutSpans.{may_forget, some_strings}

abbrev pub bare_atom : Atom → Atom
bare_atom (character k v) = character Symbol v
bare_atom (escape k) = escape k
bare_atom (property negative may name value) = property negative may name value

abbrev pub bare_class_token : ClassToken → ClassToken
bare_class_token (bracket negative) = bracket negative
bare_class_token closer = closer
bare_class_token (item a) = item (bare_atom a)
bare_class_token (low k v) = low Symbol v
bare_class_token dash = dash
bare_class_token (high k v) = high Symbol v
bare_class_token (operator o) = (operator o)
bare_class_token strings = strings
bare_class_token (letter k v) = letter Symbol v
bare_class_token string_bar = string_bar
bare_class_token strings_end = strings_end

-- what is built, without the kinds of characters

abbrev bare_level : Level → Level
bare_level l = level_of l.negative l.held (forget_members no_kind l.members)

abbrev bare_levels : List Level → List Level
bare_levels outer = map bare_level outer

abbrev bare_letters : List Character → List Character
bare_letters cs = map (forget_character no_kind) cs

abbrev bare_strings : List ClassString → List ClassString
bare_strings ss = map (forget_string no_kind) ss

abbrev bare_begun : Begun → Begun
bare_begun nothing_begun = nothing_begun
bare_begun (after_low k v) = after_low Symbol v
bare_begun (after_dash k v) = after_dash Symbol v
bare_begun (inside_strings ss cs) = inside_strings (bare_strings ss) (bare_letters cs)

abbrev bare_building : Building → Building
bare_building before_class = before_class
bare_building (inside_class l outer begun) = inside_class (bare_level l) (bare_levels outer) (bare_begun begun)
bare_building (whole_class c) = whole_class (forget_class no_kind c)
bare_building no_class = no_class

-- Each step builds the same from the bare tokens.

last_bare : (ms : Members) (m : Member) → forget_members no_kind (with_last ms m) ≡ with_last (forget_members no_kind ms) (forget_member no_kind m)
last_bare no_member m = refl
last_bare (member n ms) m = ap (member (forget_member no_kind n)) (last_bare ms m)

holding_bare : (l : Level) (outer : List Level) (m : Member) (held : Option Held) →
    bare_building (add_member l outer m held) ≡ add_member (bare_level l) (bare_levels outer) (forget_member no_kind m) held
holding_bare l outer m None = refl
holding_bare l outer m (Some held) = ap (λ ms. inside_class (level_of l.negative held ms) (bare_levels outer) nothing_begun) (last_bare l.members m)

operated_bare : (l : Level) (outer : List Level) (held : Option Held) → bare_building (building_with_operator l outer held) ≡ building_with_operator (bare_level l) (bare_levels outer) held
operated_bare l outer None = refl
operated_bare l outer (Some held) = refl

level_bare : (l : Level) → forget_class no_kind (class_of_level l) ≡ class_of_level (bare_level l)
level_bare l =
    ap (λ may. class nowhere l.negative may (kind_of l.held) (forget_members no_kind l.members)) (sym (may_forget no_kind (kind_of l.held) l.members))

closed_bare : (whole : Bool) (l : Level) (outer : List Level) →
    bare_building (cond whole (close_class l outer) no_class) ≡ cond whole (close_class (bare_level l) (bare_levels outer)) no_class
closed_bare true l [] = ap whole_class (level_bare l)
closed_bare true l (around ∷ outer) =
    holding_bare around outer (tree.nested (class_of_level l)) (operand around.held)
    ∙ ap (λ c. add_member (bare_level around) (bare_levels outer) (tree.nested c) (operand around.held)) (level_bare l)
closed_bare false l outer = refl

atom_bare : (a : Atom) → forget_member no_kind (atom_member a) ≡ atom_member (bare_atom a)
atom_bare (character k v) = refl
atom_bare (escape k) = refl
atom_bare (property negative may name value) = refl

string_bare : (cs : List Character) → forget_string no_kind (string_of cs) ≡ string_of (bare_letters cs)
string_bare cs = ap (λ n. record { span = nowhere; strings = not (n == 1); body = bare_letters cs }) (sym (length-map cs (forget_character no_kind)))

-- with one string more
strings_bare : (ss : List ClassString) (cs : List Character) → bare_strings (ss ++ (string_of cs ∷ [])) ≡ bare_strings ss ++ (string_of (bare_letters cs) ∷ [])
strings_bare ss cs = map-append (forget_string no_kind) ss (string_of cs ∷ []) ∙ ap (λ s. bare_strings ss ++ (s ∷ [])) (string_bare cs)

strings_member_bare : (ss : List ClassString) → forget_member no_kind (strings_member ss) ≡ strings_member (bare_strings ss)
strings_member_bare ss = ap (λ may. tree.strings (record { span = nowhere; strings = may; body = bare_strings ss })) (sym (some_strings no_kind ss))

in_bare : (t : ClassToken) (begun : Begun) (l : Level) (outer : List Level) →
    bare_building (build_in t begun l outer) ≡ build_in (bare_class_token t) (bare_begun begun) (bare_level l) (bare_levels outer)
in_bare (bracket negative) nothing_begun l outer = refl
in_bare closer nothing_begun l outer = closed_bare (is_whole l.held) l outer
in_bare (item a) nothing_begun l outer =
    holding_bare l outer (atom_member a) (operand l.held) ∙ ap (λ m. add_member (bare_level l) (bare_levels outer) m (operand l.held)) (atom_bare a)
in_bare (low k v) nothing_begun l outer = refl
in_bare dash (after_low k v) l outer = refl
in_bare (high j x) (after_dash k v) l outer = holding_bare l outer (range_member k v j x) (with_range l.held)
in_bare (operator o) nothing_begun l outer = operated_bare l outer (with_operator o l.held)
in_bare strings nothing_begun l outer = refl
in_bare (letter k v) (inside_strings ss cs) l outer =
    ap (λ cs. inside_class (bare_level l) (bare_levels outer) (inside_strings (bare_strings ss) cs)) (map-append (forget_character no_kind) cs (character_of k v ∷ []))
in_bare string_bar (inside_strings ss cs) l outer = ap (λ ss. inside_class (bare_level l) (bare_levels outer) (inside_strings ss [])) (strings_bare ss cs)
in_bare strings_end (inside_strings ss cs) l outer =
    holding_bare l outer (strings_member (ss ++ (string_of cs ∷ []))) (operand l.held)
    ∙ ap (λ m. add_member (bare_level l) (bare_levels outer) m (operand l.held)) (strings_member_bare (ss ++ (string_of cs ∷ [])) ∙ ap strings_member (strings_bare ss cs))
in_bare t begun l outer = refl

step_bare : (t : ClassToken) (s : Building) → bare_building (build_step t s) ≡ build_step (bare_class_token t) (bare_building s)
step_bare (bracket negative) before_class = refl
step_bare t (inside_class l outer begun) = in_bare t begun l outer
step_bare t s = refl

build_bare : (ts : List ClassToken) (s : Building) → bare_building (build_class ts s) ≡ build_class (map bare_class_token ts) (bare_building s)
build_bare [] s = refl
build_bare (t ∷ ts) s = build_bare ts (build_step t s) ∙ ap (build_class (map bare_class_token ts)) (step_bare t s)

built_bare : (s : Building) → option_map (forget_class no_kind) (finished_class s) ≡ finished_class (bare_building s)
built_bare before_class = refl
built_bare (inside_class l outer begun) = refl
built_bare (whole_class c) = refl
built_bare no_class = refl

pub class_bare : (ts : List ClassToken) → option_map (forget_class no_kind) (class_of_tokens ts) ≡ class_of_tokens (map bare_class_token ts)
class_bare ts = built_bare (build_class ts before_class) ∙ ap finished_class (build_bare ts before_class)
