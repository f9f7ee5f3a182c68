-- Tokens but for the kinds of characters; the tree that is built from them is the bare tree.
use Rattle.std.proofs.Common.{◌≡◌, refl, ap, sym, ◌∙◌, ℕ, ◌%◌, Bool, Option, Some, None, List, [], ◌∷◌, map}
use Rattle.rx_ast.specs.declared.leaf.CharacterKind.TheVariants.{Symbol}
use Rattle.rx_ast.specs.declared.term.Pattern.{Pattern}
use Rattle.rx_ast.specs.Forget.{nowhere, forget_class, forget_opener, forget_nodes, forget_alternatives, no_kind, bare}
use Rattle.rx_ast.specs.Tree.{Nodes, Alternatives, group, no_node, node, no_alternative, alternative}
use Rattle.rx_ast.proofs.Forget.{bare_of_unspanned}
use Rattle.rx_model.specs.declared.mode.Mode.{Mode}
use Rattle.rx_model.specs.Trees.Events.{tokens}
use Rattle.rx_model.specs.Trees.Shapes.{IsWellMade}
use Rattle.rx_model.specs.Trees.Token.{Token, Opener, boundary, character, dot, class_escape, property, class, indexed, named, opener, closer, bar, quantifier, capturing, ignoring, looking}
use Rattle.rx_model.proofs.Trees.TreeFromTokens.{onto, alternatives_onto, Waiting, State, at, ended, opener_tree, close, quantify, step, build, built, pattern_built}

-- of modifiers the three bits that count
abbrev pub bare_opener : Opener → Opener
bare_opener (capturing name) = capturing name
bare_opener (ignoring None) = ignoring None
bare_opener (ignoring (Some bits)) = ignoring (Some (bits.0 % 8, bits.1 % 8))
bare_opener (looking kind) = looking kind

abbrev pub bare_token : Token → Token
bare_token (boundary kind) = boundary kind
bare_token (character kind value) = character Symbol value
bare_token dot = dot
bare_token (class_escape kind) = class_escape kind
bare_token (property negative may name value) = property negative may name value
bare_token (class c) = class (forget_class no_kind c)
bare_token (indexed n) = indexed n
bare_token (named name) = named name
bare_token (opener o) = opener (bare_opener o)
bare_token closer = closer
bare_token bar = bar
bare_token (quantifier min max greedy) = quantifier min max greedy

abbrev bare_waiting : Waiting → Waiting
bare_waiting w = record { begun = forget_opener no_kind w.begun; alternatives = forget_alternatives no_kind w.alternatives; nodes = forget_nodes no_kind w.nodes }

abbrev bare_state : State → State
bare_state s = at (map bare_waiting s.waiting) (forget_alternatives no_kind s.alternatives) (forget_nodes no_kind s.nodes)

onto_bare : (ns ms : Nodes) → forget_nodes no_kind (onto ns ms) ≡ onto (forget_nodes no_kind ns) (forget_nodes no_kind ms)
onto_bare no_node ms = refl
onto_bare (node n ns) ms = onto_bare ns (node n ms)

alternatives_bare : (more rest : Alternatives) →
    forget_alternatives no_kind (alternatives_onto more rest) ≡ alternatives_onto (forget_alternatives no_kind more) (forget_alternatives no_kind rest)
alternatives_bare no_alternative rest = refl
alternatives_bare (alternative s ns more) rest = alternatives_bare more (alternative s ns rest)

ended_bare : (more : Alternatives) (ns : Nodes) → forget_alternatives no_kind (ended more ns) ≡ ended (forget_alternatives no_kind more) (forget_nodes no_kind ns)
ended_bare more ns =
    alternatives_bare more (alternative nowhere (onto ns no_node) no_alternative)
    ∙ ap (λ ms. alternatives_onto (forget_alternatives no_kind more) (alternative nowhere ms no_alternative)) (onto_bare ns no_node)

opener_bare : (o : Opener) → forget_opener no_kind (opener_tree o) ≡ opener_tree (bare_opener o)
opener_bare (capturing name) = refl
opener_bare (ignoring None) = refl
opener_bare (ignoring (Some bits)) = refl
opener_bare (looking kind) = refl

close_bare : (waiting : List Waiting) (more : Alternatives) (ns : Nodes) →
    bare_state (close waiting more ns) ≡ close (map bare_waiting waiting) (forget_alternatives no_kind more) (forget_nodes no_kind ns)
close_bare [] more ns = refl
close_bare (w ∷ waiting) more ns =
    let o = bare_waiting w in ap (λ all. at (map bare_waiting waiting) o.alternatives (node (group nowhere o.begun nowhere all) o.nodes)) (ended_bare more ns)

quantify_bare : (min : ℕ) (max : Option ℕ) (greedy : Bool) (waiting : List Waiting) (more : Alternatives) (ns : Nodes) →
    bare_state (quantify min max greedy waiting more ns) ≡ quantify min max greedy (map bare_waiting waiting) (forget_alternatives no_kind more) (forget_nodes no_kind ns)
quantify_bare min max greedy waiting more no_node = refl
quantify_bare min max greedy waiting more (node n ns) = refl

step_bare : (t : Token) (s : State) → bare_state (step t s) ≡ step (bare_token t) (bare_state s)
step_bare (boundary kind) s = refl
step_bare (character kind value) s = refl
step_bare dot s = refl
step_bare (class_escape kind) s = refl
step_bare (property negative may name value) s = refl
step_bare (class c) s = refl
step_bare (indexed n) s = refl
step_bare (named name) s = refl
step_bare (opener o) s =
    let outside = bare_state s in
    ap (λ begun. at (record { begun = begun; alternatives = outside.alternatives; nodes = outside.nodes } ∷ outside.waiting) no_alternative no_node) (opener_bare o)
step_bare closer s = close_bare s.waiting s.alternatives s.nodes
step_bare bar s = let outside = bare_state s in ap (λ ns. at outside.waiting (alternative nowhere ns outside.alternatives) no_node) (onto_bare s.nodes no_node)
step_bare (quantifier min max greedy) s = quantify_bare min max greedy s.waiting s.alternatives s.nodes

build_bare : (ts : List Token) (s : State) → bare_state (build ts s) ≡ build (map bare_token ts) (bare_state s)
build_bare [] s = refl
build_bare (t ∷ ts) s = build_bare ts (step t s) ∙ ap (build (map bare_token ts)) (step_bare t s)

built_bare : (ts : List Token) → forget_alternatives no_kind (built ts) ≡ built (map bare_token ts)
built_bare ts =
    let s = build ts (at [] no_alternative no_node) in
    ended_bare s.alternatives s.nodes ∙ ap (λ s. ended s.alternatives s.nodes) (build_bare ts (at [] no_alternative no_node))

pattern_bare : (mode : Mode) (p : Pattern) → IsWellMade mode p → bare p ≡ built (map bare_token (tokens p))
pattern_bare mode p w = bare_of_unspanned p ∙ ap (forget_alternatives no_kind) (sym (pattern_built mode p w)) ∙ built_bare (tokens p)

-- Two trees whose tokens are equal but for the kinds of characters are equal but for these and for spans.
pub one_bare_tree : (mode : Mode) (p q : Pattern) → IsWellMade mode p → IsWellMade mode q → map bare_token (tokens p) ≡ map bare_token (tokens q) → bare p ≡ bare q
one_bare_tree mode p q v w e = pattern_bare mode p v ∙ ap built e ∙ sym (pattern_bare mode q w)
