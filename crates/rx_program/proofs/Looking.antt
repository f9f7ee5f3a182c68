-- What is looked at in a node, over plain values.
use Rattle.std.proofs.Common.{◌≡◌, refl, ap, sym, ◌∙◌, ℕ, ◌+◌, Option, Some, None, List, [], ◌∷◌, ◌++◌, map, arith}
use Rattle.std.specs.Prelude.{IsSome, MatchOption}
use Rattle.rx_base.specs.declared.span.Span.{Span}
use Rattle.rx_ast.specs.declared.class.CharacterClassContents.{CharacterClassContents}
use Rattle.rx_ast.specs.declared.leaf.LookAroundAssertionKind.{LookAroundAssertionKind}
use Rattle.rx_ast.specs.declared.leaf.Modifiers.{Modifiers}
use Rattle.rx_ast.specs.declared.term.Alternative.{Alternative}
use Rattle.rx_ast.specs.declared.term.Term.{Term}
use Rattle.rx_ast.specs.ClassTree.{member, members, mirror_contents}
use Rattle.rx_ast.specs.Tree as tree
use Rattle.rx_ast.specs.Tree.{Leaf, Node, Alternatives, leaf, quantified, group, nodes, alternative, alternatives, mirror_term, mirror_alternative}
use Rattle.rx_program.specs.declared.survey.Rest.{Rest}
use Rattle.rx_program.specs.declared.survey.Surveyor.{Surveyor}
use Rattle.rx_trace.specs.Groups.{Names, names_in, names_in_all, names_in_each}
use Rattle.rx_trace.specs.Supported.{or_later, unsupported_modifiers}
use Rattle.rx_program.specs.SurveyState.{unsupported_member, unsupported_members, unsupported_leaf, unsupported_node, unsupported_nodes, unsupported_each, unsupported_rest, names_rest, member_looks, members_looks, leaf_looks, node_looks, nodes_looks, each_looks, looks, with_rest, LookedAt}
use Rattle.rx_program.proofs.SurveyState.{looked_none, looked_one, looked_two, looked_same, looked_named}

-- what a rest has: its first part that is not supported, its names, and how many looks it takes
pub record IsRest (r : Rest) (refused : Option Span) (names : Names) (most : ℕ) : Type 0 where
  pub refuses : unsupported_rest r ≡ refused
  pub named : names_rest r ≡ names
  pub few : looks r ≡ most

pub looked_alternatives : (s after : Surveyor) (all more : List Alternative) (first : Alternative) (body : List Term) (r q : Rest) → all ≡ first ∷ more → (mirror_alternative first).1 ≡ nodes (map mirror_term body)
    → IsRest r (unsupported_each (alternatives (map mirror_alternative more))) (names_in_each (alternatives (map mirror_alternative more))) (1 + each_looks (alternatives (map mirror_alternative more)))
    → IsRest q (unsupported_nodes (nodes (map mirror_term body))) (names_in_all (nodes (map mirror_term body))) (1 + nodes_looks (nodes (map mirror_term body)))
    → after ≡ with_rest (with_rest s r) q
    → LookedAt s (unsupported_each (alternatives (map mirror_alternative all))) (names_in_each (alternatives (map mirror_alternative all))) (1 + each_looks (alternatives (map mirror_alternative all))) after None
looked_alternatives s after all more first body r q is is_body of_r of_q pushed =
    let ms = alternatives (map mirror_alternative more) in
    let ns = nodes (map mirror_term body) in
    let e : alternatives (map mirror_alternative all) ≡ alternative (mirror_alternative first).0 ns ms =
    ap (λ x. alternatives (map mirror_alternative x)) is ∙ ap (λ x. alternative (mirror_alternative first).0 x ms) is_body in
    let rl = of_r.few in
    let ql = of_q.few in
    looked_same s after (unsupported_each (alternatives (map mirror_alternative all))) (or_later (unsupported_nodes ns) (unsupported_each ms)) (names_in_each (alternatives (map mirror_alternative all))) (names_in_all ns ++ names_in_each ms)
    (1 + each_looks (alternatives (map mirror_alternative all))) (1 + (2 + nodes_looks ns + each_looks ms)) None (ap unsupported_each e) (ap names_in_each e) (ap (λ x. 1 + each_looks x) e)
    (looked_two s after (or_later (unsupported_nodes ns) (unsupported_each ms)) (names_in_all ns ++ names_in_each ms) (1 + (2 + nodes_looks ns + each_looks ms)) r q pushed
    (ap (λ u. or_later u (unsupported_each ms)) (sym of_q.refuses) ∙ ap (or_later (unsupported_rest q)) (sym of_r.refuses))
    (ap (λ u. u ++ names_in_each ms) (sym of_q.named) ∙ ap (λ u. names_rest q ++ u) (sym of_r.named)) (omega arith))

-- contents of a class, of which the first may be looked at further
pub looked_contents : (s after : Surveyor) (all more : List CharacterClassContents) (first : CharacterClassContents) (r : Rest) → all ≡ first ∷ more → unsupported_member (mirror_contents first) ≡ None
    → IsRest r (unsupported_members (members (map mirror_contents more))) [] (1 + members_looks (members (map mirror_contents more))) → after ≡ with_rest s r
    → LookedAt s (unsupported_members (members (map mirror_contents all))) [] (1 + members_looks (members (map mirror_contents all))) after None
looked_contents s after all more first r is none of_r pushed =
    let m = mirror_contents first in
    let ms = members (map mirror_contents more) in
    let e : members (map mirror_contents all) ≡ member m ms = ap (λ x. members (map mirror_contents x)) is in
    let rl = of_r.few in
    let f = ap members_looks e in
    looked_one s after (unsupported_members (members (map mirror_contents all))) [] (1 + members_looks (members (map mirror_contents all))) r pushed
    (ap unsupported_members e ∙ ap (λ u. or_later u (unsupported_members ms)) none ∙ sym of_r.refuses) (sym of_r.named) (omega arith)

pub looked_nested : (s after : Surveyor) (all more body : List CharacterClassContents) (first : CharacterClassContents) (r q : Rest) → all ≡ first ∷ more
    → unsupported_member (mirror_contents first) ≡ unsupported_members (members (map mirror_contents body)) → member_looks (mirror_contents first) ≡ 1 + members_looks (members (map mirror_contents body))
    → IsRest r (unsupported_members (members (map mirror_contents more))) [] (1 + members_looks (members (map mirror_contents more)))
    → IsRest q (unsupported_members (members (map mirror_contents body))) [] (1 + members_looks (members (map mirror_contents body))) → after ≡ with_rest (with_rest s r) q
    → LookedAt s (unsupported_members (members (map mirror_contents all))) [] (1 + members_looks (members (map mirror_contents all))) after None
looked_nested s after all more body first r q is refuses few of_r of_q pushed =
    let m = mirror_contents first in
    let ms = members (map mirror_contents more) in
    let e : members (map mirror_contents all) ≡ member m ms = ap (λ x. members (map mirror_contents x)) is in
    let rl = of_r.few in
    let ql = of_q.few in
    let f = ap members_looks e in
    looked_two s after (unsupported_members (members (map mirror_contents all))) [] (1 + members_looks (members (map mirror_contents all))) r q pushed
    (ap unsupported_members e ∙ ap (λ u. or_later u (unsupported_members ms)) (refuses ∙ sym of_q.refuses) ∙ ap (or_later (unsupported_rest q)) (sym of_r.refuses))
    (sym (ap (λ u. u ++ names_rest r) of_q.named ∙ of_r.named)) (omega arith)

pub refused_member : (all more : List CharacterClassContents) (first : CharacterClassContents) (span : Span) → all ≡ first ∷ more → unsupported_member (mirror_contents first) ≡ Some span → unsupported_members (members (map mirror_contents all)) ≡ Some span
refused_member all more first span is refuses = ap (λ x. unsupported_members (members (map mirror_contents x))) is ∙ ap (λ u. or_later u (unsupported_members (members (map mirror_contents more)))) refuses

-- a node with nothing in it that is looked at
pub looked_leaf : (s : Surveyor) (n : Node) (l : Leaf) → n ≡ leaf l → unsupported_leaf l ≡ None → LookedAt s (unsupported_node n) (names_in n) (node_looks n) s None
looked_leaf s n l is none = let e = ap node_looks is in looked_none s (unsupported_node n) (names_in n) (node_looks n) (ap unsupported_node is ∙ none) (ap names_in is) (omega arith)

-- a node that leaves one thing for later
pub looked_in_leaf : (s after : Surveyor) (n : Node) (l : Leaf) (r : Rest) (most : ℕ) → n ≡ leaf l → IsRest r (unsupported_leaf l) [] most → most ≡ leaf_looks l → after ≡ with_rest s r → LookedAt s (unsupported_node n) (names_in n) (node_looks n) after None
looked_in_leaf s after n l r most is of_r few pushed =
    let e = ap node_looks is in
    let rl = of_r.few in
    looked_one s after (unsupported_node n) (names_in n) (node_looks n) r pushed (ap unsupported_node is ∙ sym of_r.refuses) (ap names_in is ∙ sym of_r.named) (omega arith)

pub looked_quantified : (s after : Surveyor) (n m : Node) (d : Span) (min : ℕ) (max : Option ℕ) (greedy : Rattle.std.proofs.Common.Bool) (r : Rest) → n ≡ quantified d min max greedy m → IsRest r (unsupported_node m) (names_in m) (node_looks m) → after ≡ with_rest s r
    → LookedAt s (unsupported_node n) (names_in n) (node_looks n) after None
looked_quantified s after n m d min max greedy r is of_r pushed =
    let e = ap node_looks is in
    let rl = of_r.few in
    looked_one s after (unsupported_node n) (names_in n) (node_looks n) r pushed (ap unsupported_node is ∙ sym of_r.refuses) (ap names_in is ∙ sym of_r.named) (omega arith)

pub looked_looking : (s after : Surveyor) (n : Node) (d c : Span) (kind : LookAroundAssertionKind) (more : Alternatives) (it : Option Span) → n ≡ group d (tree.looking kind) c more
    → LookedAt s (unsupported_each more) (names_in_each more) (2 + each_looks more) after it → LookedAt s (unsupported_node n) (names_in n) (node_looks n) after it
looked_looking s after n d c kind more it is looked =
    looked_same s after (unsupported_node n) (unsupported_each more) (names_in n) (names_in_each more) (node_looks n) (2 + each_looks more) it (ap unsupported_node is) (ap names_in is) (ap node_looks is) looked

pub looked_capturing : (s t after : Surveyor) (n : Node) (d c : Span) (name : Option (List ℕ)) (more : Alternatives) (it : Option Span) → n ≡ group d (tree.capturing name) c more → t ≡ record s { names = s.names ++ (name ∷ []) }
    → LookedAt t (unsupported_each more) (names_in_each more) (2 + each_looks more) after it → LookedAt s (unsupported_node n) (names_in n) (node_looks n) after it
looked_capturing s t after n d c name more it is named looked =
    looked_same s after (unsupported_node n) (unsupported_each more) (names_in n) (name ∷ names_in_each more) (node_looks n) (2 + each_looks more) it (ap unsupported_node is) (ap names_in is) (ap node_looks is)
    (looked_named s t after (unsupported_each more) name (names_in_each more) (2 + each_looks more) it named looked)

pub looked_ignoring : (s after : Surveyor) (n : Node) (d c : Span) (m : Option Modifiers) (more : Alternatives) (it : Option Span) → n ≡ group d (tree.ignoring m) c more → Rattle.rx_program.specs.SurveyState.unsupported_opener (tree.ignoring m) ≡ None
    → LookedAt s (unsupported_each more) (names_in_each more) (2 + each_looks more) after it → LookedAt s (unsupported_node n) (names_in n) (node_looks n) after it
looked_ignoring s after n d c m more it is none looked =
    looked_same s after (unsupported_node n) (unsupported_each more) (names_in n) (names_in_each more) (node_looks n) (2 + each_looks more) it (ap unsupported_node is ∙ ap (λ u. or_later u (unsupported_each more)) none) (ap names_in is) (ap node_looks is) looked

-- modifiers that are refused come before all that is in the group
pub ignored_refused : (s : Surveyor) (n : Node) (d c : Span) (m : Option Modifiers) (more : Alternatives) (it : Option Span) → n ≡ group d (tree.ignoring m) c more
    → MatchOption m (it ≡ None) (λ m. it ≡ unsupported_modifiers m) → IsSome it → LookedAt s (unsupported_node n) (names_in n) (node_looks n) s it
ignored_refused s n d c None more None is m some = absurd (Rattle.std.proofs.lemmas.Bool.false≢true some)
ignored_refused s n d c None more (Some span) is m some = absurd (cc)
ignored_refused s n d c (Some ms) more None is m some = absurd (Rattle.std.proofs.lemmas.Bool.false≢true some)
ignored_refused s n d c (Some ms) more (Some span) is m some = ap unsupported_node is ∙ ap (λ u. or_later u (unsupported_each more)) (sym m)

pub none_refused : (m : Option Modifiers) (it : Option Span) → MatchOption m (it ≡ None) (λ m. it ≡ unsupported_modifiers m) → it ≡ None → Rattle.rx_program.specs.SurveyState.unsupported_opener (tree.ignoring m) ≡ None
none_refused None it m none = refl
none_refused (Some ms) it m none = sym m ∙ none

pub is_none : (it : Option Span) → Rattle.std.specs.Option.is_some it ≡ Rattle.std.proofs.Common.false → it ≡ None
is_none None is = refl
is_none (Some span) is = absurd (cc)

-- the body of a group is left for later
pub looked_body : (s after : Surveyor) (more : Alternatives) (r : Rest) → IsRest r (unsupported_each more) (names_in_each more) (1 + each_looks more) → after ≡ with_rest s r → LookedAt s (unsupported_each more) (names_in_each more) (2 + each_looks more) after None
looked_body s after more r of_r pushed = let rl = of_r.few in looked_one s after (unsupported_each more) (names_in_each more) (2 + each_looks more) r pushed (sym of_r.refuses) (sym of_r.named) (omega arith)
