-- A piece of work that is cut into smaller ones.
use Rattle.std.proofs.Common.{◌≡◌, refl, ap, sym, ◌∙◌, ℕ, ◌+◌, Bool, true, false, Option, List, [], ◌∷◌, ◌++◌, map, arith}
use Rattle.rx_base.specs.declared.span.Span.{Span}
use Rattle.rx_ast.specs.declared.leaf.Modifiers.{Modifiers}
use Rattle.rx_ast.specs.declared.leaf.LookAroundAssertionKind.{LookAroundAssertionKind}
use Rattle.rx_ast.specs.declared.term.Alternative.{Alternative}
use Rattle.rx_ast.specs.declared.term.Term.{Term}
use Rattle.rx_ast.specs.Tree as tree
use Rattle.rx_ast.specs.Tree.{Node, Nodes, Alternatives, quantified, group, no_node, node, nodes, no_alternative, alternative, alternatives, mirror_term, mirror_alternative}
use Rattle.rx_trace.specs.Groups.{Names, groups_in, groups_in_all, groups_in_each}
use Rattle.rx_trace.specs.declared.settings.Settings.{Settings}
use Rattle.rx_trace.specs.Matching.{update_settings, looks_back}
use Rattle.rx_program.specs.Codes.{Code, accept, choose, sequence}
use Rattle.rx_program.specs.Compiled.{chosen, node_code, nodes_code, each_code}
use Rattle.rx_program.specs.Works.{Work, disjunction, earlier, terms, term, capturing, looking, repeating, entering, choosing, swapping, sequencing, earlier_code, groups_left, all_worked, nodes_weight, node_weight, each_weight}

-- terms, and alternatives, with one more after them
abbrev pub with_last : Nodes → Node → Nodes
with_last no_node n = node n no_node
with_last (node m ns) n = node m (with_last ns n)

abbrev pub with_last_alternative : Alternatives → Span → Nodes → Alternatives
with_last_alternative no_alternative d ns = alternative d ns no_alternative
with_last_alternative (alternative d' ns' more) d ns = alternative d' ns' (with_last_alternative more d ns)

pub nodes_last : (ts : List Term) (t : Term) → nodes (map mirror_term (ts ++ (t ∷ []))) ≡ with_last (nodes (map mirror_term ts)) (mirror_term t)
nodes_last [] t = refl
nodes_last (s ∷ ts) t = ap (node (mirror_term s)) (nodes_last ts t)

pub alternatives_last : (more : List Alternative) (a : Alternative)
    → alternatives (map mirror_alternative (more ++ (a ∷ []))) ≡ with_last_alternative (alternatives (map mirror_alternative more)) (mirror_alternative a).0 (mirror_alternative a).1
alternatives_last [] a = refl
alternatives_last (b ∷ more) a = ap (alternative (mirror_alternative b).0 (mirror_alternative b).1) (alternatives_last more a)

pub groups_last : (ns : Nodes) (n : Node) → groups_in_all (with_last ns n) ≡ groups_in_all ns + groups_in n
groups_last no_node n = omega arith
groups_last (node m ns) n = let e = groups_last ns n in omega arith

pub groups_last_alternative : (more : Alternatives) (d : Span) (ns : Nodes) → groups_in_each (with_last_alternative more d ns) ≡ groups_in_each more + groups_in_all ns
groups_last_alternative no_alternative d ns = omega arith
groups_last_alternative (alternative d' ns' more) d ns = let e = groups_last_alternative more d ns in omega arith

pub weight_last : (ns : Nodes) (n : Node) → nodes_weight (with_last ns n) ≡ 3 + node_weight n + nodes_weight ns
weight_last no_node n = omega arith
weight_last (node m ns) n = let e = weight_last ns n in omega arith

pub weight_last_alternative : (more : Alternatives) (d : Span) (ns : Nodes) → each_weight (with_last_alternative more d ns) ≡ 3 + nodes_weight ns + each_weight more
weight_last_alternative no_alternative d ns = omega arith
weight_last_alternative (alternative d' ns' more) d ns = let e = weight_last_alternative more d ns in omega arith

module _ (names : Names) where
  nodes-last : (ns : Nodes) (n : Node) (e : Settings) (b : ℕ) (next : Code) → nodes_code names (with_last ns n) e false b next ≡ nodes_code names ns e false b (node_code names n e false (groups_in_all ns + b) next)
  nodes-last no_node n e b next = let z : 0 + b ≡ b = omega arith in ap (λ k. node_code names n e false k next) (sym z)
  nodes-last (node m ns) n e b next =
      let k : groups_in_all ns + (b + groups_in m) ≡ groups_in m + groups_in_all ns + b = omega arith in
      ap (λ c. node_code names m e false b c) (nodes-last ns n e (b + groups_in m) next ∙ ap (λ k. nodes_code names ns e false (b + groups_in m) (node_code names n e false k next)) k)

  chosen-last : (more : Alternatives) (d : Span) (ns : Nodes) (one other : Code) → chosen one (with_last_alternative more d ns) other ≡ choose one other
  chosen-last no_alternative d ns one other = refl
  chosen-last (alternative d' ns' more) d ns one other = refl

  each-last : (more : Alternatives) (d : Span) (ns : Nodes) (e : Settings) (back : Bool) (b : ℕ) (next : Code)
      → each_code names (with_last_alternative more d ns) e back b next ≡ earlier_code names more e back b next (nodes_code names ns e back (groups_in_each more + b) next)
  each-last no_alternative d ns e back b next = let z : 0 + b ≡ b = omega arith in ap (λ k. nodes_code names ns e back k next) (sym z)
  each-last (alternative d' ns' more) d ns e back b next =
      let k : groups_in_each more + (b + groups_in_all ns') ≡ groups_in_all ns' + groups_in_each more + b = omega arith in
      chosen-last more d ns (nodes_code names ns' e back b next) (each_code names (with_last_alternative more d ns) e back (b + groups_in_all ns') next)
      ∙ ap (λ c. choose (nodes_code names ns' e back b next) c) (each-last more d ns e back (b + groups_in_all ns') next ∙ ap (λ k. earlier_code names more e back (b + groups_in_all ns') next (nodes_code names ns e back k next)) k)

  earlier-last : (more : Alternatives) (d : Span) (ns : Nodes) (e : Settings) (back : Bool) (b : ℕ) (next entry : Code)
      → earlier_code names (with_last_alternative more d ns) e back b next entry ≡ earlier_code names more e back b next (choose (nodes_code names ns e back (groups_in_each more + b) next) entry)
  earlier-last no_alternative d ns e back b next entry = let z : 0 + b ≡ b = omega arith in ap (λ k. choose (nodes_code names ns e back k next) entry) (sym z)
  earlier-last (alternative d' ns' more) d ns e back b next entry =
      let k : groups_in_each more + (b + groups_in_all ns') ≡ groups_in_all ns' + groups_in_each more + b = omega arith in
      ap (λ c. choose (nodes_code names ns' e back b next) c)
      (earlier-last more d ns e back (b + groups_in_all ns') next entry ∙ ap (λ k. earlier_code names more e back (b + groups_in_all ns') next (choose (nodes_code names ns e back k next) entry)) k)

  module _ (ws : List Work) (e : Settings) (back : Bool) where
    pub split_capturing : (d c : Span) (name : Option (List ℕ)) (more : Alternatives) (cs : List Code)
        → all_worked names (term e back (group d (tree.capturing name) c more) ∷ ws) cs ≡ all_worked names (disjunction e back more ∷ capturing ∷ ws) (accept ∷ cs)
    split_capturing d c name more [] = refl
    split_capturing d c name more (next ∷ cs) = refl

    pub split_looking : (d c : Span) (kind : LookAroundAssertionKind) (more : Alternatives) (cs : List Code)
        → all_worked names (term e back (group d (tree.looking kind) c more) ∷ ws) cs ≡ all_worked names (disjunction e (looks_back kind) more ∷ looking kind ∷ ws) (accept ∷ cs)
    split_looking d c kind more [] = refl
    split_looking d c kind more (next ∷ cs) = refl

    pub split_ignoring : (d c : Span) (m : Option Modifiers) (more : Alternatives) (cs : List Code)
        → all_worked names (term e back (group d (tree.ignoring m) c more) ∷ ws) cs ≡ all_worked names (disjunction (update_settings m e) back more ∷ entering ∷ ws) cs
    split_ignoring d c m more [] = refl
    split_ignoring d c m more (next ∷ cs) = refl

    pub split_quantified : (d : Span) (min : ℕ) (max : Option ℕ) (greedy : Bool) (n : Node) (cs : List Code)
        → all_worked names (term e back (quantified d min max greedy n) ∷ ws) cs ≡ all_worked names (term e back n ∷ repeating min max greedy (groups_in n) ∷ ws) (accept ∷ cs)
    split_quantified d min max greedy n [] = refl
    split_quantified d min max greedy n (next ∷ cs) = refl

    pub split_terms_ahead : (ns : Nodes) (n : Node) (cs : List Code) → all_worked names (terms e false (with_last ns n) ∷ ws) cs ≡ all_worked names (term e false n ∷ terms e false ns ∷ ws) cs
    split_terms_ahead ns n [] = refl
    split_terms_ahead ns n (next ∷ cs) = ap (λ c. all_worked names ws (c ∷ cs)) (nodes-last ns n e (groups_left ws) next)

    pub split_terms_after : (n : Node) (ns : Nodes) (cs : List Code) → all_worked names (terms e true (node n ns) ∷ ws) cs ≡ all_worked names (terms e true ns ∷ swapping ∷ term e true n ∷ sequencing ∷ ws) (accept ∷ cs)
    split_terms_after n ns [] = refl
    split_terms_after n ns (next ∷ cs) =
        let k : groups_left ws + groups_in n ≡ groups_in n + groups_left ws = omega arith in
        ap (λ k. all_worked names ws (sequence (nodes_code names ns e true k accept) (node_code names n e true (groups_left ws) next) ∷ cs)) k

    pub split_no_terms : (cs : List Code) → all_worked names (terms e back no_node ∷ ws) cs ≡ all_worked names ws cs
    split_no_terms [] = refl
    split_no_terms (next ∷ cs) = refl

    pub split_disjunction : (more : Alternatives) (d : Span) (ns : Nodes) (next : Code) (cs : List Code)
        → all_worked names (disjunction e back (with_last_alternative more d ns) ∷ ws) (next ∷ cs) ≡ all_worked names (terms e back ns ∷ earlier e back more ∷ ws) (next ∷ next ∷ cs)
    split_disjunction more d ns next cs = ap (λ c. all_worked names ws (c ∷ cs)) (each-last more d ns e back (groups_left ws) next)

    pub split_earlier : (more : Alternatives) (d : Span) (ns : Nodes) (entry next : Code) (cs : List Code)
        → all_worked names (earlier e back (with_last_alternative more d ns) ∷ ws) (entry ∷ next ∷ cs) ≡ all_worked names (terms e back ns ∷ choosing ∷ earlier e back more ∷ ws) (next ∷ entry ∷ next ∷ cs)
    split_earlier more d ns entry next cs = ap (λ c. all_worked names ws (c ∷ cs)) (earlier-last more d ns e back (groups_left ws) next entry)

    pub split_no_earlier : (entry next : Code) (cs : List Code) → all_worked names (earlier e back no_alternative ∷ ws) (entry ∷ next ∷ cs) ≡ all_worked names ws (entry ∷ cs)
    split_no_earlier entry next cs = refl
