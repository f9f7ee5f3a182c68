-- Terms, alternatives and disjunctions of the same content.
use Rattle.std.proofs.Common.{◌≡◌, refl, ap, sym, ◌∙◌, Bool, true, false, List, [], ◌∷◌, map, ℕ, Option, IsTrue, ◌↔◌}
use Rattle.std.specs.List.{AllZip}
use Rattle.std.proofs.lemmas.Bool.{true≢false}
use Rattle.rx_ast.specs.declared.term.Alternative.{Alternative}
use Rattle.rx_ast.specs.declared.term.Disjunction.{Disjunction, out-Disjunction}
use Rattle.rx_ast.specs.declared.term.Quantifier.{Quantifier}
use Rattle.rx_ast.specs.declared.term.Term.{Term}
use Rattle.rx_ast.specs.Tree.{Node, Nodes, Alternatives, Opener, quantified, group, no_node, node, nodes, no_alternative, alternative, alternatives, mirror_term, mirror_alternative, mirror_disjunction, mirror_quantifier}
use Rattle.rx_ast.specs.Forget.{nowhere, forget_node, forget_nodes, forget_alternatives, same_kind}
use Rattle.rx_ast.proofs.Equations.{alternative_is, disjunction_is, quantifier_is}

-- what counts of each
abbrev pub node_of : Term → Node
node_of t = forget_node same_kind (mirror_term t)

abbrev pub nodes_of : Alternative → Nodes
nodes_of a = forget_nodes same_kind (mirror_alternative a).1

abbrev pub alternatives_of : Disjunction → Alternatives
alternatives_of d = forget_alternatives same_kind (mirror_disjunction d).1

abbrev pub SameTerms : List Term → List Term → Type 0
SameTerms xs ys = AllZip (λ x y. node_of x ≡ node_of y) xs ys

abbrev pub SameAlternatives : List Alternative → List Alternative → Type 0
SameAlternatives xs ys = AllZip (λ x y. nodes_of x ≡ nodes_of y) xs ys

abbrev all_nodes : List Term → Nodes
all_nodes xs = forget_nodes same_kind (nodes (map mirror_term xs))

nodes_from_each : (xs ys : List Term) → SameTerms xs ys → all_nodes xs ≡ all_nodes ys
nodes_from_each [] [] h = refl
nodes_from_each [] (y ∷ ys) h = absurd h
nodes_from_each (x ∷ xs) [] h = absurd h
nodes_from_each (x ∷ xs) (y ∷ ys) h = ap (λ n. node n (all_nodes xs)) h.0 ∙ ap (λ ns. node (node_of y) ns) (nodes_from_each xs ys h.1)

abbrev first_node_or : Node → Nodes → Node
first_node_or default no_node = default
first_node_or default (node n ns) = n

abbrev after_first_node : Nodes → Nodes
after_first_node no_node = no_node
after_first_node (node n ns) = ns

abbrev has_node : Nodes → Bool
has_node no_node = false
has_node (node n ns) = true

nodes_to_each : (xs ys : List Term) → all_nodes xs ≡ all_nodes ys → SameTerms xs ys
nodes_to_each [] [] e = tt
nodes_to_each [] (y ∷ ys) e = absurd (true≢false (sym (ap has_node e)))
nodes_to_each (x ∷ xs) [] e = absurd (true≢false (ap has_node e))
nodes_to_each (x ∷ xs) (y ∷ ys) e = (ap (first_node_or (node_of x)) e, nodes_to_each xs ys (ap after_first_node e))

nodes_of_is : (a : Alternative) → nodes_of a ≡ all_nodes a.body
nodes_of_is a = ap (λ m. forget_nodes same_kind m.1) (alternative_is a)

pub alternative_from_terms : (a b : Alternative) → SameTerms a.body b.body → nodes_of a ≡ nodes_of b
alternative_from_terms a b same = nodes_of_is a ∙ nodes_from_each a.body b.body same ∙ sym (nodes_of_is b)

pub same_terms : (a b : Alternative) → nodes_of a ≡ nodes_of b → SameTerms a.body b.body
same_terms a b same = nodes_to_each a.body b.body (sym (nodes_of_is a) ∙ same ∙ nodes_of_is b)

abbrev all_alternatives : List Alternative → Alternatives
all_alternatives xs = forget_alternatives same_kind (alternatives (map mirror_alternative xs))

alternatives_from_each : (xs ys : List Alternative) → SameAlternatives xs ys → all_alternatives xs ≡ all_alternatives ys
alternatives_from_each [] [] h = refl
alternatives_from_each [] (y ∷ ys) h = absurd h
alternatives_from_each (x ∷ xs) [] h = absurd h
alternatives_from_each (x ∷ xs) (y ∷ ys) h = ap (λ ns. alternative nowhere ns (all_alternatives xs)) h.0 ∙ ap (λ more. alternative nowhere (nodes_of y) more) (alternatives_from_each xs ys h.1)

abbrev first_alternative_or : Nodes → Alternatives → Nodes
first_alternative_or default no_alternative = default
first_alternative_or default (alternative s ns more) = ns

abbrev after_first_alternative : Alternatives → Alternatives
after_first_alternative no_alternative = no_alternative
after_first_alternative (alternative s ns more) = more

abbrev has_alternative : Alternatives → Bool
has_alternative no_alternative = false
has_alternative (alternative s ns more) = true

alternatives_to_each : (xs ys : List Alternative) → all_alternatives xs ≡ all_alternatives ys → SameAlternatives xs ys
alternatives_to_each [] [] e = tt
alternatives_to_each [] (y ∷ ys) e = absurd (true≢false (sym (ap has_alternative e)))
alternatives_to_each (x ∷ xs) [] e = absurd (true≢false (ap has_alternative e))
alternatives_to_each (x ∷ xs) (y ∷ ys) e = (ap (first_alternative_or (nodes_of x)) e, alternatives_to_each xs ys (ap after_first_alternative e))

alternatives_of_is : (d : Disjunction) → alternatives_of d ≡ all_alternatives (out-Disjunction d).body
alternatives_of_is d = ap (λ m. forget_alternatives same_kind m.1) (disjunction_is d)

pub disjunction_from_alternatives : (d e : Disjunction) → SameAlternatives (out-Disjunction d).body (out-Disjunction e).body → alternatives_of d ≡ alternatives_of e
disjunction_from_alternatives d e same = alternatives_of_is d ∙ alternatives_from_each (out-Disjunction d).body (out-Disjunction e).body same ∙ sym (alternatives_of_is e)

pub same_alternatives : (d e : Disjunction) → alternatives_of d ≡ alternatives_of e → SameAlternatives (out-Disjunction d).body (out-Disjunction e).body
same_alternatives d e same = alternatives_to_each (out-Disjunction d).body (out-Disjunction e).body (sym (alternatives_of_is d) ∙ same ∙ alternatives_of_is e)

abbrev opener_or : Opener → Node → Opener
opener_or default (group s o d more) = o
opener_or default n = default

abbrev inside_or : Alternatives → Node → Alternatives
inside_or default (group s o d more) = more
inside_or default n = default

-- groups and look-arounds
module _ (m n : Node) (o p : Opener) (ds es : Alternatives) (m_is : m ≡ group nowhere o nowhere ds) (n_is : n ≡ group nowhere p nowhere es) where
  pub same_opener : m ≡ n → o ≡ p
  same_opener e = ap (opener_or o) (sym m_is ∙ e ∙ n_is)

  pub by_inside : {b : Bool} → o ≡ p → (IsTrue b ↔ (ds ≡ es)) → IsTrue b ↔ (m ≡ n)
  by_inside opener same = (
    λ t. m_is ∙ ap (λ k. group nowhere k nowhere ds) opener ∙ ap (λ k. group nowhere p nowhere k) (same.0 t) ∙ sym n_is,
    λ e. same.1 (ap (inside_or ds) (sym m_is ∙ e ∙ n_is)),
  )

abbrev quantified_or : {A : Type 0} → A → (ℕ → Option ℕ → Bool → Node → A) → Node → A
quantified_or default part (quantified s min max greedy n) = part min max greedy n
quantified_or default part n = default

abbrev quantifier_of : Quantifier → Node
quantifier_of q = forget_node same_kind (mirror_quantifier q)

quantifier_of_is : (q : Quantifier) → quantifier_of q ≡ quantified nowhere q.min q.max q.greedy (node_of q.body)
quantifier_of_is q = ap (forget_node same_kind) (quantifier_is q)

abbrev pub SameHead : Quantifier → Quantifier → Type 0
SameHead q r = (q.min ≡ r.min) × (q.max ≡ r.max) × (q.greedy ≡ r.greedy)

pub same_head : (q r : Quantifier) → quantifier_of q ≡ quantifier_of r → SameHead q r
same_head q r e =
    let opened : quantified nowhere q.min q.max q.greedy (node_of q.body) ≡ quantified nowhere r.min r.max r.greedy (node_of r.body) = sym (quantifier_of_is q) ∙ e ∙ quantifier_of_is r in (
      ap (quantified_or q.min (λ min max greedy n. min)) opened,
      ap (quantified_or q.max (λ min max greedy n. max)) opened,
      ap (quantified_or q.greedy (λ min max greedy n. greedy)) opened,
    )

pub by_repeated : {b : Bool} (q r : Quantifier) → SameHead q r → (IsTrue b ↔ (node_of q.body ≡ node_of r.body)) → IsTrue b ↔ (quantifier_of q ≡ quantifier_of r)
by_repeated q r head same = (
  λ t.
      quantifier_of_is q
      ∙ ap (λ k. quantified nowhere k q.max q.greedy (node_of q.body)) head.0
      ∙ ap (λ k. quantified nowhere r.min k q.greedy (node_of q.body)) head.1
      ∙ ap (λ k. quantified nowhere r.min r.max k (node_of q.body)) head.2
      ∙ ap (λ k. quantified nowhere r.min r.max r.greedy k) (same.0 t)
      ∙ sym (quantifier_of_is r),
  λ e. same.1 (ap (quantified_or (node_of q.body) (λ min max greedy n. n)) (sym (quantifier_of_is q) ∙ e ∙ quantifier_of_is r)),
)
