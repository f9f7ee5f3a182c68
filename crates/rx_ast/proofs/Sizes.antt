-- Sizes, node by node.
use Rattle.std.proofs.Common.{◌≡◌, refl, ap, ℕ, zero, suc, ◌+◌, ◌<◌, ◌≤◌, List, [], ◌∷◌, ◌++◌, length, map, get_or, arith}
use Rattle.std.specs.declared.alloc.Global.{Global}
use Rattle.std.specs.declared.boxed.Box.{Box}
use Rattle.rx_ast.specs.declared.term.Alternative.{Alternative}
use Rattle.rx_ast.specs.declared.term.CapturingGroup.{CapturingGroup, out-CapturingGroup}
use Rattle.rx_ast.specs.declared.term.Disjunction.{Disjunction, out-Disjunction}
use Rattle.rx_ast.specs.declared.term.IgnoreGroup.{IgnoreGroup, out-IgnoreGroup}
use Rattle.rx_ast.specs.declared.term.LookAroundAssertion.{LookAroundAssertion, out-LookAroundAssertion}
use Rattle.rx_ast.specs.declared.term.Quantifier.{Quantifier}
use Rattle.rx_ast.specs.declared.term.Term.{Term}
use Rattle.rx_ast.specs.declared.term.Term.TheVariants as term
use Rattle.rx_ast.specs.Size.{node_size, alternatives_size, term_size, terms_size, disjunction_size, disjunctions_size, all_alternatives_size}
use Rattle.rx_ast.specs.Tree.{Node, leaf, quantified, group, alternatives, mirror_term, mirror_alternative}
use Rattle.rx_ast.proofs.Equations.{tree_of_quantifier, tree_of_capturing, tree_of_ignore, tree_of_look, disjunction_is, alternative_is}

pub size_of_quantifier : (q : Box Quantifier Global) → term_size (term.Quantifier q) ≡ 1 + term_size q.value.body
unfolding term_size
size_of_quantifier q = ap node_size (tree_of_quantifier q)

pub size_of_capturing : (g : Box CapturingGroup Global) → term_size (term.CapturingGroup g) ≡ 1 + disjunction_size (out-CapturingGroup g.value).body
unfolding term_size disjunction_size
size_of_capturing g = ap node_size (tree_of_capturing g)

pub size_of_ignore : (g : Box IgnoreGroup Global) → term_size (term.IgnoreGroup g) ≡ 1 + disjunction_size (out-IgnoreGroup g.value).body
unfolding term_size disjunction_size
size_of_ignore g = ap node_size (tree_of_ignore g)

pub size_of_look : (g : Box LookAroundAssertion Global) → term_size (term.LookAroundAssertion g) ≡ 1 + disjunction_size (out-LookAroundAssertion g.value).body
unfolding term_size disjunction_size
size_of_look g = ap node_size (tree_of_look g)

pub size_of_disjunction : (d : Disjunction) → disjunction_size d ≡ all_alternatives_size (out-Disjunction d).body
unfolding disjunction_size all_alternatives_size
size_of_disjunction d = ap (λ m. alternatives_size m.1) (disjunction_is d)

pub no_terms : terms_size [] ≡ 0
unfolding terms_size
no_terms = refl

pub no_disjunctions : disjunctions_size [] ≡ 0
unfolding disjunctions_size
no_disjunctions = refl

pub no_alternatives : all_alternatives_size [] ≡ 0
unfolding all_alternatives_size
no_alternatives = refl

pub terms_last : (ts : List Term) (t : Term) → terms_size (ts ++ (t ∷ [])) ≡ terms_size ts + term_size t
unfolding terms_size term_size
terms_last [] t = omega arith
terms_last (s ∷ ts) t = let h = terms_last ts t in omega arith

pub disjunctions_last : (ds : List Disjunction) (d : Disjunction) → disjunctions_size (ds ++ (d ∷ [])) ≡ disjunctions_size ds + (1 + disjunction_size d)
unfolding disjunctions_size
disjunctions_last [] d = omega arith
disjunctions_last (e ∷ ds) d = let h = disjunctions_last ds d in omega arith

pub alternatives_last : (as' : List Alternative) (a : Alternative) → all_alternatives_size (as' ++ (a ∷ [])) ≡ all_alternatives_size as' + (1 + terms_size a.body)
unfolding terms_size all_alternatives_size
alternatives_last [] a = let e = ap (λ m. alternatives_size (alternatives (m ∷ []))) (alternative_is a) in omega arith
alternatives_last (b ∷ as') a = let h = alternatives_last as' a in omega arith

-- the terms of an alternative at an index are fewer than all nodes
pub alternative_within : (as' : List Alternative) (i : ℕ) (a : Alternative) → i < length as' → a ≡ get_or as' i a → terms_size a.body < all_alternatives_size as'
unfolding terms_size all_alternatives_size
alternative_within [] i a h e = absurd (omega arith)
alternative_within (b ∷ as') zero a h e = rw e (let is = ap (λ m. alternatives_size (alternatives (m ∷ map mirror_alternative as'))) (alternative_is b) in omega arith)
alternative_within (b ∷ as') (suc i) a h e = let within = alternative_within as' i a (omega arith) e in let is = ap (λ m. alternatives_size (alternatives (m ∷ map mirror_alternative as'))) (alternative_is b) in omega arith

-- a term at an index is no larger than all
pub term_within : (ts : List Term) (i : ℕ) (t : Term) → i < length ts → t ≡ get_or ts i t → term_size t ≤ terms_size ts
unfolding terms_size term_size
term_within [] i t h e = absurd (omega arith)
term_within (s ∷ ts) zero t h e = rw e (omega arith)
term_within (s ∷ ts) (suc i) t h e = let within = term_within ts i t (omega arith) e in omega arith

node_positive : (n : Node) → 0 < node_size n
node_positive (leaf l) = omega arith
node_positive (quantified s min max greedy n) = omega arith
node_positive (group s o d more) = omega arith

pub term_positive : (t : Term) → 0 < term_size t
unfolding term_size
term_positive t = node_positive (mirror_term t)

pub ruleset sizes = (term_positive, size_of_quantifier, size_of_capturing, size_of_ignore, size_of_look, size_of_disjunction, no_terms, no_disjunctions, no_alternatives, terms_last, disjunctions_last, alternatives_last)
