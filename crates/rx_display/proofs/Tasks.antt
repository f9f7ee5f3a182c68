-- What is written of alternatives and of terms, by the first and the others.
use Rattle.std.proofs.Common.{◌≡◌, refl, ap, Bool, true, false, codes, ◌+◌, List, [], ◌∷◌, ◌++◌, length, map}
use Rattle.std.specs.Option.{is_some}
use Rattle.rx_ast.specs.declared.term.Alternative.{Alternative}
use Rattle.rx_ast.specs.declared.term.Term.{Term}
use Rattle.rx_ast.specs.Shown.{alternatives_shown, barred_shown, node_pair, node_shown, nodes_shown, pair_or}
use Rattle.rx_ast.specs.Size.{all_alternatives_size, alternatives_size, terms_size}
use Rattle.rx_ast.specs.Tree.{alternatives, mirror_alternative, mirror_term, nodes}
use Rattle.rx_ast.proofs.Equations.{alternative_is}
use Rattle.rx_display.specs.Tasks.{tree_of}

pub alternatives_first : (a : Alternative) (as' : List Alternative) → all_alternatives_size (a ∷ as') ≡ 1 + terms_size a.body + all_alternatives_size as'
unfolding terms_size all_alternatives_size
alternatives_first a as' = ap (λ m. alternatives_size (alternatives (m ∷ map mirror_alternative as'))) (alternative_is a)

pub disjunction_cut : (all : List Alternative) (first : Alternative) (others : List Alternative) → all ≡ first ∷ others →
    alternatives_shown (tree_of all) ≡ nodes_shown false (nodes (map mirror_term first.body)) ++ barred_shown (tree_of others)
disjunction_cut all first others cut = rw (cut, alternative_is first) refl

-- Alternatives that are to stand after bars are written as others, after one bar.
pub barred_cut : (all : List Alternative) → (length all ≡ 0 → ⊥) → barred_shown (tree_of all) ≡ codes "|" ++ alternatives_shown (tree_of all)
barred_cut [] some = absurd (some refl)
barred_cut (first ∷ others) some = refl

module _ (joined follows : Bool) (all : List Term) (first : Term) (others : List Term) (cut : all ≡ first ∷ others) (is : follows ≡ is_some (node_pair (mirror_term first) (nodes (map mirror_term others)))) where
  -- The first was written together with the one before it.
  pub joined_cut : joined ≡ true → nodes_shown joined (nodes (map mirror_term all)) ≡ nodes_shown follows (nodes (map mirror_term others))
  joined_cut together = rw (cut, together, is) refl

  pub terms_cut : joined ≡ false → nodes_shown joined (nodes (map mirror_term all)) ≡
      pair_or (node_pair (mirror_term first) (nodes (map mirror_term others))) (node_shown (mirror_term first)) ++ nodes_shown follows (nodes (map mirror_term others))
  terms_cut alone = rw (cut, alone, is) refl
