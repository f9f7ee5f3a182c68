-- The nodes that are listed with the first of some.
use Rattle.std.proofs.Common.{◌≡◌, ap, sym, ◌∙◌, ◌+◌, arith, ◌∷◌, ◌++◌, append_assoc, length, map}
use Rattle.std.specs.List.{flat_map}
use Rattle.std.proofs.lemmas.List.{length-append}
use Rattle.rx_ast.specs.Kinds.{Kind, children, order}
use Rattle.rx_ast.specs.MirrorKinds.{mirror_kind}
use Rattle.rx_ast.proofs.Orders.{order_is}
use Rattle.rx_tasks.proofs.Texts.{Composes}
use Rattle.rx_visit.specs.Orders.{all_in_order, lists}
use Rattle.rx_visit.specs.Siblings.{in_order}
use Rattle.rx_visit.specs.declared.siblings.Siblings.{Siblings}

pub composes : Composes lists
composes = record { joined = λ u v w first second one two. two ∙ ap (λ ks. ks ++ second) one ∙ append_assoc (map mirror_kind u) first second }

-- a node and those after it
pub length_from : (k : Kind) (following : Siblings) → length (flat_map order (k ∷ in_order following)) ≡ 1 + (length (flat_map order (children k)) + length (all_in_order following))
length_from k following =
    let parted = ap (λ ks. length (ks ++ all_in_order following)) (order_is k) in
    let both = length-append (flat_map order (children k)) (all_in_order following) in
    omega arith

module _ (s following : Siblings) (k : Kind) (first : in_order s ≡ k ∷ in_order following) where
  cut : all_in_order s ≡ k ∷ (flat_map order (children k) ++ all_in_order following)
  cut = ap (flat_map order) first ∙ ap (λ ks. ks ++ all_in_order following) (order_is k)

  pub first_length : length (all_in_order s) ≡ 1 + (length (flat_map order (children k)) + length (all_in_order following))
  first_length = ap (λ ks. length (flat_map order ks)) first ∙ length_from k following

  pub first_in_order : (within : Siblings) → in_order within ≡ children k → all_in_order s ≡ k ∷ (all_in_order within ++ all_in_order following)
  first_in_order within in_it = cut ∙ ap (λ ks. k ∷ (flat_map order ks ++ all_in_order following)) (sym in_it)
