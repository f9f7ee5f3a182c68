-- Of nodes in their order each row is the numbers of a node with all that stand in it.
use Rattle.std.proofs.Common.{◌≡◌, refl, ap, sym, ◌∙◌, ◌-◌, arith, List, [], ◌∷◌, ◌++◌, append-nil, append_assoc, length, length-append, take, drop, map}
use Rattle.std.specs.List.{flat_map}
use Rattle.std.proofs.lemmas.Grind.{flat_map-append}
use Rattle.std.proofs.lemmas.List.{map-append, take_at}
use Rattle.rx_ast.specs.Kinds.{Kind, children, order}
use Rattle.rx_ast.specs.Forest.{Forest, nothing, tree, roots}
use Rattle.rx_ast.proofs.Orders.{order_is}
use Rattle.rx_lint.specs.Nodes.{trees}
use Rattle.rx_lint.specs.Numbers.{node_numbers, numbers}
use Rattle.rx_lint.specs.Rows.{tails, first_length, rows_of}
use Rattle.rx_lint.proofs.Nodes.{labels, HaveChildren, grown}
use Rattle.rx_lint.proofs.NodeNumbers.{all_numbers}

-- The nodes of a forest are the orders of its roots.
labels_are : (f : Forest Kind) → HaveChildren f → labels f ≡ flat_map order (roots f)
labels_are nothing have = refl
labels_are (tree k inner after) have =
    ap (λ ks. k ∷ (ks ++ labels after)) (labels_are inner have.1 ∙ ap (flat_map order) have.0) ∙ ap (λ ks. (k ∷ flat_map order (children k)) ++ ks) (labels_are after have.2) ∙ ap (λ ks. ks ++ flat_map order (roots after)) (sym (order_is k))

order_of_tree : (k : Kind) (inner after : Forest Kind) → HaveChildren (tree k inner after) → order k ≡ k ∷ labels inner
order_of_tree k inner after have = order_is k ∙ ap (λ ks. k ∷ flat_map order ks) (sym have.0) ∙ ap (λ ks. k ∷ ks) (sym (labels_are inner have.1))

-- After the roots of a forest come the tails of what comes after it.
tails_after : (f : Forest Kind) (rest : List Kind) → HaveChildren f → drop (length (roots f)) (tails (labels f ++ rest)) ≡ tails rest
tails_after nothing rest have = refl
tails_after (tree k inner after) rest have =
    ap (λ ks. drop (length (roots after)) (drop (length (children k)) (tails ks))) (append_assoc (labels inner) (labels after) rest)
    ∙ ap (λ ks. drop (length (roots after)) (drop (length ks) (tails (labels inner ++ (labels after ++ rest))))) (sym have.0)
    ∙ ap (drop (length (roots after))) (tails_after inner (labels after ++ rest) have.1) ∙ tails_after after rest have.2

first_tail : (ks : List Kind) → first_length (tails ks) ≡ length (all_numbers ks)
first_tail [] = refl
first_tail (k ∷ ks) = refl

rows_after : (f : Forest Kind) (rest : List Kind) → HaveChildren f → rows_of (labels f ++ rest) ≡ map numbers (labels f) ++ rows_of rest
rows_after nothing rest have = refl
rows_after (tree k inner after) rest have =
    let later = labels after ++ rest in
    let ks = labels inner ++ later in
    let regroup : (labels inner ++ labels after) ++ rest ≡ ks = append_assoc (labels inner) (labels after) rest in
    let next : first_length (drop (length (children k)) (tails ks)) ≡ length (all_numbers later) =
    ap (λ cs. first_length (drop (length cs) (tails ks))) (sym have.0) ∙ ap first_length (tails_after inner later have.1) ∙ first_tail later in
    let parts : all_numbers (k ∷ ks) ≡ numbers k ++ all_numbers later =
    flat_map-append node_numbers (k ∷ labels inner) later ∙ ap (λ ls. all_numbers ls ++ all_numbers later) (sym (order_of_tree k inner after have)) in
    let sizes = ap length parts ∙ length-append (numbers k) (all_numbers later) in
    let size : length (numbers k) ≡ length (all_numbers (k ∷ ks)) - length (all_numbers later) = omega arith in
    let row : take (length (all_numbers (k ∷ ks)) - first_length (drop (length (children k)) (tails ks))) (all_numbers (k ∷ ks)) ≡ numbers k =
    ap (λ n. take (length (all_numbers (k ∷ ks)) - n) (all_numbers (k ∷ ks))) next ∙ ap (take (length (all_numbers (k ∷ ks)) - length (all_numbers later))) parts ∙ take_at (numbers k) (all_numbers later) _ size in
    ap (λ ls. rows_of (k ∷ ls)) regroup ∙ ap (λ r. r ∷ rows_of ks) row
    ∙ ap (λ rs. numbers k ∷ rs) (rows_after inner later have.1 ∙ ap (λ rs. map numbers (labels inner) ++ rs) (rows_after after rest have.2) ∙ sym (append_assoc (map numbers (labels inner)) (map numbers (labels after)) (rows_of rest)) ∙ ap (λ rs. rs ++ rows_of rest) (sym (map-append numbers (labels inner) (labels after))))

-- the rows of a node and of all that stand in it
pub rows_of_order : (k : Kind) → rows_of (order k) ≡ map numbers (order k)
rows_of_order k =
    let it = grown k in
    ap rows_of (sym (append-nil (order k)) ∙ ap (λ ks. ks ++ []) (sym it.in_order)) ∙ rows_after (trees (k ∷ [])) [] it.children ∙ append-nil _ ∙ ap (map numbers) it.in_order
