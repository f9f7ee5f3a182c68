-- The places of the nodes of a forest.
use Rattle.std.proofs.Common.{◌≡◌, refl, ap, sym, ◌∙◌, Option, Some, None, List, [], ◌∷◌, ◌++◌, append_assoc, map, zero, suc, arith}
use Rattle.std.specs.List.{All}
use Rattle.std.proofs.lemmas.List.{map-append}
use Rattle.std.proofs.lemmas.List.Elements.{All-append, All-nil}
use Rattle.rx_ast.specs.Kinds.{Kind, pattern, children, order}
use Rattle.rx_ast.specs.Tree.{Whole}
use Rattle.rx_ast.specs.Forest.{Forest, nothing, tree, roots}
use Rattle.rx_lint.specs.Nodes.{inside, trees}
use Rattle.rx_lint.specs.Places.{Place, places_in, places, IsChild, IsRooted}
use Rattle.rx_lint.proofs.Nodes.{labels, HaveChildren, grown}

nodes_of_places : (parent : Option Kind) (before : List Kind) (f : Forest Kind) → map (λ (at : Place). at.node) (places_in parent before f) ≡ labels f
nodes_of_places parent before nothing = refl
nodes_of_places parent before (tree k inner after) =
    let node : Place → Kind = λ at. at.node in
    ap (λ ks. k ∷ ks) (map-append node (places_in (Some k) [] inner) (places_in parent (before ++ (k ∷ [])) after)
    ∙ ap (λ ks. ks ++ map node (places_in parent (before ++ (k ∷ [])) after)) (nodes_of_places (Some k) [] inner) ∙ ap (λ ks. labels inner ++ ks) (nodes_of_places parent (before ++ (k ∷ [])) after))

pub in_order : (p : Whole) → map (λ (at : Place). at.node) (places p) ≡ order (pattern p)
in_order p = nodes_of_places None [] (trees (pattern p ∷ [])) ∙ (grown (pattern p)).in_order

-- the children of the parent are those before, and then the roots of the forest
abbrev StandIn : Option Kind → List Kind → Forest Kind → Type 0
StandIn parent before f = (k : Kind) → parent ≡ Some k → children k ≡ before ++ roots f

one : (at : Place) → IsChild at → All IsChild (at ∷ [])
one at is zero d lt = is
one at is (suc k) d lt = absurd (omega arith)

of_children : (parent : Option Kind) (before : List Kind) (f : Forest Kind) → HaveChildren f → StandIn parent before f → All IsChild (places_in parent before f)
of_children parent before nothing have stand = All-nil IsChild
of_children parent before (tree k inner after) have stand =
    let at : Place = record { node = k; parent = parent; before = before } in
    All-append IsChild (at ∷ []) _ (one at (λ up is. (roots after, stand up is)))
    (All-append IsChild (places_in (Some k) [] inner) (places_in parent (before ++ (k ∷ [])) after)
    (of_children (Some k) [] inner have.1 (λ up is. let same : k ≡ up = cc in ap children (sym same) ∙ sym have.0))
    (of_children parent (before ++ (k ∷ [])) after have.2 (λ up is. stand up is ∙ sym (append_assoc before (k ∷ []) (roots after)))))

pub are_of_children : (p : Whole) → All IsChild (places p)
are_of_children p = of_children None [] (trees (pattern p ∷ [])) (grown (pattern p)).children (λ up is. cc)

rooted_one : (p : Whole) (at : Place) → IsRooted p at → All (IsRooted p) (at ∷ [])
rooted_one p at is zero d lt = is
rooted_one p at is (suc k) d lt = absurd (omega arith)

in_some : (p : Whole) (k : Kind) (before : List Kind) (f : Forest Kind) → All (IsRooted p) (places_in (Some k) before f)
in_some p k before nothing = All-nil (IsRooted p)
in_some p k before (tree m inner after) =
    let at : Place = record { node = m; parent = Some k; before = before } in
    All-append (IsRooted p) (at ∷ []) _ (rooted_one p at (λ none. cc))
    (All-append (IsRooted p) (places_in (Some m) [] inner) (places_in (Some k) (before ++ (m ∷ [])) after) (in_some p m [] inner) (in_some p k (before ++ (m ∷ [])) after))

pub are_rooted : (p : Whole) → All (IsRooted p) (places p)
are_rooted p =
    let at : Place = record { node = pattern p; parent = None; before = [] } in
    All-append (IsRooted p) (at ∷ []) _ (rooted_one p at (λ none. refl))
    (All-append (IsRooted p) (places_in (Some (pattern p)) [] (inside (pattern p))) (places_in None (pattern p ∷ []) nothing) (in_some p (pattern p) [] (inside (pattern p))) (All-nil (IsRooted p)))
