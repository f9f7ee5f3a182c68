-- Lists of nodes, and the trees that they make.
use Rattle.std.proofs.Common.{◌≡◌, refl, ap, Option, List, [], ◌∷◌, ◌++◌}
use Rattle.rx_ast.specs.ClassTree.{Members, no_member, member, members}
use Rattle.rx_ast.specs.Tree.{Node, Nodes, Alternatives, no_node, node, nodes, no_alternative, alternative, alternatives}
use Rattle.rx_rewrite.specs.ClassWorks.{listed_members}
use Rattle.rx_rewrite.specs.Works.{Made, listed, listed_alternatives, on_last}

pub nodes-listed : (ns : Nodes) → nodes (listed ns) ≡ ns
nodes-listed no_node = refl
nodes-listed (node n ns) = ap (node n) (nodes-listed ns)

pub alternatives-listed : (more : Alternatives) → alternatives (listed_alternatives more) ≡ more
alternatives-listed no_alternative = refl
alternatives-listed (alternative s ns more) = ap (alternative s ns) (alternatives-listed more)

pub members-listed : (ms : Members) → members (listed_members ms) ≡ ms
members-listed no_member = refl
members-listed (member m ms) = ap (member m) (members-listed ms)

pub on-last : (f : Node → Node) (ns : List Node) (n : Node) (rest : List Node → Option Made) → on_last f (ns ++ (n ∷ [])) rest ≡ rest (ns ++ (f n ∷ []))
on-last f [] n rest = refl
on-last f (m ∷ []) n rest = refl
on-last f (m ∷ k ∷ ns) n rest = on-last f (k ∷ ns) n (λ ms. rest (m ∷ ms))
