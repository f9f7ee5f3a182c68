-- The numbers of nodes in order, as the code holds them, and which part of them is a node with all that stand in it.
use Rattle.std.specs.Prelude.{◌≡◌, ℕ, ◌+◌, ◌-◌, List, [], ◌∷◌, length, map, take, drop}
use Rattle.std.specs.List.{flat_map}
use Rattle.rx_ast.specs.Kinds.{Kind, children}
use Rattle.rx_ast.specs.MirrorKinds.{mirror_kind}
use Rattle.rx_lint.specs.declared.numbers.Beginning.{Beginning}
use Rattle.rx_lint.specs.Numbers.{node_numbers}

-- where the numbers of each node begin, the first at `at`
abbrev pub starts : ℕ → List Kind → List ℕ
starts at [] = []
starts at (k ∷ ks) = at ∷ starts (at + length (node_numbers k)) ks

abbrev pub kind_of : Beginning → Kind
kind_of b = mirror_kind b.node

-- the numbers of nodes, and the nodes with where those of each begin
pub record AreNumbered (ks : List Kind) (bs : List Beginning) (ns : List ℕ) : Type 0 where
  pub nodes : map kind_of bs ≡ ks
  pub begin : map (λ b. b.start) bs ≡ starts 0 ks
  pub numbers : ns ≡ flat_map node_numbers ks

-- The numbers from a node on: of the nodes after which no more stand in what stands before them, the first node first.
abbrev pub tails : List Kind → List (List ℕ)
tails [] = []
tails (k ∷ ks) = flat_map node_numbers (k ∷ ks) ∷ drop (length (children k)) (tails ks)

abbrev pub first_length : List (List ℕ) → ℕ
first_length [] = 0
first_length (ns ∷ more) = length ns

-- of each node the numbers from it on, but for those from the first node on that does not stand in it
abbrev pub rows_of : List Kind → List (List ℕ)
rows_of [] = []
rows_of (k ∷ ks) = take (length (flat_map node_numbers (k ∷ ks)) - first_length (drop (length (children k)) (tails ks))) (flat_map node_numbers (k ∷ ks)) ∷ rows_of ks
