-- What is still to be compiled, from the end of the tree to its beginning, and the codes that come out of it.
use Rattle.std.specs.Prelude.{ℕ, suc, ◌+◌, Bool, Option, List, [], ◌∷◌}
use Rattle.rx_ast.specs.declared.leaf.LookAroundAssertionKind.{LookAroundAssertionKind}
use Rattle.rx_ast.specs.Tree.{Node, Nodes, Alternatives, leaf, quantified, group, no_node, node, no_alternative, alternative}
use Rattle.rx_trace.specs.Groups.{Names, groups_in, groups_in_all, groups_in_each}
use Rattle.rx_program.specs.ClassTests.{Tests, node_tests, nodes_tests, each_tests}
use Rattle.rx_trace.specs.declared.settings.Settings.{Settings}
use Rattle.rx_program.specs.Codes.{Code, choose, sequence, capture, look_around, repeat}
use Rattle.rx_program.specs.Codes as code
use Rattle.rx_program.specs.Compiled.{node_code, nodes_code, each_code}

pub data Work : Type 0 where
  -- a disjunction, over the code of what follows it
  disjunction : Settings → Bool → Alternatives → Work
  -- the alternatives before those that are compiled, over the code of these and the code of what follows
  earlier : Settings → Bool → Alternatives → Work
  terms : Settings → Bool → Nodes → Work
  term : Settings → Bool → Node → Work
  -- a term, over the code of its body and the code of what follows
  capturing : Work
  looking : LookAroundAssertionKind → Work
  repeating : ℕ → Option ℕ → Bool → ℕ → Work
  entering : Work
  -- two codes are made into one, or change places
  choosing : Work
  swapping : Work
  sequencing : Work

-- how many groups open in what is still to be compiled, and so before what is compiled
abbrev pub groups_left : List Work → ℕ
groups_left [] = 0
groups_left (disjunction e back more ∷ ws) = groups_in_each more + groups_left ws
groups_left (earlier e back more ∷ ws) = groups_in_each more + groups_left ws
groups_left (terms e back ns ∷ ws) = groups_in_all ns + groups_left ws
groups_left (term e back n ∷ ws) = groups_in n + groups_left ws
groups_left (capturing ∷ ws) = suc (groups_left ws)
groups_left (looking kind ∷ ws) = groups_left ws
groups_left (repeating min max greedy count ∷ ws) = groups_left ws
groups_left (entering ∷ ws) = groups_left ws
groups_left (choosing ∷ ws) = groups_left ws
groups_left (swapping ∷ ws) = groups_left ws
groups_left (sequencing ∷ ws) = groups_left ws

-- what the classes in what is still to be compiled hold, from the last class to the first
abbrev pub tests_left : List Work → Tests
tests_left [] = []
tests_left (disjunction e back more ∷ ws) = each_tests more (tests_left ws)
tests_left (earlier e back more ∷ ws) = each_tests more (tests_left ws)
tests_left (terms e back ns ∷ ws) = nodes_tests ns (tests_left ws)
tests_left (term e back n ∷ ws) = node_tests n (tests_left ws)
tests_left (capturing ∷ ws) = tests_left ws
tests_left (looking kind ∷ ws) = tests_left ws
tests_left (repeating min max greedy count ∷ ws) = tests_left ws
tests_left (entering ∷ ws) = tests_left ws
tests_left (choosing ∷ ws) = tests_left ws
tests_left (swapping ∷ ws) = tests_left ws
tests_left (sequencing ∷ ws) = tests_left ws

abbrev pub on_one : (Code → Code) → List Code → List Code
on_one f [] = []
on_one f (c ∷ cs) = f c ∷ cs

abbrev pub on_two : (Code → Code → Code) → List Code → List Code
on_two f [] = []
on_two f (c ∷ []) = []
on_two f (c ∷ d ∷ cs) = f c d ∷ cs

abbrev pub swap : List Code → List Code
swap [] = []
swap (c ∷ []) = []
swap (c ∷ d ∷ cs) = d ∷ c ∷ cs

module _ (names : Names) where
  -- the code of alternatives, where the code of the alternatives after them is known
  abbrev pub earlier_code : Alternatives → Settings → Bool → ℕ → Code → Code → Code
  earlier_code no_alternative e back before next entry = entry
  earlier_code (alternative d ns more) e back before next entry =
      choose (nodes_code names ns e back before next) (earlier_code more e back (before + groups_in_all ns) next entry)

  -- the codes after a piece of work, which changes the last of them
  abbrev pub worked : Work → ℕ → List Code → List Code
  worked (disjunction e back more) before cs = on_one (each_code names more e back before) cs
  worked (earlier e back more) before cs = on_two (λ entry next. earlier_code more e back before next entry) cs
  worked (terms e back ns) before cs = on_one (nodes_code names ns e back before) cs
  worked (term e back n) before cs = on_one (node_code names n e back before) cs
  worked capturing before cs = on_two (capture before) cs
  worked (looking kind) before cs = on_two (look_around kind) cs
  worked (repeating min max greedy count) before cs = on_two (repeat min max greedy before count) cs
  worked entering before cs = on_one code.enter_group cs
  worked choosing before cs = on_two choose cs
  worked swapping before cs = swap cs
  worked sequencing before cs = on_two (λ second first. sequence first second) cs

  -- the codes after all work
  abbrev pub all_worked : List Work → List Code → List Code
  all_worked [] cs = cs
  all_worked (w ∷ ws) cs = all_worked ws (worked w (groups_left ws) cs)

-- the most pieces of work that are made of a tree
abbrev mutual
  pub node_weight : Node → ℕ
  node_weight (leaf l) = 1
  node_weight (quantified d min max greedy n) = 2 + node_weight n
  node_weight (group d o c more) = 3 + each_weight more

  pub nodes_weight : Nodes → ℕ
  nodes_weight no_node = 0
  nodes_weight (node n ns) = 3 + node_weight n + nodes_weight ns

  pub each_weight : Alternatives → ℕ
  each_weight no_alternative = 0
  each_weight (alternative d ns more) = 3 + nodes_weight ns + each_weight more

abbrev pub weight : Work → ℕ
weight (disjunction e back more) = 1 + each_weight more
weight (earlier e back more) = 1 + each_weight more
weight (terms e back ns) = 1 + nodes_weight ns
weight (term e back n) = node_weight n
weight capturing = 1
weight (looking kind) = 1
weight (repeating min max greedy count) = 1
weight entering = 1
weight choosing = 1
weight swapping = 1
weight sequencing = 1

abbrev pub weights : List Work → ℕ
weights [] = 0
weights (w ∷ ws) = weight w + weights ws
