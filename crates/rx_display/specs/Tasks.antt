-- What the tasks of a pattern are to write, and a number that is more than those of the tasks that each puts back.
use Rattle.std.specs.Prelude.{ℕ, ◌+◌, ◌-◌, ◌*◌, List, map, codes}
use Rattle.rx_ast.specs.declared.term.Alternative.{Alternative}
use Rattle.rx_ast.specs.Shown.{alternatives_shown, barred_shown, node_shown, nodes_shown}
use Rattle.rx_ast.specs.Size.{term_size, terms_size, all_alternatives_size}
use Rattle.rx_ast.specs.Texts.{quantifier_text}
use Rattle.rx_ast.specs.Tree.{Alternatives, alternatives, nodes, mirror_alternative, mirror_term}
use Rattle.rx_display.specs.declared.task.Task.{Task}
use Rattle.rx_display.specs.declared.task.Task.TheVariants as task

-- alternatives of the code, as alternatives of the mirror
abbrev pub tree_of : List Alternative → Alternatives
tree_of more = alternatives (map mirror_alternative more)

abbrev pub task_text : Task → List ℕ
task_text (task.Disjunction all) = alternatives_shown (tree_of all.now)
task_text (task.Alternatives more) = barred_shown (tree_of more.now)
task_text (task.Terms joined ts) = nodes_shown joined (nodes (map mirror_term ts.now))
task_text (task.Term t) = node_shown (mirror_term t.now)
task_text (task.Suffix q) = quantifier_text q.now.min q.now.max q.now.greedy
task_text task.GroupEnd = codes ")"

abbrev pub task_weight : Task → ℕ
task_weight (task.Disjunction all) = 1 + 4 * all_alternatives_size all.now
task_weight (task.Alternatives more) = 2 + 4 * all_alternatives_size more.now
task_weight (task.Terms joined ts) = 1 + 4 * terms_size ts.now
task_weight (task.Term t) = 4 * term_size t.now - 1
task_weight (task.Suffix q) = 1
task_weight task.GroupEnd = 1
