-- What the tasks of a pattern are to write, and a number that is more than those of the tasks that each puts back.
use Rattle.std.specs.Prelude.{ℕ, ◌+◌, ◌*◌, Bool, if◌then◌else◌, List, [], ◌++◌, Option, Some, None, codes, map}
use Rattle.std.specs.Borrow.{Bor}
use Rattle.rx_ast.specs.declared.term.Quantifier.{Quantifier}
use Rattle.rx_ast.specs.Size.{terms_size, all_alternatives_size}
use Rattle.rx_ast.specs.Texts.{opener_text, quantifier_text}
use Rattle.rx_ast.specs.Tree.{Node, leaf, quantified, group, mirror_term, nodes}
use Rattle.rx_display.specs.Tasks.{tree_of}
use Rattle.rx_model.specs.declared.mode.Mode.{Mode}
use Rattle.rx_model.specs.Spelling.Spelling.{barred_text, leaf_text, nodes_text}
use Rattle.rx_tools.specs.declared.task.Body.{Body}
use Rattle.rx_tools.specs.declared.task.Task.{Task}

abbrev pub closer_text : Bool → List ℕ
closer_text closes = if closes then codes ")" else []

abbrev pub suffix_text : Option (Bor Quantifier) → List ℕ
suffix_text None = []
suffix_text (Some q) = quantifier_text q.now.min q.now.max q.now.greedy

abbrev pub body_text : Body → List ℕ
body_text body = nodes_text body.mode body.after_reference (nodes (map mirror_term body.terms.now)) ++ barred_text body.mode (tree_of body.more.now)

-- the body after the term that a task ends
abbrev pub body_of : Task → Body
body_of task = record { mode = task.mode; after_reference = task.after_reference; terms = task.terms; more = task.more }

abbrev pub task_text : Task → List ℕ
task_text task = (closer_text task.closes ++ suffix_text task.suffix) ++ body_text (body_of task)

-- what is written of a term before the tasks that it leaves; all of it, where no task is left of it
abbrev pub opening_text : Mode → Bool → Node → List ℕ
opening_text mode after_reference (leaf l) = leaf_text mode after_reference l
opening_text mode after_reference (quantified s min max greedy n) = []
opening_text mode after_reference (group s o d more) = opener_text o

abbrev pub body_weight : Body → ℕ
body_weight body = 1 + 2 * (terms_size body.terms.now + all_alternatives_size body.more.now)

abbrev pub task_weight : Task → ℕ
task_weight task = body_weight (body_of task)
