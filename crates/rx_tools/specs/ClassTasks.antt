-- What the tasks of a class are to write, and a number that is more than those of the tasks that each puts back.
use Rattle.std.specs.Prelude.{ℕ, ◌+◌, ◌*◌, List, ◌++◌, map, codes}
use Rattle.rx_ast.specs.ClassTree.{members, mirror_contents, mirror_class}
use Rattle.rx_ast.specs.Size.{all_contents_size}
use Rattle.rx_ast.specs.Texts.{operator_text}
use Rattle.rx_model.specs.Spelling.ClassText.{class_text, more_members_text}
use Rattle.rx_tools.specs.declared.class_task.ClassTask.{ClassTask}
use Rattle.rx_tools.specs.declared.class_task.ClassTask.TheVariants as task

abbrev pub class_task_text : ClassTask → List ℕ
class_task_text (task.Class mode c) = class_text mode (mirror_class c.now)
class_task_text (task.Rest mode kind ms) = more_members_text mode (operator_text kind) (members (map mirror_contents ms.now)) ++ codes "]"

abbrev pub class_task_weight : ClassTask → ℕ
class_task_weight (task.Class mode c) = 1 + 2 * all_contents_size c.now.body
class_task_weight (task.Rest mode kind ms) = 1 + 2 * all_contents_size ms.now
