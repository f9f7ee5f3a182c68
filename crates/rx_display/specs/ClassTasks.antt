-- What the tasks of a class are to write, and a number that is more than those of the tasks that each puts back.
use Rattle.std.specs.Prelude.{ℕ, ◌+◌, ◌-◌, ◌*◌, List, ◌++◌, map, codes}
use Rattle.rx_ast.specs.ClassTree.{members, mirror_contents, mirror_class}
use Rattle.rx_ast.specs.Shown.{class_shown, member_shown, more_members_shown}
use Rattle.rx_ast.specs.Size.{all_contents_size, contents_size}
use Rattle.rx_ast.specs.Texts.{operator_text}
use Rattle.rx_display.specs.declared.class_task.ClassTask.{ClassTask}
use Rattle.rx_display.specs.declared.class_task.ClassTask.TheVariants as task

abbrev pub class_task_text : ClassTask → List ℕ
class_task_text (task.Class c) = class_shown (mirror_class c.now)
class_task_text (task.Contents m) = member_shown (mirror_contents m.now)
class_task_text (task.Rest joined kind ms) = more_members_shown (operator_text kind) joined (members (map mirror_contents ms.now)) ++ codes "]"

abbrev pub class_task_weight : ClassTask → ℕ
class_task_weight (task.Class c) = 1 + 3 * all_contents_size c.now.body
class_task_weight (task.Contents m) = 3 * contents_size m.now - 1
class_task_weight (task.Rest joined kind ms) = 1 + 3 * all_contents_size ms.now
