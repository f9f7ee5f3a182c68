use Rattle.std.proofs.Common.{◌+◌, ◌*◌, ◌<◌, ◌≤◌, length}
use Rattle.rx_ast.specs.Size.{contents_size, all_contents_size}
use Rattle.rx_ast.proofs.class.+class_dropping.Given as goal

abbrev pub decreases-drop_contents : goal.decreases-drop_contents
decreases-drop_contents l = 2 * contents_size l.contents

abbrev pub decreases-add_contents : goal.decreases-add_contents
decreases-add_contents l = 2 * all_contents_size l.more + 1

abbrev pub invariant-drop_contents-loop-contents : goal.invariant-drop_contents-loop-contents
invariant-drop_contents-loop-contents l = all_contents_size l.waiting < contents_size l.fn.contents

abbrev pub decreases-drop_contents-loop-contents : goal.decreases-drop_contents-loop-contents
decreases-drop_contents-loop-contents l = all_contents_size l.waiting

abbrev pub invariant-add_contents-loop-contents : goal.invariant-add_contents-loop-contents
invariant-add_contents-loop-contents l =
    (all_contents_size l.waiting + all_contents_size l.more ≤ all_contents_size l.fn.waiting + all_contents_size l.fn.more)
    × (all_contents_size l.more ≤ all_contents_size l.fn.more)

abbrev pub decreases-add_contents-loop-contents : goal.decreases-add_contents-loop-contents
decreases-add_contents-loop-contents l = length l.more
