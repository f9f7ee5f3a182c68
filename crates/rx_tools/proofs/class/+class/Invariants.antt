use denote.Shadow.{shadow}
use denote.Text.{Utf8}
use Rattle.std.proofs.Common.{◌+◌, ◌*◌, drop, map}
use Rattle.std.specs.Str.{chars}
use Rattle.rx_ast.specs.Size.{contents_size, all_contents_size}
use Rattle.rx_ast.specs.ClassTree.{members, mirror_contents}
use Rattle.rx_base.proofs.Writing.{Left}
use Rattle.rx_ast.specs.Texts.{operator_text}
use Rattle.rx_model.specs.Spelling.ClassText.{members_text}
use Rattle.rx_tools.specs.Utf8.{utf8}
use Rattle.rx_tools.proofs.Classes.{contents_after}
use Rattle.rx_tools.proofs.class.+class.Given as goal

abbrev pub decreases-write_contents : goal.decreases-write_contents
decreases-write_contents g l = 3 * contents_size l.contents.now

abbrev pub decreases-write_class : goal.decreases-write_class
decreases-write_class g l = 3 * all_contents_size l.class.now.body + 2

abbrev pub decreases-write_all_contents : goal.decreases-write_all_contents
decreases-write_all_contents g l = 3 * all_contents_size l.all_contents.now + 1

abbrev pub invariant-write_all_contents-loop-contents : goal.invariant-write_all_contents-loop-contents
invariant-write_all_contents-loop-contents g l = record {
  is_text : shadow (Utf8 l.before);
  written : Left g.W.TextSink.taken g.W.TextSink.fixed g.W.TextSink.faults l.fn.sink l.sink (utf8 (members_text l.mode (operator_text l.fn.kind) (members (map mirror_contents l.all_contents))))
      (utf8 (contents_after l.mode (chars l.before) (operator_text l.fn.kind) (members (map mirror_contents (drop l.contents-index l.all_contents)))));
}
