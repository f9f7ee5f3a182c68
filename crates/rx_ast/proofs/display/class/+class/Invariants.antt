use denote.Shadow.{shadow}
use denote.Text.{Utf8}
use Rattle.std.proofs.Common.{◌+◌, ◌*◌, ◌≤◌, length, map}
use Rattle.std.specs.Str.{chars}
use Rattle.rx_ast.specs.ClassTree.{members, mirror_contents}
use Rattle.rx_ast.specs.Shown.{members_shown}
use Rattle.rx_ast.specs.Size.{contents_size, all_contents_size}
use Rattle.rx_ast.specs.Texts.{operator_text}
use Rattle.rx_ast.proofs.ClassShown.{contents_after}
use Rattle.rx_ast.proofs.FormatterWrites.{Left}
use Rattle.rx_ast.proofs.display.class.+class.Given as goal

abbrev pub decreases-write_contents : goal.decreases-write_contents
decreases-write_contents g l = 4 * contents_size l.contents.now

abbrev pub decreases-write_unless_joined : goal.decreases-write_unless_joined
decreases-write_unless_joined g l = 4 * contents_size l.contents.now + 1

abbrev pub decreases-write_all_contents : goal.decreases-write_all_contents
decreases-write_all_contents g l = 4 * all_contents_size l.all_contents.now + 2

abbrev pub decreases-write_class : goal.decreases-write_class
decreases-write_class g l = 4 * all_contents_size l.class.now.body + 3

abbrev pub invariant-write_all_contents-loop-contents : goal.invariant-write_all_contents-loop-contents
invariant-write_all_contents-loop-contents g l = record {
  is_text : shadow (Utf8 l.before);
  written : Left g.W.Write.write_str_gives l.fn.f l.f (members_shown (operator_text l.fn.kind) (members (map mirror_contents l.fn.all_contents)))
      (contents_after (chars l.before) (operator_text l.fn.kind) l.joined (members (map mirror_contents l.rest)));
  smaller : all_contents_size l.rest ≤ all_contents_size l.fn.all_contents;
}

abbrev pub decreases-write_all_contents-loop-contents : goal.decreases-write_all_contents-loop-contents
decreases-write_all_contents-loop-contents g l = length l.rest
