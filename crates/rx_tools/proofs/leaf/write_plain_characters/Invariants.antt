use Rattle.std.proofs.Common.{◌≤◌, Ok, length}
use Rattle.rx_ast.specs.Size.{terms_size}
use Rattle.rx_base.specs.declared.ends.Failed.{Failed}
use Rattle.rx_tools.specs.Leaves.{WritesFront, rest_text}
use Rattle.rx_tools.proofs.leaf.write_plain_characters.Given as goal

abbrev pub invariant-loop-first : goal.invariant-loop-first
invariant-loop-first g l = record {
  written : WritesFront {E = Failed} g.W.TextSink.taken g.W.TextSink.fixed g.W.TextSink.faults l.fn.sink l.sink (Ok l.rest) (rest_text l.mode l.fn.rest) (rest_text l.mode);
  smaller : terms_size l.rest.terms.now ≤ terms_size l.fn.rest.terms.now;
}

abbrev pub decreases-loop-first : goal.decreases-loop-first
decreases-loop-first g l = length l.rest.terms.now
