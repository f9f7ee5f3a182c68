use Rattle.std.proofs.Common.{◌≤◌, Ok}
use Rattle.rx_ast.specs.Size.{terms_size}
use Rattle.rx_base.specs.declared.ends.Failed.{Failed}
use Rattle.rx_tools.specs.Leaves.{WritesFront, rest_text}
use Rattle.rx_tools.proofs.leaf.write_leaves.Given as goal

abbrev pub invariant-loop-left : goal.invariant-loop-left
invariant-loop-left g l = record {
  written : WritesFront {E = Failed} g.W.TextSink.taken g.W.TextSink.fixed g.W.TextSink.faults l.fn.sink l.sink (Ok l.rest) (rest_text l.mode l.fn.rest) (rest_text l.mode);
  smaller : terms_size l.rest.terms.now ≤ terms_size l.fn.rest.terms.now;
}

abbrev pub decreases-loop-left : goal.decreases-loop-left
decreases-loop-left g l = terms_size l.rest.terms.now
