use Rattle.std.proofs.Common.{IfSome, ◌≤◌}
use Rattle.rx_run.proofs.TakenWords.{AreWordsBefore}
use Rattle.rx_run.proofs.words.words.Given as goal

abbrev pub invariant-loop-index : goal.invariant-loop-index
invariant-loop-index g l = record {
  after_name : 1 ≤ l.index;
  before : IfSome (g.A.Arguments.given l.arguments) (λ given. AreWordsBefore given l.index l.words);
}
