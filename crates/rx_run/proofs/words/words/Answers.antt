-- Each word is added to those before it, until there is none.
use Rattle.std.proofs.Common.{arith}
use Rattle.rx_run.proofs.TakenWords.{known_no_text, known_words_all, known_words_more, same_fault}
use Rattle.rx_run.proofs.words.words.Goals as goal

pub returns-in_err-word-clause-usage : goal.returns-in_err-word-clause-usage
returns-in_err-word-clause-usage g c e =
    known_no_text (g.A.Arguments.given c.args.arguments.now) c.loop-index.index c.loop-index.invariant.after_name (c.in_err-word.ensures.usage (same_fault _ _ _ c.from_residual.ensures.1 e))

pub returns-in-None-clause-ok : goal.returns-in-None-clause-ok
returns-in-None-clause-ok g c =
    known_words_all (g.A.Arguments.given c.args.arguments.now) c.loop-index.index _ _ c.loop-index.invariant.before c.in_ok-word.ensures.ok c.in-None.is

pub loop-index-preserved : goal.loop-index-preserved
loop-index-preserved g c = record {
  after_name = omega arith;
  before = known_words_more (g.A.Arguments.given c.args.arguments.now) c.loop-index.index _ _ _ _ c.loop-index.invariant.before c.in_ok-word.ensures.ok c.in-Some.is
      c.in_ok-push-in-Some.ensures.ok;
}
