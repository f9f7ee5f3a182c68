use Rattle.rx_trace.specs.Answers.{pattern_trace}
use Rattle.rx_rewrite.specs.Rewriting.{flags_rewritten, rewritten}
use Rattle.rx_rewrite.proofs.SameOutcomes.{pattern_follows, same_begin, same_end}
use Rattle.rx_rewrite.proofs.laws.searches_end_alike.Goals as goal

pub returns-clause-end : goal.returns-clause-end
returns-clause-end c = λ what flags tree input more start can.
    same_end (pattern_trace flags tree input) (pattern_trace (flags_rewritten what flags) (rewritten what flags tree) input) (pattern_follows what flags tree can input) more start

pub returns-clause-begin : goal.returns-clause-begin
returns-clause-begin c = λ what flags tree input more start can.
    same_begin (pattern_trace flags tree input) (pattern_trace (flags_rewritten what flags) (rewritten what flags tree) input) (pattern_follows what flags tree can input) more start
