use Rattle.rx_trace.specs.Answers.{pattern_trace}
use Rattle.rx_rewrite.specs.Rewriting.{flags_rewritten, rewritten}
use Rattle.rx_rewrite.proofs.SameOutcomes.{pattern_follows, same_ticks}
use Rattle.rx_rewrite.proofs.laws.ticks_at_most_double.Goals as goal

pub returns-clause-least : goal.returns-clause-least
returns-clause-least c = λ what flags tree input more start can.
    (same_ticks (pattern_trace flags tree input) (pattern_trace (flags_rewritten what flags) (rewritten what flags tree) input) (pattern_follows what flags tree can input) more start).0

pub returns-clause-most : goal.returns-clause-most
returns-clause-most c = λ what flags tree input more start can.
    (same_ticks (pattern_trace flags tree input) (pattern_trace (flags_rewritten what flags) (rewritten what flags tree) input) (pattern_follows what flags tree can input) more start).1
