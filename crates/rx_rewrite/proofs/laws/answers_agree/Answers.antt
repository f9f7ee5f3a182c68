use Rattle.std.proofs.Common.{sym, ◌∙◌}
use Rattle.rx_trace.specs.Answers.{pattern_trace}
use Rattle.rx_rewrite.specs.Rewriting.{flags_rewritten, rewritten}
use Rattle.rx_rewrite.proofs.SameOutcomes.{answer_after, answer_before, pattern_follows, same_answer}
use Rattle.rx_rewrite.proofs.SameSupport.{same_support}
use Rattle.rx_rewrite.proofs.laws.answers_agree.Goals as goal

pub returns-clause-one : goal.returns-clause-one
returns-clause-one c = λ what flags tree input more start budget most a b can of_old of_new.
    let old = pattern_trace flags tree input in
    let new = pattern_trace (flags_rewritten what flags) (rewritten what flags tree) input in
    same_answer old new (pattern_follows what flags tree can input) more start budget most a b of_old.2 of_new.2

pub returns-clause-before : goal.returns-clause-before
returns-clause-before c = λ what flags tree input more start budget a can of_new.
    let old = pattern_trace flags tree input in
    let new = pattern_trace (flags_rewritten what flags) (rewritten what flags tree) input in
    (of_new.0, sym (same_support what flags tree) ∙ of_new.1, answer_before old new (pattern_follows what flags tree can input) more start budget a of_new.2)

pub returns-clause-after : goal.returns-clause-after
returns-clause-after c = λ what flags tree input more start budget most a can enough of_old.
    let old = pattern_trace flags tree input in
    let new = pattern_trace (flags_rewritten what flags) (rewritten what flags tree) input in
    (of_old.0, same_support what flags tree ∙ of_old.1, answer_after old new (pattern_follows what flags tree can input) more start budget most a enough of_old.2)
