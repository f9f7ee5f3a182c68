use Rattle.std.proofs.Common.{◌+◌}
use Rattle.rx_program.specs.Checks.{answer}
use Rattle.rx_program.proofs.Tables.{Answers}
use Rattle.rx_program.proofs.checks.answers_from.Given as goal

abbrev pub invariant-loop-bit : goal.invariant-loop-bit
invariant-loop-bit l = Answers l.word l.bit (λ k. answer l.checks l.first (l.start + k))
