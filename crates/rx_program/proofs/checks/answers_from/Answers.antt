use Rattle.std.proofs.Common.{ℕ, Bool, sym, subst, ◌+◌, ◌<◌, arith}
use Rattle.rx_program.specs.Checks.{answer}
use Rattle.rx_program.proofs.Tables.{Answers, answers_none, answers_on}
use Rattle.rx_program.proofs.checks.answers_from.Goals as goal

pub loop-bit-init : goal.loop-bit-init
loop-bit-init c = answers_none (λ k. answer c.args.checks.now c.args.first (c.args.start + k))

pub loop-bit-preserved : goal.loop-bit-preserved
loop-bit-preserved c =
    let holds : ℕ → Bool = λ k. answer c.args.checks.now c.args.first (c.args.start + k) in
    let within : c.loop-bit.bit < 64 = omega arith in
    subst (λ w. Answers w (c.loop-bit.bit + 1) holds) (sym c.with_bit-word.ensures)
    (answers_on c.loop-bit.word c.loop-bit.bit holds within c.loop-bit.invariant c.target_holds-holds.result (sym c.target_holds-holds.ensures))

pub returns : goal.returns
returns c = λ k h. c.loop-bit.invariant.below k (omega arith)
