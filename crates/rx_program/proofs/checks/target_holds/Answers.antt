use Rattle.std.proofs.Common.{ap, sym, ◌∙◌, arith}
use Rattle.rx_program.specs.Checks.{target_holds}
use Rattle.rx_program.proofs.Asking.{held-is, not_held-is, past-is, step-is}
use Rattle.rx_program.proofs.checks.target_holds.Goals as goal

pub returns-in-Held : goal.returns-in-Held
returns-in-Held c = sym (c.loop-target.invariant.same ∙ ap (λ t. target_holds c.args.checks.now c.loop-target.below t c.args.c) c.in-Held.is ∙ held-is c.args.checks.now c.args.c c.loop-target.below)

pub returns-in-NotHeld : goal.returns-in-NotHeld
returns-in-NotHeld c = sym (c.loop-target.invariant.same ∙ ap (λ t. target_holds c.args.checks.now c.loop-target.below t c.args.c) c.in-NotHeld.is ∙ not_held-is c.args.checks.now c.args.c c.loop-target.below)

pub returns-then-i-below : goal.returns-then-i-below
returns-then-i-below c =
    sym (c.loop-target.invariant.same ∙ ap (λ t. target_holds c.args.checks.now c.loop-target.below t c.args.c) c.in-Check.is ∙ past-is c.args.checks.now c.args.c c.loop-target.below c.in-Check.i c.if-i-below.true)

pub loop-target-preserved : goal.loop-target-preserved
loop-target-preserved c =
    let below = c.if-i-below.false in
    record {
      within = omega arith;
      same = c.loop-target.invariant.same ∙ ap (λ t. target_holds c.args.checks.now c.loop-target.below t c.args.c) c.in-Check.is
          ∙ step-is c.args.checks.now c.args.c c.loop-target.below c.in-Check.i _ c.target_after-target.result below c.loop-target.invariant.within c.target_after-target.ensures;
    }
