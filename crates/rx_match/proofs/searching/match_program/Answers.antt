use Rattle.std.proofs.Common.{ap, sym, ◌∙◌, subst, ◌<◌, Some, length, arith}
use Rattle.rx_trace.specs.declared.answer.Found.{Found}
use Rattle.rx_match.specs.declared.machine.Progress.TheVariants as progress
use Rattle.rx_match.specs.Programs.{trace_of, IsRunFrom}
use Rattle.rx_program.specs.Steps.{AreOrdered}
use Rattle.rx_match.proofs.Starts.{ran_here}
use Rattle.rx_trace.proofs.Places.{Searches, searches_none, searches_on, searched_all, searched_found, searched_spent}
use Rattle.rx_match.proofs.searching.match_program.Goals as goal

pub loop-machine-init : goal.loop-machine-init
loop-machine-init c =
    let from = trace_of c.args.attempts.input.now c.args.program.now c.args.entry c.args.groups in
    let made = c.new-machine.ensures in
    record {
      input = made.input;
      program = made.program;
      searches = subst (λ left. Searches from c.args.attempts.start c.args.attempts.last c.args.attempts.budget c.args.attempts.start left) (sym made.budget) (searches_none from c.args.attempts.start c.args.attempts.last c.args.attempts.budget c.requires.start);
    }

pub run_from-requires-clause-ordered : goal.run_from-requires-clause-ordered
run_from-requires-clause-ordered c = subst AreOrdered (sym c.loop-machine.invariant.program) c.requires.ordered

pub run_from-requires-clause-within : goal.run_from-requires-clause-within
run_from-requires-clause-within c =
    let e = ap length c.loop-machine.invariant.input in
    let w = c.loop-machine.invariant.searches.within in
    let l = c.requires.last in
    omega arith

pub overflow_add-place : goal.overflow_add-place
overflow_add-place c =
    let w = c.loop-machine.invariant.searches.within in
    omega arith

pub overflow_sub-ticks : goal.overflow_sub-ticks
overflow_sub-ticks c =
    let from = trace_of c.args.attempts.input.now c.args.program.now c.args.entry c.args.groups in
    let ran = ran_here c.loop-machine.machine c.run_from.new.self c.args.attempts.input.now c.args.program.now c.args.entry c.args.groups c.loop-machine.place progress.Match c.loop-machine.invariant.input c.loop-machine.invariant.program
    (subst (IsRunFrom c.loop-machine.machine c.run_from.new.self (trace_of c.loop-machine.machine.input.now c.loop-machine.machine.program.now c.args.entry c.args.groups c.loop-machine.place)) c.in-Match.is c.in_ok-run_from.ensures) in
    let found = searched_found from c.args.attempts.start c.args.attempts.last c.args.attempts.budget c.loop-machine.place c.loop-machine.machine.budget c.loop-machine.invariant.searches _ _ ran.0 ran.1 in
    let paid = found.2 in
    omega arith

pub returns-in-Match : goal.returns-in-Match
returns-in-Match c =
    let from = trace_of c.args.attempts.input.now c.args.program.now c.args.entry c.args.groups in
    let ran = ran_here c.loop-machine.machine c.run_from.new.self c.args.attempts.input.now c.args.program.now c.args.entry c.args.groups c.loop-machine.place progress.Match c.loop-machine.invariant.input c.loop-machine.invariant.program
    (subst (IsRunFrom c.loop-machine.machine c.run_from.new.self (trace_of c.loop-machine.machine.input.now c.loop-machine.machine.program.now c.args.entry c.args.groups c.loop-machine.place)) c.in-Match.is c.in_ok-run_from.ensures) in
    let found = searched_found from c.args.attempts.start c.args.attempts.last c.args.attempts.budget c.loop-machine.place c.loop-machine.machine.budget c.loop-machine.invariant.searches _ _ ran.0 ran.1 in
    let paid = found.2 in
    ((found.0 ∙ ap (λ (f : Found). Some (record { place = f.end; slots = f.groups })) (sym c.match_from.ensures), ap (λ (f : Found). f.start) c.match_from.ensures ∙ found.1, omega arith), omega arith)

pub returns-in-Spent : goal.returns-in-Spent
returns-in-Spent c =
    let from = trace_of c.args.attempts.input.now c.args.program.now c.args.entry c.args.groups in
    let ran = ran_here c.loop-machine.machine c.run_from.new.self c.args.attempts.input.now c.args.program.now c.args.entry c.args.groups c.loop-machine.place progress.Spent c.loop-machine.invariant.input c.loop-machine.invariant.program
    (subst (IsRunFrom c.loop-machine.machine c.run_from.new.self (trace_of c.loop-machine.machine.input.now c.loop-machine.machine.program.now c.args.entry c.args.groups c.loop-machine.place)) c.in-Spent.is c.in_ok-run_from.ensures) in
    searched_spent from c.args.attempts.start c.args.attempts.last c.args.attempts.budget c.loop-machine.place c.loop-machine.machine.budget c.loop-machine.invariant.searches ran

pub overflow_sub-ticks-then-place-attempts : goal.overflow_sub-ticks-then-place-attempts
overflow_sub-ticks-then-place-attempts c =
    let from = trace_of c.args.attempts.input.now c.args.program.now c.args.entry c.args.groups in
    let ran = ran_here c.loop-machine.machine c.run_from.new.self c.args.attempts.input.now c.args.program.now c.args.entry c.args.groups c.loop-machine.place progress.NoMatch c.loop-machine.invariant.input c.loop-machine.invariant.program
    (subst (IsRunFrom c.loop-machine.machine c.run_from.new.self (trace_of c.loop-machine.machine.input.now c.loop-machine.machine.program.now c.args.entry c.args.groups c.loop-machine.place)) c.in-NoMatch.is c.in_ok-run_from.ensures) in
    let none = searched_all from c.args.attempts.start c.args.attempts.last c.args.attempts.budget c.loop-machine.place c.loop-machine.machine.budget c.loop-machine.invariant.searches _ c.if-place-attempts.true ran.0 ran.1 in
    let paid = none.1 in
    omega arith

pub returns-then-place-attempts : goal.returns-then-place-attempts
returns-then-place-attempts c =
    let from = trace_of c.args.attempts.input.now c.args.program.now c.args.entry c.args.groups in
    let ran = ran_here c.loop-machine.machine c.run_from.new.self c.args.attempts.input.now c.args.program.now c.args.entry c.args.groups c.loop-machine.place progress.NoMatch c.loop-machine.invariant.input c.loop-machine.invariant.program
    (subst (IsRunFrom c.loop-machine.machine c.run_from.new.self (trace_of c.loop-machine.machine.input.now c.loop-machine.machine.program.now c.args.entry c.args.groups c.loop-machine.place)) c.in-NoMatch.is c.in_ok-run_from.ensures) in
    let none = searched_all from c.args.attempts.start c.args.attempts.last c.args.attempts.budget c.loop-machine.place c.loop-machine.machine.budget c.loop-machine.invariant.searches _ c.if-place-attempts.true ran.0 ran.1 in
    let paid = none.1 in
    ((none.0, omega arith), omega arith)

pub loop-machine-preserved : goal.loop-machine-preserved
loop-machine-preserved c =
    let from = trace_of c.args.attempts.input.now c.args.program.now c.args.entry c.args.groups in
    let ran = ran_here c.loop-machine.machine c.run_from.new.self c.args.attempts.input.now c.args.program.now c.args.entry c.args.groups c.loop-machine.place progress.NoMatch c.loop-machine.invariant.input c.loop-machine.invariant.program
    (subst (IsRunFrom c.loop-machine.machine c.run_from.new.self (trace_of c.loop-machine.machine.input.now c.loop-machine.machine.program.now c.args.entry c.args.groups c.loop-machine.place)) c.in-NoMatch.is c.in_ok-run_from.ensures) in
    let w = c.loop-machine.invariant.searches.within in
    let before : c.loop-machine.place < c.args.attempts.last = omega arith in
    record {
      input = ap (λ i. i.now) ran.2 ∙ c.loop-machine.invariant.input;
      program = ap (λ p. p.now) ran.3 ∙ c.loop-machine.invariant.program;
      searches = searches_on from c.args.attempts.start c.args.attempts.last c.args.attempts.budget c.loop-machine.place c.loop-machine.machine.budget c.loop-machine.invariant.searches _ before ran.0 ran.1;
    }

pub loop-machine-smaller : goal.loop-machine-smaller
loop-machine-smaller c =
    let w = c.loop-machine.invariant.searches.within in
    omega arith

pub unreachable-requires : goal.unreachable-requires
unreachable-requires c =
    subst (IsRunFrom c.loop-machine.machine c.run_from.new.self (trace_of c.loop-machine.machine.input.now c.loop-machine.machine.program.now c.args.entry c.args.groups c.loop-machine.place)) c.in-Continue.is c.in_ok-run_from.ensures
