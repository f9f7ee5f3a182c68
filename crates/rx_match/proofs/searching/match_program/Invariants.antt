use Rattle.std.proofs.Common.{◌≡◌, ◌-◌}
use Rattle.rx_match.specs.Programs.{trace_of}
use Rattle.rx_trace.proofs.Places.{Searches}
use Rattle.rx_match.proofs.searching.match_program.Given as goal

abbrev pub invariant-loop-machine : goal.invariant-loop-machine
invariant-loop-machine l = record {
  input : l.machine.input.now ≡ l.attempts.input.now;
  program : l.machine.program.now ≡ l.fn.program;
  searches : Searches (trace_of l.attempts.input.now l.fn.program l.entry l.groups) l.attempts.start l.attempts.last l.attempts.budget l.place l.machine.budget;
}

abbrev pub decreases-loop-machine : goal.decreases-loop-machine
decreases-loop-machine l = l.attempts.last - l.place
