use Rattle.std.proofs.Common.{◌∙◌, sym, arith}
use Rattle.rx_match.proofs.RepetitionTurns.{takes_over, takes_owed}
use Rattle.rx_match.proofs.machine.Machine.repeat.Goals as goal

pub returns-then-over : goal.returns-then-over
returns-then-over c = takes_over c.args.self.now c.args.it.repeat c.args.it.parts.turns c.args.it.parts.body c.args.it.parts.next c.args.it.min c.args.it.max c.requires.sound c.requires.step (sym c.is_over-over.ensures ∙ c.if-over.true)

pub returns-then-it-gt0 : goal.returns-then-it-gt0
returns-then-it-gt0 c = takes_owed c.args.self.now c.args.it.repeat c.args.it.parts.turns c.args.it.parts.body c.args.it.parts.next c.args.it.min c.args.it.max c.requires.sound c.requires.step (sym c.is_over-over.ensures ∙ c.if-over.false) c.if-it-gt0.true

pub begin_or_leave-requires-clause-free : goal.begin_or_leave-requires-clause-free
begin_or_leave-requires-clause-free c = record { allowed = sym c.is_over-over.ensures ∙ c.if-over.false; not_owed = omega arith }

pub leave_or_begin-requires-clause-free : goal.leave_or_begin-requires-clause-free
leave_or_begin-requires-clause-free c = record { allowed = sym c.is_over-over.ensures ∙ c.if-over.false; not_owed = omega arith }
