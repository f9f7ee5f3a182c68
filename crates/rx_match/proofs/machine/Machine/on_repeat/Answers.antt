use Rattle.std.proofs.Common.{sym, ◌∙◌}
use Rattle.rx_match.proofs.Steps.{repeats_of, no_repeat_of, takes_no_repeat}
use Rattle.rx_match.proofs.machine.Machine.on_repeat.Goals as goal

pub returns-in_default : goal.returns-in_default
returns-in_default c =
    let m = c.args.self.now in
    takes_no_repeat m c.args.repeat c.args.min c.args.max c.requires (no_repeat_of m c.args.repeat c.requires (sym c.repetition_at.ensures ∙ c.in_default.is))

pub repeat-requires : goal.repeat-requires
repeat-requires c = record { sound = c.requires; step = repeats_of c.args.self.now c.args.repeat c.in-Some.parts c.requires (sym c.repetition_at.ensures ∙ c.in-Some.is) }

pub turns_over_units-requires-clause-stands : goal.turns_over_units-requires-clause-stands
turns_over_units-requires-clause-stands c = record { sound = c.requires; step = repeats_of c.args.self.now c.args.repeat c.in-Some.parts c.requires (sym c.repetition_at.ensures ∙ c.in-Some.is) }
