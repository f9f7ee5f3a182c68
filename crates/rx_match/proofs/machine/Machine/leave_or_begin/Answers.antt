use Rattle.std.proofs.Common.{◌∙◌, ap, ◌++◌, ◌∷◌, []}
use Rattle.rx_match.specs.declared.entry.Backtrack.TheVariants as backtrack
use Rattle.rx_match.proofs.RepetitionTurns.{takes_lazy}
use Rattle.rx_match.proofs.machine.Machine.leave_or_begin.Goals as goal

pub returns : goal.returns
returns c =
    let m = c.args.self.now in
    takes_lazy m c.args.it.repeat c.args.it.parts.turns c.args.it.parts.body c.args.it.parts.next c.args.it.min c.args.it.max c.requires.stands.sound c.requires.stands.step c.push.new.self c.requires.free.allowed c.requires.free.not_owed c.requires.lazy
    (c.in_ok-push.ensures.ok ∙ ap (λ k. m.entries ++ (backtrack.Turn m.place c.args.it.repeat c.args.it.min c.args.it.max m.head k ∷ [])) c.len-frames.ensures)
