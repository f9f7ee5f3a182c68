use Rattle.std.proofs.Common.{◌∙◌, ap, ◌++◌, ◌∷◌, []}
use Rattle.rx_match.specs.declared.entry.Backtrack.TheVariants as backtrack
use Rattle.rx_match.proofs.RepetitionTurns.{takes_greedy}
use Rattle.rx_match.proofs.machine.Machine.begin_or_leave.Goals as goal

pub returns : goal.returns
returns c =
    let m = c.args.self.now in
    takes_greedy m c.args.it.repeat c.args.it.parts.turns c.args.it.parts.body c.args.it.parts.next c.args.it.min c.args.it.max c.requires.stands.sound c.requires.stands.step c.push.new.self c.requires.free.allowed c.requires.free.not_owed c.requires.greedy
    (c.in_ok-push.ensures.ok ∙ ap (λ k. m.entries ++ (backtrack.Choice m.place 0 c.args.it.parts.next m.head k ∷ [])) c.len-frames.ensures)
