use Rattle.std.proofs.Common.{ap, ◌∙◌, ◌++◌, ◌∷◌, []}
use Rattle.rx_match.specs.declared.entry.Backtrack.TheVariants as backtrack
use Rattle.rx_match.proofs.Machines.{takes_choose}
use Rattle.rx_match.proofs.machine.Machine.choose.Goals as goal

pub returns : goal.returns
returns c = takes_choose c.args.self.now c.args.first c.args.other c.push.new.self c.requires (c.in_ok-push.ensures.ok ∙ ap (λ k. c.args.self.now.entries ++ (backtrack.Choice c.args.self.now.place 0 c.args.other c.args.self.now.head k ∷ [])) c.len-frames.ensures)
