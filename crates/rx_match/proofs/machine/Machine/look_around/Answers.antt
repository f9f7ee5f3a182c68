use Rattle.std.proofs.Common.{ap, ◌∙◌, ◌++◌, ◌∷◌, [], refl, arith}
use Rattle.rx_match.specs.declared.entry.Backtrack.TheVariants as backtrack
use Rattle.rx_match.proofs.Entries.{depth-look_around, depth-within}
use Rattle.rx_match.proofs.Machines.{keeps_look}
use Rattle.rx_match.proofs.machine.Machine.look_around.Goals as goal

pub prove-unreachable-requires : goal.prove-unreachable-requires
prove-unreachable-requires c =
    let m = c.args.self.now in
    let deep = depth-look_around _ _ _ _ _ _ c.push.new.self m.entries c.in_ok-push.ensures.ok in
    let within = depth-within c.push.new.self in
    let was = c.requires.depth in
    let size = c.len-entries.ensures in
    let more = c.if-prove.true in
    omega arith

pub returns : goal.returns
returns c = keeps_look c.args.self.now c.args.kind c.args.body c.args.next _ c.looks_back-self.result c.push.new.self c.requires (c.in_ok-push.ensures.ok ∙ ap (λ k. c.args.self.now.entries ++ (backtrack.LookAround c.args.self.now.place c.args.kind c.args.next c.args.self.now.head k c.args.self.now.back ∷ [])) c.len-frames.ensures) c.looks_back-self.ensures refl
