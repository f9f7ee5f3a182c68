use Rattle.std.proofs.Common.{sym, ◌∙◌, subst, ◌-◌, length, refl, arith}
use Rattle.rx_match.specs.declared.machine.Action.TheVariants as action
use Rattle.rx_match.specs.declared.entry.Backtrack.TheVariants as backtrack
use Rattle.rx_match.specs.MachineSteps.{Resumes, with_entry}
use Rattle.rx_match.proofs.Entries.{look_around-placed}
use Rattle.rx_match.proofs.Ends.{depth_lower, resumes_unmatched, resumes_unmatched_not}
use Rattle.rx_match.proofs.machine.Machine.end_look_around.Goals as goal

pub overflow_sub-self : goal.overflow_sub-self
overflow_sub-self c = let i = c.args.it in let lower = depth_lower c.args.self.now i.place i.kind i.next i.head i.frames i.back c.requires in omega arith

pub return_to-requires : goal.return_to-requires
return_to-requires c =
    let i = c.args.it in
    let m = c.args.self.now in
    (look_around-placed (length m.input.now) (length m.frames) i.place i.kind i.next i.head i.frames i.back (with_entry m (backtrack.LookAround i.place i.kind i.next i.head i.frames i.back)).entries m.entries refl c.requires.placed).2

pub returns-then-is_negative : goal.returns-then-is_negative
returns-then-is_negative c =
    let i = c.args.it in
    let m = c.args.self.now in
    subst (λ x. Resumes m (backtrack.LookAround i.place i.kind i.next i.head i.frames i.back) (record x { step = i.next }) action.Step) (sym c.return_to.ensures)
    (resumes_unmatched_not m i.place i.kind i.next i.head i.frames i.back (m.depth - 1) c.requires (depth_lower m i.place i.kind i.next i.head i.frames i.back c.requires) (sym c.is_negative.ensures ∙ c.if-is_negative.true))

pub returns : goal.returns
returns c =
    let i = c.args.it in
    let m = c.args.self.now in
    resumes_unmatched m i.place i.kind i.next i.head i.frames i.back (m.depth - 1) c.requires (depth_lower m i.place i.kind i.next i.head i.frames i.back c.requires) (sym c.is_negative.ensures ∙ c.if-is_negative.false)
