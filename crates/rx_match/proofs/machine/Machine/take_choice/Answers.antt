use Rattle.std.proofs.Common.{◌≡◌, refl, ap, sym, ◌∙◌, subst, length}
use Rattle.rx_match.specs.declared.machine.Action.TheVariants as action
use Rattle.rx_match.specs.declared.entry.Backtrack.TheVariants as backtrack
use Rattle.rx_match.specs.MachineSteps.{Resumes, return_machine, with_earlier, with_entry}
use Rattle.rx_match.proofs.Entries.{choice-placed}
use Rattle.rx_match.proofs.Ends.{resumes_choice}
use Rattle.rx_match.proofs.machine.Machine.take_choice.Goals as goal

pub return_to-requires : goal.return_to-requires
return_to-requires c =
    let m = c.args.self.now in
    let a = c.args in
    let p = a.places in
    (choice-placed (length m.input.now) (length m.frames) p.place p.earlier a.step a.head a.frames (with_entry m (backtrack.Choice p.place p.earlier a.step a.head a.frames)).entries m.entries refl c.requires.placed).2

pub leave_earlier-requires : goal.leave_earlier-requires
leave_earlier-requires c =
    let m = c.args.self.now in
    let a = c.args in
    let p = a.places in
    (choice-placed (length m.input.now) (length m.frames) p.place p.earlier a.step a.head a.frames (with_entry m (backtrack.Choice p.place p.earlier a.step a.head a.frames)).entries m.entries refl c.requires.placed).0.1

pub returns : goal.returns
returns c =
    let m = c.args.self.now in
    let a = c.args in
    let p = a.places in
    let e = backtrack.Choice p.place p.earlier a.step a.head a.frames in
    let same : c.leave_earlier.new.self ≡ with_earlier (return_machine m p.place a.head a.frames) p.place p.earlier a.step =
    c.in_ok-leave_earlier.ensures ∙ ap (λ x. with_earlier x p.place p.earlier a.step) c.return_to.ensures in
    subst (λ x. Resumes m e (record x { step = a.step }) action.Step) (sym same) (resumes_choice m p.place p.earlier a.step a.head a.frames c.requires)
