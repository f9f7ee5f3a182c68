use Rattle.std.proofs.Common.{refl, sym, subst, length}
use Rattle.rx_match.specs.declared.machine.Action.TheVariants as action
use Rattle.rx_match.specs.declared.entry.Backtrack.TheVariants as backtrack
use Rattle.rx_match.specs.MachineSteps.{IsSound, KeepsBacktracking, Resumes, with_entry}
use Rattle.rx_match.proofs.Entries.{turn-placed}
use Rattle.rx_match.proofs.Ends.{keeps_itself, same_restored, resumes_turn}
use Rattle.rx_match.proofs.machine.Machine.take_up.Goals as goal

pub returns-in-RestoreSlot : goal.returns-in-RestoreSlot
returns-in-RestoreSlot c =
    let m = c.args.self.now in
    let b = c.in-RestoreSlot in
    let e = backtrack.RestoreSlot b.slot b.old b.frames b.row in
    let sound = subst (λ x. IsSound (with_entry m x)) b.is c.requires in (
      subst (λ x. KeepsBacktracking (with_entry m x) (record m { slots = c.restore_slot.new.slots })) (sym b.is)
          (same_restored (with_entry m e) (with_entry m e) m.entries c.restore_slot.new.slots b.slot b.old b.frames b.row (keeps_itself (with_entry m e) sound) refl c.restore_slot.ensures),
      refl,
    )

pub return_to-requires : goal.return_to-requires
return_to-requires c =
    let m = c.args.self.now in
    let b = c.in-Turn in
    let e = backtrack.Turn b.place b.repeat b.min b.max b.head b.frames in
    let sound = subst (λ x. IsSound (with_entry m x)) b.is c.requires in
    (turn-placed (length m.input.now) (length m.frames) b.place b.repeat b.min b.max b.head b.frames (with_entry m e).entries m.entries refl sound.placed).2

pub returns-in-Turn : goal.returns-in-Turn
returns-in-Turn c =
    let m = c.args.self.now in
    let b = c.in-Turn in
    let e = backtrack.Turn b.place b.repeat b.min b.max b.head b.frames in
    let sound = subst (λ x. IsSound (with_entry m x)) b.is c.requires in
    subst (λ x. Resumes m x c.return_to.new.self (action.BeginTurn b.repeat b.min b.max)) (sym b.is)
    (subst (λ x. Resumes m e x (action.BeginTurn b.repeat b.min b.max)) (sym c.return_to.ensures) (resumes_turn m b.place b.repeat b.min b.max b.head b.frames sound))
