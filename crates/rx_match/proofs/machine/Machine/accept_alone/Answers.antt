use Rattle.std.proofs.Common.{◌≡◌, refl, ap, sym, ◌∙◌, subst, suc, ◌-◌, ◌<◌, Some, IsSome, length, take, arith}
use Rattle.std.specs.Prelude.{option_map}
use Rattle.rx_match.specs.declared.machine.Action.TheVariants as action
use Rattle.rx_match.specs.declared.entry.Backtrack.TheVariants as backtrack
use Rattle.rx_program.specs.Codes.{accept}
use Rattle.rx_match.specs.Sound.{ArePlaced, depth_in, entry_of, top_in}
use Rattle.rx_match.specs.MachineSteps.{run_of, run_ahead, TakesMarks}
use Rattle.rx_match.proofs.Cuts.{placed-cut}
use Rattle.rx_match.proofs.Entries.{IsLookAround, top_is}
use Rattle.rx_match.proofs.Ends.{alone, arrived_alone, takes_refused, takes_granted, cuts_frames}
use Rattle.rx_match.proofs.machine.Machine.accept_alone.Goals as goal

pub returns-then-self-eq0 : goal.returns-then-self-eq0
returns-then-self-eq0 c = arrived_alone c.args.self.now (run_of c.args.self.now accept) c.requires.sound c.if-self-eq0.true (alone c.args.self.now c.requires.alone)

pub returns-then-is_negative : goal.returns-then-is_negative
returns-then-is_negative c =
    let b = c.in-Some.it in
    let top : top_in c.args.self.now.entries ≡ Some (backtrack.LookAround b.place b.kind b.next b.head b.frames b.back) = sym c.in_ok-it.ensures.top ∙ ap (option_map entry_of) c.in-Some.is in
    let some : IsSome c.in_ok-it.field-0 = subst IsSome (sym c.in-Some.is) refl in
    let lower : suc (c.args.self.now.depth - 1) ≡ c.args.self.now.depth = omega arith in
    takes_refused c.args.self.now b.place b.kind b.next b.head b.frames b.back c.cut.new.entries (c.args.self.now.depth - 1) c.requires.sound top (c.in_ok-it.ensures.left some) lower
    (run_of c.args.self.now accept) (alone c.args.self.now c.requires.alone) (sym c.is_negative.ensures ∙ c.if-is_negative.true)

pub return_to-requires : goal.return_to-requires
return_to-requires c =
    let b = c.in-Some.it in
    let m = c.args.self.now in
    let top : top_in m.entries ≡ Some (backtrack.LookAround b.place b.kind b.next b.head b.frames b.back) = sym c.in_ok-it.ensures.top ∙ ap (option_map entry_of) c.in-Some.is in
    (placed-cut (length m.input.now) (length m.frames) m.entries b.place b.kind b.next b.head b.frames b.back top c.requires.sound.placed).2

pub returns : goal.returns
returns c =
    let b = c.in-Some.it in
    let m = c.args.self.now in
    let top : top_in m.entries ≡ Some (backtrack.LookAround b.place b.kind b.next b.head b.frames b.back) = sym c.in_ok-it.ensures.top ∙ ap (option_map entry_of) c.in-Some.is in
    let some : IsSome c.in_ok-it.field-0 = subst IsSome (sym c.in-Some.is) refl in
    let lower : suc (m.depth - 1) ≡ m.depth = omega arith in
    let at = placed-cut (length m.input.now) (length m.frames) m.entries b.place b.kind b.next b.head b.frames b.back top c.requires.sound.placed in
    let left = c.in_ok-it.ensures.left some in
    subst (λ x. TakesMarks m (record x { step = b.next }) (run_of m accept) (run_ahead (record x { step = b.next }) action.Step)) (sym c.return_to.ensures)
    (cuts_frames m (record m { entries = c.cut.new.entries; back = b.back; depth = m.depth - 1; place = b.place; step = b.next; head = b.head }) (run_of m accept) action.Step b.frames (take b.frames m.frames)
    (takes_granted m b.place b.kind b.next b.head b.frames b.back c.cut.new.entries (m.depth - 1) c.requires.sound top left lower (run_of m accept) (alone m c.requires.alone) (sym c.is_negative.ensures ∙ c.if-is_negative.false))
    at.2 at.1 (subst (ArePlaced (length m.input.now) b.frames) (sym left) at.3) refl)

pub unreachable-requires : goal.unreachable-requires
unreachable-requires c =
    let m = c.args.self.now in
    let outside = c.if-self-eq0.false in
    let was = c.requires.sound.depth in
    let some : 0 < depth_in m.entries = omega arith in
    subst IsLookAround (sym c.in_ok-it.ensures.top ∙ ap (option_map entry_of) c.in_default.is) (top_is m.entries some)
