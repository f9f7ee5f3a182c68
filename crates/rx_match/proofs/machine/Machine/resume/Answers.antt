use Rattle.std.proofs.Common.{◌≡◌, ap, ◌∙◌, suc, ◌-◌, length, arith, rules, min, set}
use Rattle.rx_trace.specs.declared.answer.Slot.TheVariants.{Set}
use Rattle.rx_match.proofs.machine.Machine.resume.Goals.{else-min-eq0-via-then-min-eq0+else-self-start, else-min-eq0-via-else-min-eq0}
use Rattle.rx_match.proofs.Ends.{takes_next, takes_close, takes_empty, takes_again}
use Rattle.rx_match.proofs.machine.Machine.resume.Goals as goal

pub returns-in-Next : goal.returns-in-Next
returns-in-Next c =
    let top : c.args.self.now.head ≡ suc (c.args.self.now.head - 1) = omega arith in
    takes_next c.args.self.now (c.args.self.now.head - 1) c.args.frame c.in-Next.next c.requires.sound top c.requires.is c.in-Next.is

pub returns-then-self-start : goal.returns-then-self-start
returns-then-self-start c =
    let top : c.args.self.now.head ≡ suc (c.args.self.now.head - 1) = omega arith in
    takes_empty c.args.self.now (c.args.self.now.head - 1) c.args.frame c.in-EndTurn.min c.in-EndTurn.max c.in-EndTurn.start c.in-EndTurn.repeat c.requires.sound top c.requires.is c.in-EndTurn.is c.if-min-eq0.true c.if-self-start.true

pub returns-in_ok-set_slot-in-CloseGroup : goal.returns-in_ok-set_slot-in-CloseGroup
returns-in_ok-set_slot-in-CloseGroup c =
    let top : c.args.self.now.head ≡ suc (c.args.self.now.head - 1) = omega arith in
    takes_close c.args.self.now (c.args.self.now.head - 1) c.args.frame c.in-CloseGroup.group c.in-CloseGroup.start c.in-CloseGroup.next c.set_slot.new.entries c.set_slot.new.slots c.set_slot.new.saved c.requires.sound top c.requires.is c.in-CloseGroup.is
    c.in_ok-set_slot-in-CloseGroup.ensures.restored
    (c.in_ok-set_slot-in-CloseGroup.ensures.slots ∙ ap (λ a. set c.args.self.now.slots.items c.in-CloseGroup.group (Set a c.max.result)) c.min.ensures ∙ ap (λ b. set c.args.self.now.slots.items c.in-CloseGroup.group (Set (min c.in-CloseGroup.start c.args.self.now.place) b)) c.max.ensures)

pub returns-else-min-eq0 : goal.returns-else-min-eq0
returns-else-min-eq0 c =
    let top : c.args.self.now.head ≡ suc (c.args.self.now.head - 1) = omega arith in
    let on : (c.in-EndTurn.min ≡ 0) → (c.args.self.now.place ≡ c.in-EndTurn.start) → ⊥ = elim c.else-min-eq0.branch [ else-min-eq0-via-then-min-eq0+else-self-start w ↦ λ none same. w.if-self-start.false same | else-min-eq0-via-else-min-eq0 w ↦ λ none same. w.if-min-eq0.false none ] in
    let less : c.saturating_sub.result ≡ c.in-EndTurn.min - 1 = search rules in
    takes_again c.args.self.now (c.args.self.now.head - 1) c.args.frame c.in-EndTurn.min c.in-EndTurn.max c.in-EndTurn.start c.in-EndTurn.repeat c.requires.sound top c.requires.is c.in-EndTurn.is c.saturating_sub.result c.one_less.result on less c.one_less.ensures

pub set_slot-requires : goal.set_slot-requires
set_slot-requires c = let m = c.args.self.now in (length m.input.now, length m.frames, c.requires.sound.placed)
