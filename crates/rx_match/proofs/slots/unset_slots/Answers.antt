use Rattle.std.proofs.Common.{refl, ap, ◌∙◌, ◌+◌, set, add-one}
use Rattle.rx_trace.specs.declared.answer.Slot.TheVariants.{Unset}
use Rattle.rx_match.proofs.SavedSlots.{restored_none, restored_then}
use Rattle.rx_match.proofs.slots.unset_slots.Goals as goal

pub loop-k-init : goal.loop-k-init
loop-k-init c = record { slots = refl; restored = restored_none }

pub loop-k-preserved : goal.loop-k-preserved
loop-k-preserved c = record {
  slots = rw add-one (c.in_ok-unset_slot.ensures.slots ∙ ap (λ sl. set sl (c.args.from + c.loop-k.k) Unset) c.loop-k.invariant.slots);
  restored = restored_then c.loop-k.invariant.restored c.in_ok-unset_slot.ensures.restored;
}

pub unset_slot-requires : goal.unset_slot-requires
unset_slot-requires c = (c.requires.0, c.requires.1, c.loop-k.invariant.restored.placed c.requires.0 c.requires.1 c.requires.2)
