use Rattle.rx_match_reply.proofs.Slots.{slots_more}
use Rattle.rx_match_reply.proofs.found.add_later_slots.Goals as goal

pub loop-slot-preserved : goal.loop-slot-preserved
loop-slot-preserved c =
    slots_more c.args.slots.now c.loop-slot.slot-index _ _ c.loop-slot.bytes c.extend_from_slice.new.self c.add_slot.new.bytes
    c.loop-slot-test.true c.loop-slot.invariant c.in_ok-extend_from_slice.ensures.ok c.in_ok-add_slot.ensures
