use Rattle.std.proofs.Common.{◌≡◌, ◌++◌, drop}
use Rattle.rx_match_reply.specs.Found.{later_slots_text}
use Rattle.rx_match_reply.proofs.found.add_later_slots.Given as goal

abbrev pub invariant-loop-slot : goal.invariant-loop-slot
invariant-loop-slot l = l.bytes ++ later_slots_text (drop l.slot-index l.slots) ≡ l.fn.bytes ++ later_slots_text l.slots
