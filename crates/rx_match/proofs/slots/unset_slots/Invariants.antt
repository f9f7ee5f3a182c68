use Rattle.std.proofs.Common.{◌≡◌}
use Rattle.rx_trace.specs.Groups.{unset_slots as unset_all}
use Rattle.rx_match.specs.SavedSlots.{IsRestored}
use Rattle.rx_match.proofs.slots.unset_slots.Given as goal

abbrev pub invariant-loop-k : goal.invariant-loop-k
invariant-loop-k l = record { slots : l.slots.items ≡ unset_all l.from l.k l.fn.slots.items; restored : IsRestored l.fn.entries l.fn.slots.items l.entries l.slots.items }
