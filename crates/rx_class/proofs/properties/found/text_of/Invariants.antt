use Rattle.std.proofs.Common.{◌≡◌, ◌+◌, ◌-◌, ◌≤◌, length, take}
use Rattle.rx_units.specs.Stored.{values_of}
use Rattle.rx_class.proofs.properties.found.text_of.Given as goal

abbrev pub invariant-loop-place : goal.invariant-loop-place
invariant-loop-place g l =
    (l.text ≡ values_of g.U.Unit.value (take l.place l.items)) × (l.place ≤ length l.items) × (g.C.Counter.count l.steps ≡ g.C.Counter.count l.fn.steps + l.place)

abbrev pub decreases-loop-place : goal.decreases-loop-place
decreases-loop-place g l = length l.items - l.place
