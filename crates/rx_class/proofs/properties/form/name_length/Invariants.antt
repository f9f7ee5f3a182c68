use Rattle.std.proofs.Common.{◌≡◌, ◌+◌, ◌-◌, ◌≤◌, length, drop}
use Rattle.rx_class.proofs.Common.{prefix_len, is_unicode_property_name_character}
use Rattle.rx_class.proofs.properties.form.name_length.Given as goal

abbrev pub invariant-loop-length : goal.invariant-loop-length
invariant-loop-length g l =
    (prefix_len (λ u. is_unicode_property_name_character u.value) l.units ≡ l.length + prefix_len (λ x. is_unicode_property_name_character (g.U.Unit.value x)) (drop l.length l.items))
    × (l.length ≤ length l.items) × (g.C.Counter.count l.steps ≡ g.C.Counter.count l.fn.steps + l.length)

abbrev pub decreases-loop-length : goal.decreases-loop-length
decreases-loop-length g l = length l.items - l.length
