use Rattle.std.proofs.Common.{◌≡◌, drop}
use Rattle.rx_units.specs.Quoted.Fronts.{digits_at}
use Rattle.rx_units.proofs.quoted_text.digits.digits_to_brace.Given as goal

abbrev pub invariant-loop-count : goal.invariant-loop-count
invariant-loop-count l = digits_at l.value l.count (drop l.count l.chars) ≡ digits_at 0 0 l.chars
