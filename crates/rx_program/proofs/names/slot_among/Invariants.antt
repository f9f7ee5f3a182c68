use Rattle.std.proofs.Common.{◌≡◌, drop}
use Rattle.rx_program.specs.Named.{slot_among}
use Rattle.rx_program.proofs.names.slot_among.Given as goal

abbrev pub invariant-loop-number : goal.invariant-loop-number
invariant-loop-number l = slot_among l.numbers l.slots ≡ slot_among (drop l.number-index l.numbers) l.slots
