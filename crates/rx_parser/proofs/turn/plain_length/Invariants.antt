use Rattle.std.proofs.Common.{◌≡◌, ◌+◌, ◌-◌, ◌≤◌, false, length, drop, take, All}
use Rattle.rx_parser.proofs.Common.{is_syntax_character, CodePoint, HasStepped}
use Rattle.rx_parser.specs.Pace.{plain as plain_count}
use Rattle.rx_parser.proofs.turn.plain_length.Given as goal

abbrev pub invariant-loop-count : goal.invariant-loop-count
invariant-loop-count g l = record {
  within : l.count ≤ length l.units;
  plain : All (λ (unit : CodePoint). is_syntax_character unit.value ≡ false) (take l.count l.units);
  whole : plain_count l.units ≡ l.count + plain_count (drop l.count l.units);
  steps : HasStepped (g.C.Counter.count l.fn.steps) (g.C.Counter.count l.steps) l.count;
}

abbrev pub decreases-loop-count : goal.decreases-loop-count
decreases-loop-count g l = length l.items - l.count
