use Rattle.std.proofs.Common.{◌≡◌, ◌-◌, length}
use Rattle.rx_parser.proofs.Common.{IsTurnPaced, IsUnderWay, fixed_parts}
use Rattle.rx_parser.proofs.pattern_parser.take_turns.Given as goal

abbrev pub invariant-loop-parse : goal.invariant-loop-parse
invariant-loop-parse g l = record {
  under_way : IsUnderWay l.parse;
  kept : fixed_parts l.parse ≡ fixed_parts l.fn.parse;
  pace : IsTurnPaced (g.C.Counter.count l.fn.steps) (g.C.Counter.count l.steps) l.fn.parse.reader l.parse.reader;
}

abbrev pub decreases-loop-parse : goal.decreases-loop-parse
decreases-loop-parse g l = length l.parse.reader.units - l.parse.reader.place
