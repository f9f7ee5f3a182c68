use Rattle.std.proofs.Common.{◌≡◌, ◌++◌, ◌-◌}
use Rattle.rx_run.specs.Generator.{pieces_text, state_after}
use Rattle.rx_run.proofs.generator.Draws.add_pieces.Given as goal

abbrev pub invariant-loop : goal.invariant-loop
invariant-loop l = record {
  text : l.text ++ pieces_text (l.count - l.counter) l.self.state ≡ l.fn.text ++ pieces_text l.count l.fn.self.state;
  state : state_after (l.count - l.counter) l.self.state ≡ state_after l.count l.fn.self.state;
}
