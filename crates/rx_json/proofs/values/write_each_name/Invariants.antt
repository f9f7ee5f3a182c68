use Rattle.std.proofs.Common.{drop, map}
use Rattle.rx_json.proofs.Parts.{AddsFront}
use Rattle.rx_json.specs.Values.{text, value_tokens}
use Rattle.rx_json.proofs.values.write_each_name.Given as goal

abbrev pub invariant-loop-name : goal.invariant-loop-name
invariant-loop-name l = AddsFront l.fn.writer l.writer (value_tokens (map text l.names)) (value_tokens (map text (drop l.name-index l.names)))
