use Rattle.std.proofs.Common.{◌≤◌, ◌+◌, drop, map}
use Rattle.rx_ast.specs.MirrorKinds.{mirror_kind}
use Rattle.rx_json.proofs.Parts.{AddsFront}
use Rattle.rx_json.specs.Groups.{groups_of}
use Rattle.rx_json.specs.Located.{located}
use Rattle.rx_json.specs.Values.{value_tokens}
use Rattle.rx_json.proofs.groups.write_each_group.Given as goal

abbrev pub invariant-loop-node : goal.invariant-loop-node
invariant-loop-node l = record {
  written : AddsFront l.fn.writer l.writer (value_tokens (groups_of (located l.places) 1 (map mirror_kind l.nodes))) (value_tokens (groups_of (located l.places) l.number (map mirror_kind (drop l.node-index l.nodes))));
  few : l.number ≤ l.node-index + 1;
}
