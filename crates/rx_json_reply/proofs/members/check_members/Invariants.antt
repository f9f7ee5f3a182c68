use Rattle.std.proofs.Common.{◌≡◌, [], take, drop}
use Rattle.rx_json_reply.specs.Faults.{wrong_members}
use Rattle.rx_json_reply.specs.Held.{names, pairs}
use Rattle.rx_json_reply.proofs.members.check_members.Given as goal

abbrev pub invariant-loop-index : goal.invariant-loop-index
invariant-loop-index l = wrong_members (names (take l.index l.members)) (pairs (drop l.index l.members)) ≡ wrong_members [] (pairs l.members)
