use Rattle.std.proofs.Common.{take, map}
use Rattle.json.specs.Value.{value_view}
use Rattle.rx_json_reply.specs.Held.{IsWant}
use Rattle.rx_json_reply.specs.Requests.{strings_of}
use Rattle.rx_json_reply.proofs.want.Want.named.Given as goal

abbrev pub invariant-loop-item : goal.invariant-loop-item
invariant-loop-item l = IsWant l.want (strings_of (map value_view (take l.item-index l.items)))
