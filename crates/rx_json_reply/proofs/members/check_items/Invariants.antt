use Rattle.std.proofs.Common.{◌≡◌, drop, map}
use Rattle.json.specs.Value.{value_view}
use Rattle.rx_json_reply.specs.Faults.{wrong_item}
use Rattle.rx_json_reply.specs.Wrongs.{first_wrong}
use Rattle.rx_json_reply.proofs.members.check_items.Given as goal

abbrev pub invariant-loop-item : goal.invariant-loop-item
invariant-loop-item l = first_wrong (map (λ it. wrong_item (value_view it)) (drop l.item-index l.items)) ≡ first_wrong (map (λ it. wrong_item (value_view it)) l.items)
