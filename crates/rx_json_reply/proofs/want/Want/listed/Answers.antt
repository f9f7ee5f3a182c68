use Rattle.std.proofs.Common.{◌≡◌, ◌∙◌, sym, ap, subst, map}
use Rattle.json.specs.Json.{Json, array}
use Rattle.json.specs.Value.{items_view, value_view}
use Rattle.json.proofs.Trees.{view-Array}
use Rattle.rx_json_reply.specs.Faults.{items_in}
use Rattle.rx_json_reply.specs.Held.{IsWant}
use Rattle.rx_json_reply.specs.Requests.{strings_of}
use Rattle.rx_json_reply.proofs.Checked.{item_list-view}
use Rattle.rx_json_reply.proofs.want.Want.listed.Goals as goal

pub returns-in-Array : goal.returns-in-Array
returns-in-Array c =
    let items = c.in-Array.items in
    let is : value_view c.args.list.now ≡ array (items_view items.items) = ap value_view c.in-Array.is ∙ view-Array items in
    let named : strings_of (map value_view c.as_slice.result.now) ≡ strings_of (items_in (value_view c.args.list.now)) =
    ap (λ vs. strings_of (map value_view vs)) c.as_slice.ensures.value ∙ ap strings_of (sym (item_list-view items.items)) ∙ ap (λ (j : Json). strings_of (items_in j)) (sym is) in
    subst (IsWant c.named.result) named c.named.ensures
