use Rattle.std.proofs.Common.{◌≡◌, ◌∙◌, sym, ap, map}
use Rattle.json.specs.Json.{array}
use Rattle.json.specs.Value.{items_view, value_view}
use Rattle.json.proofs.Trees.{view-Array}
use Rattle.rx_json_reply.specs.declared.field.Field.TheVariants.{Want}
use Rattle.rx_json_reply.specs.Faults.{wrong_item, wrong_value}
use Rattle.rx_json_reply.specs.Wrongs.{first_wrong}
use Rattle.rx_json_reply.proofs.Checked.{items_wrong}
use Rattle.rx_json_reply.proofs.members.check_want.Goals as goal

pub returns-in-Array : goal.returns-in-Array
returns-in-Array c =
    let items = c.in-Array.items in
    let is : value_view c.args.value.now ≡ array (items_view items.items) = ap value_view c.in-Array.is ∙ view-Array items in
    c.check_items.ensures
    ∙ ap (λ vs. first_wrong (map (λ it. wrong_item (value_view it)) vs)) c.as_slice.ensures.value
    ∙ sym (items_wrong items.items)
    ∙ ap (wrong_value Want) (sym is)
