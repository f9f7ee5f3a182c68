use Rattle.std.proofs.Common.{◌∙◌, sym, ap, Bool, ◌||◌}
use Rattle.rx_json_reply.specs.Wants.{is_feature}
use Rattle.rx_json_reply.proofs.Asking.{found_is, no_part}
use Rattle.rx_json_reply.proofs.want.can_be_asked.Goals as goal

pub returns-in_default : goal.returns-in_default
returns-in_default c =
    let name = c.args.name.now in
    let d = c.in_default in
    c.is_some.ensures ∙ found_is name c.from_name.result c.from_name.ensures
    ∙ sym (ap (λ (b : Bool). b || is_feature name) (no_part name d.not-spelling d.not-groups d.not-tree d.not-display))
