use Rattle.std.proofs.Common.{◌∙◌, ap, subst, List, OnOk, map}
use Rattle.rx_ast.specs.Kinds.{Kind}
use Rattle.rx_ast.specs.MirrorKinds.{mirror_kind}
use Rattle.rx_json.specs.Adding.{Adds}
use Rattle.rx_json.specs.Groups.{groups_fields}
use Rattle.rx_json.specs.Located.{located}
use Rattle.rx_json.specs.Values.{field_tokens}
use Rattle.rx_json.proofs.groups.write_groups.Goals as goal

pub returns : goal.returns
returns c =
    let written = c.write_groups_among in
    subst (λ (ks : List Kind). OnOk written.result (Adds c.args.writer.now written.new.writer (field_tokens (groups_fields (located c.args.places.now) ks)))) (ap (map mirror_kind) c.as_slice.ensures ∙ c.in_ok-list.ensures)
    written.ensures
