use Rattle.std.proofs.Common.{[], codes, map}
use Rattle.rx_ast.specs.MirrorKinds.{mirror_kind}
use Rattle.rx_json.specs.Groups.{names_of, once_after}
use Rattle.rx_json.specs.Values.{list_of, text}
use Rattle.rx_json.proofs.Adding.{adds_one}
use Rattle.rx_json.proofs.Parts.{list_added, member_added}
use Rattle.rx_json.proofs.groups.write_name_list.Goals as goal

pub returns : goal.returns
returns c =
    let names = map text (once_after [] (names_of (map mirror_kind c.args.nodes.now))) in
    member_added (codes "names") (list_of names) (adds_one c.in_ok-key.ensures)
    (list_added names (adds_one c.in_ok-begin_array.ensures) c.in_ok-write_names.ensures (adds_one c.in_ok-end_array.ensures))
