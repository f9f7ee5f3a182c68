use Rattle.std.proofs.Common.{codes, map}
use Rattle.rx_ast.specs.MirrorKinds.{mirror_kind}
use Rattle.rx_json.specs.Groups.{groups_of}
use Rattle.rx_json.specs.Located.{located}
use Rattle.rx_json.specs.Values.{list_of}
use Rattle.rx_json.proofs.Adding.{adds_one}
use Rattle.rx_json.proofs.Parts.{list_added, member_added}
use Rattle.rx_json.proofs.groups.write_group_list.Goals as goal

pub returns : goal.returns
returns c =
    let groups = groups_of (located c.args.places.now) 1 (map mirror_kind c.args.nodes.now) in
    member_added (codes "groups") (list_of groups) (adds_one c.in_ok-key.ensures)
    (list_added groups (adds_one c.in_ok-begin_array.ensures) c.in_ok-write_each_group.ensures (adds_one c.in_ok-end_array.ensures))
