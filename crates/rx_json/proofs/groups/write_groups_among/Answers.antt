use Rattle.std.proofs.Common.{[], ◌∷◌, codes, map, List}
use Rattle.rx_ast.specs.MirrorKinds.{mirror_kind}
use Rattle.rx_json.specs.Groups.{groups_of, names_of, once_after}
use Rattle.rx_json.specs.Located.{located}
use Rattle.rx_json.specs.Values.{Field, list_of, text}
use Rattle.rx_json.proofs.Parts.{fields_last}
use Rattle.rx_json.proofs.groups.write_groups_among.Goals as goal

pub returns : goal.returns
returns c =
    let ks = map mirror_kind c.args.nodes.now in
    let groups : List Field = (codes "groups", list_of (groups_of (located c.args.places.now) 1 ks)) ∷ [] in
    let names : List Field = (codes "names", list_of (map text (once_after [] (names_of ks)))) ∷ [] in
    fields_last c.write_name_list.result _ _ _ groups names c.in_ok-write_group_list.ensures c.write_name_list.ensures
