use Rattle.std.proofs.Common.{refl, sym}
use Rattle.rx_ast.specs.Kinds.{character}
use Rattle.rx_ast.specs.MirrorKinds.{mirror_kind}
use Rattle.rx_records.proofs.Made.{leaf_in_adds}
use Rattle.rx_records.proofs.walk.add_if_leaf.Goals as goal

pub returns-in-Some : goal.returns-in-Some
returns-in-Some c = leaf_in_adds _ _ (mirror_kind c.args.first) (character c.in-Some.it.now) (sym c.in-Some.ensures) refl c.in_ok-add_character.ensures

pub returns : goal.returns
returns c = leaf_in_adds _ _ (mirror_kind c.args.first) (mirror_kind c.node_in-node.result) c.node_in-node.ensures (c.is_leaf.ensures.empty c.if-not-is_leaf.false) c.in_ok-add_leaf.ensures
