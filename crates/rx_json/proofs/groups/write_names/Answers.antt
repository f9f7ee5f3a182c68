use Rattle.std.proofs.Common.{◌∙◌, ◌+◌, ap, sym, subst, List, [], ◌∷◌, drop, map}
use Rattle.std.proofs.lemmas.List.{at_drop_all, at_drop_more}
use Rattle.rx_ast.specs.declared.ast_kind.RegExpAstKind.{RegExpAstKind}
use Rattle.rx_ast.specs.Kinds.{Kind}
use Rattle.rx_ast.specs.MirrorKinds.{mirror_kind}
use Rattle.std.specs.Option.{option_copied}
use Rattle.rx_json.proofs.Adding.{adds_one}
use Rattle.rx_json.proofs.GroupsTold.{Telling, names_left, telling_again, telling_is, telling_new, telling_none, unchanged, was_missing, was_there}
use Rattle.rx_json.proofs.Names.{names_none}
use Rattle.rx_json.proofs.Parts.{front_all, front_none, text_added}
use Rattle.rx_json.proofs.groups.write_names.Goals as goal
use Rattle.rx_json.proofs.groups.write_names.Goals.{in-Some+in_ok-insert-in-Some+then-branch+in_ok-string-in-Some, in-Some+in_ok-insert-in-Some+else-branch, in-None}

pub loop-node-init : goal.loop-node-init
loop-node-init c = ([], names_none c.new-names.result c.new-names.ensures.empty, front_none c.args.writer.now (names_left [] (map mirror_kind c.args.nodes.now)))

pub loop-node-preserved : goal.loop-node-preserved
loop-node-preserved c =
    let nodes = c.args.nodes.now in
    let i = c.loop-node.node-index in
    let node = c.node-item.result in
    let k = mirror_kind node in
    let ks = map mirror_kind (drop (i + 1) nodes) in
    let all = names_left [] (map mirror_kind nodes) in
    let cut = at_drop_more (map mirror_kind) nodes i node c.loop-node-test.true ∙ ap (λ (x : RegExpAstKind). mirror_kind x ∷ ks) (sym c.node-item.is) in
    let so_far = subst (λ (left : List Kind). Telling c.args.writer.now c.loop-node.writer c.loop-node.names all left) cut c.loop-node.invariant in
    elim c.match-found.branch [
      | in-Some+in_ok-insert-in-Some+then-branch+in_ok-string-in-Some w ↦
          let name = w.in-Some.name in
          let some = sym c.name_in-found.ensures ∙ ap option_copied w.in-Some.is in
          telling_is all ks w.writer-is w.names-is
          (telling_new _ _ _ _ _ all k ks w.as_str.result name.now some w.as_str.ensures w.as_str.utf8 (was_missing _ _ w.in_ok-insert-in-Some.ensures.added w.if-branch.true) w.in_ok-insert-in-Some.ensures.updates
          (text_added name.now w.as_str-then-branch.utf8 w.as_str-then-branch.ensures (adds_one w.in_ok-string-in-Some.ensures)) so_far)
      | in-Some+in_ok-insert-in-Some+else-branch w ↦
          let name = w.in-Some.name in
          let some = sym c.name_in-found.ensures ∙ ap option_copied w.in-Some.is in
          telling_is all ks w.writer-is w.names-is
          (telling_again _ _ _ _ all k ks w.as_str.result name.now some w.as_str.ensures w.as_str.utf8 (was_there _ _ w.in_ok-insert-in-Some.ensures.added w.if-branch.false) (unchanged _ _ w.if-branch.false w.in_ok-insert-in-Some.ensures.unchanged) so_far)
      | in-None w ↦
          telling_is all ks w.writer-is w.names-is (telling_none _ _ _ all k ks (sym c.name_in-found.ensures ∙ ap option_copied w.in-None.is) so_far)
    ]

pub returns : goal.returns
returns c =
    let seen = c.loop-node.invariant.0 in
    front_all (at_drop_all (λ (nodes : List RegExpAstKind). names_left seen (map mirror_kind nodes)) c.args.nodes.now c.loop-node.node-index c.loop-node-test.false) c.loop-node.invariant.2
