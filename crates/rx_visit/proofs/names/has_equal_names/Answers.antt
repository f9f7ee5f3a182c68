use Rattle.std.proofs.Common.{◌∙◌, ◌+◌, ◌++◌, [], ◌∷◌, ap, append_assoc, drop, map, not, subst, sym, take, Some}
use Rattle.std.specs.Option.{option_map}
use Rattle.std.proofs.Math.Bool.{not-not}
use Rattle.std.proofs.lemmas.List.{map-append, take-append-drop, take_all}
use Rattle.rx_ast.specs.MirrorKinds.{mirror_kind}
use Rattle.rx_visit.specs.Names.{has_equal_names}
use Rattle.rx_visit.proofs.Named.{Holds, holds_named, holds_unnamed, none_equal, second_found}
use Rattle.rx_visit.proofs.Walks.{taken}
use Rattle.rx_visit.proofs.names.has_equal_names.Goals as goal
use Rattle.rx_visit.proofs.names.has_equal_names.Goals.{in-Some+in_ok-insert+else-not-branch, in_default}

pub returns-then-not-branch : goal.returns-then-not-branch
returns-then-not-branch c =
    let nodes = c.args.nodes.now in
    let i = c.loop-node.node-index in
    let node = c.node-item.result in
    let before = map mirror_kind (take i nodes) in
    let one_more = taken mirror_kind nodes i node c.loop-node-test.true c.node-item.is in
    let following = map mirror_kind (drop (i + 1) nodes) in
    let cut = ap (map mirror_kind) (sym (take-append-drop (i + 1) nodes)) ∙ map-append mirror_kind _ _ ∙ ap (λ ks. ks ++ following) one_more ∙ append_assoc before (mirror_kind node ∷ []) following in
    let named = sym c.name_of.ensures ∙ ap (option_map (λ name. name.now)) c.in-Some.is ∙ ap (λ name. Some name) (sym c.as_str.ensures) in
    let present = sym (not-not _) ∙ ap not (sym c.in_ok-insert.ensures.added ∙ c.if-not-branch.true) in
    sym (ap has_equal_names cut ∙ second_found before following (mirror_kind node) c.as_str.result named c.as_str.utf8 present c.loop-node.invariant)

pub loop-node-preserved : goal.loop-node-preserved
loop-node-preserved c =
    let node = c.node-item.result in
    let so_far = map mirror_kind (take (c.loop-node.node-index + 1) c.args.nodes.now) in
    let one_more = taken mirror_kind c.args.nodes.now c.loop-node.node-index node c.loop-node-test.true c.node-item.is in
    elim c.match-name_of.branch [
      | in-Some+in_ok-insert+else-not-branch w ↦
          let named = sym c.name_of.ensures ∙ ap (option_map (λ name. name.now)) w.in-Some.is ∙ ap (λ name. Some name) (sym w.as_str.ensures) in
          let absent = sym (not-not _) ∙ ap not (sym w.in_ok-insert.ensures.added ∙ w.if-not-branch.false) in
          subst (λ names. Holds names so_far) (sym w.names-is) (holds_named (mirror_kind node) w.as_str.result one_more named w.as_str.utf8 absent w.in_ok-insert.ensures.updates c.loop-node.invariant)
      | in_default w ↦
          let unnamed = sym c.name_of.ensures ∙ ap (option_map (λ name. name.now)) w.in_default.is in
          subst (λ names. Holds names so_far) (sym w.names-is) (holds_unnamed (mirror_kind node) one_more unnamed c.loop-node.invariant)
    ]

pub returns : goal.returns
returns c =
    sym (none_equal _ (subst (λ ns. Holds c.loop-node.names (map mirror_kind ns)) (take_all _ _ c.loop-node-test.false) c.loop-node.invariant))
