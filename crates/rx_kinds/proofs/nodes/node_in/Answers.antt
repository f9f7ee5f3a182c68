use Rattle.std.proofs.Common.{◌≡◌, ap, sym, ◌∙◌, false, inl, inr}
use Rattle.rx_ast.specs.MirrorKinds.{mirror_kind}
use Rattle.rx_kinds.specs.Inner.{is_node}
use Rattle.rx_kinds.proofs.Inner.{only_in}
use Rattle.rx_kinds.proofs.nodes.node_in.Goals as goal

pub returns-in-Some : goal.returns-in-Some
returns-in-Some c =
    let k = mirror_kind c.args.node in
    let outer : is_node k ≡ false = elim c.in-Term.is [ inl is ↦ ap (λ it. is_node (mirror_kind it)) is.1 | inr is ↦ ap (λ it. is_node (mirror_kind it)) is.1 ] in
    only_in k (mirror_kind c.in-Some.inner) _ outer (sym c.children_of.ensures ∙ c.in-Some.ensures)
