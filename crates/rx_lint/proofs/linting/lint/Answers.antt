use Rattle.std.proofs.Common.{◌≡◌, ap, sym, ◌∙◌, map, subst}
use Rattle.rx_ast.specs.Kinds.{order, pattern}
use Rattle.rx_ast.specs.MirrorKinds.{mirror_kind}
use Rattle.rx_ast.specs.Tree.{mirror}
use Rattle.rx_lint.specs.Names.{HasNames}
use Rattle.rx_lint.specs.Rows.{AreNumbered, kind_of}
use Rattle.rx_lint.proofs.Loop.{all_rows, numbered_by_itself}
use Rattle.rx_lint.proofs.linting.lint.Goals as goal

pub rows_of-requires : goal.rows_of-requires
rows_of-requires c =
    let it = c.in_ok-numbers.field-0 in
    let numbered : AreNumbered (map mirror_kind c.as_slice-2.result.now) it.beginnings it.numbers = c.in_ok-numbers.ensures in
    subst (λ ns. AreNumbered (map kind_of it.beginnings) it.beginnings ns) (sym c.as_slice-3.ensures) (numbered_by_itself numbered)

pub list_findings-requires : goal.list_findings-requires
list_findings-requires c =
    let p = mirror c.args.pattern.now in
    let it = c.in_ok-numbers.field-0 in
    let numbered : AreNumbered (map mirror_kind c.as_slice-2.result.now) it.beginnings it.numbers = c.in_ok-numbers.ensures in
    let nodes : map kind_of it.beginnings ≡ order (pattern p) = numbered.nodes ∙ ap (map mirror_kind) c.as_slice-2.ensures ∙ c.in_ok-nodes.ensures in
    record {
      names = subst (HasNames c.in_ok-names.names) (ap (map mirror_kind) c.as_slice.ensures ∙ c.in_ok-nodes.ensures) c.in_ok-names.ensures;
      rows = all_rows c.in_ok-rows.rows p it.beginnings nodes c.in_ok-rows.ensures;
    }
