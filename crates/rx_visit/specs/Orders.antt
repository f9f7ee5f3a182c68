-- To list nodes, and a number that is more than those of the nodes that are put back.
use Rattle.std.specs.Prelude.{◌≡◌, ℕ, ◌+◌, ◌*◌, List, ◌++◌, length, map}
use Rattle.std.specs.List.{flat_map}
use Rattle.rx_ast.specs.Kinds.{Kind, order}
use Rattle.rx_ast.specs.MirrorKinds.{mirror_kind}
use Rattle.rx_ast.specs.declared.ast_kind.RegExpAstKind.{RegExpAstKind}
use Rattle.rx_visit.specs.Siblings.{in_order}
use Rattle.rx_visit.specs.declared.siblings.Siblings.{Siblings}

-- the nodes, and all that stand in them
abbrev pub all_in_order : Siblings → List Kind
all_in_order s = flat_map order (in_order s)

-- the nodes stand at the end of the list
abbrev pub lists : List RegExpAstKind → List Kind → List RegExpAstKind → Type 0
lists old ks new = map mirror_kind new ≡ map mirror_kind old ++ ks

abbrev pub siblings_weight : Siblings → ℕ
siblings_weight s = 1 + 2 * length (all_in_order s)
