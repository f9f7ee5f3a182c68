-- What a leaf is rewritten to, case by case.
use Rattle.std.proofs.Common.{Bool, true, false}
use Rattle.rx_ast.specs.declared.leaf.BoundaryAssertion.{BoundaryAssertion}
use Rattle.rx_ast.specs.declared.leaf.BoundaryAssertionKind.{BoundaryAssertionKind}
use Rattle.rx_ast.specs.declared.leaf.BoundaryAssertionKind.TheVariants as at
use Rattle.rx_ast.specs.declared.leaf.LookAroundAssertionKind.{LookAroundAssertionKind}
use Rattle.rx_ast.specs.declared.leaf.LookAroundAssertionKind.TheVariants as look
use Rattle.rx_ast.specs.Tree as tree
use Rattle.rx_ast.specs.Tree.{Leaf, Node, leaf}
use Rattle.rx_trace.specs.Groups.{Names}
use Rattle.rx_trace.specs.declared.settings.Settings.{Settings}
use Rattle.rx_rewrite.specs.declared.rewrites.Rewrites.{Rewrites}
use Rattle.rx_rewrite.specs.Rewriting.{any_unit, no_line_terminator, look_for, by_setting, end_rewritten, boundary_rewritten, reference_rewritten, leaf_rewritten}

by_setting-all : (P : Node → Type 0) (asked old new : Bool) (same on off : Node) → P same → P on → P off → P (by_setting asked old new same on off)
by_setting-all P true true true same on off p-same p-on p-off = p-on
by_setting-all P false true true same on off p-same p-on p-off = p-same
by_setting-all P asked true false same on off p-same p-on p-off = p-on
by_setting-all P asked false true same on off p-same p-on p-off = p-off
by_setting-all P asked false false same on off p-same p-on p-off = p-same

-- It holds of a boundary, and of each look-around that may stand for it.
abbrev pub HoldsOfEnds : (Node → Type 0) → BoundaryAssertion → Type 0
HoldsOfEnds P b = P (leaf (tree.boundary b)) × ((k : LookAroundAssertionKind) → P (look_for b.span k (no_line_terminator b.span)) × P (look_for b.span k (any_unit b.span)))

end-all : (P : Node → Type 0) (asked old new : Bool) (k : LookAroundAssertionKind) (b : BoundaryAssertion) → HoldsOfEnds P b → P (end_rewritten asked old new k b)
end-all P asked old new k b holds = by_setting-all P asked old new _ _ _ holds.0 (holds.1 k).0 (holds.1 k).1

boundary-all : (P : Node → Type 0) (asked old new : Bool) (k : BoundaryAssertionKind) (b : BoundaryAssertion) → HoldsOfEnds P b → P (boundary_rewritten asked old new k b)
boundary-all P asked old new at.Start b holds = end-all P asked old new look.NegativeLookbehind b holds
boundary-all P asked old new at.End b holds = end-all P asked old new look.NegativeLookahead b holds
boundary-all P asked old new at.Boundary b holds = holds.0
boundary-all P asked old new at.NegativeBoundary b holds = holds.0
boundary-all P asked old new at.StartBuffer b holds = holds.0
boundary-all P asked old new at.EndBuffer b holds = holds.0
boundary-all P asked old new at.EndBufferOptionalNewline b holds = holds.0

module _ (what : Rewrites) (names : Names) where
  -- It holds of all that a leaf may become.
  abbrev pub HoldsOfAll : (Node → Type 0) → Leaf → Type 0
  HoldsOfAll P (tree.boundary b) = HoldsOfEnds P b
  HoldsOfAll P (tree.character c) = P (leaf (tree.character c))
  HoldsOfAll P (tree.dot d) = P (leaf (tree.dot d)) × P (leaf (tree.class (any_unit d.span))) × P (leaf (tree.class (no_line_terminator d.span)))
  HoldsOfAll P (tree.class_escape k) = P (leaf (tree.class_escape k))
  HoldsOfAll P (tree.property p) = P (leaf (tree.property p))
  HoldsOfAll P (tree.class k) = P (leaf (tree.class k))
  HoldsOfAll P (tree.indexed r) = P (leaf (tree.indexed r))
  HoldsOfAll P (tree.named r) = P (leaf (reference_rewritten what names r))

  pub leaf-all : (P : Node → Type 0) (old new : Settings) (l : Leaf) → HoldsOfAll P l → P (leaf_rewritten what names old new l)
  leaf-all P old new (tree.boundary b) holds = boundary-all P what.multiline old.multiline new.multiline b.kind b holds
  leaf-all P old new (tree.character c) holds = holds
  leaf-all P old new (tree.dot d) holds = by_setting-all P what.dot_all old.dot_all new.dot_all _ _ _ holds.0 holds.1 holds.2
  leaf-all P old new (tree.class_escape k) holds = holds
  leaf-all P old new (tree.property p) holds = holds
  leaf-all P old new (tree.class k) holds = holds
  leaf-all P old new (tree.indexed r) holds = holds
  leaf-all P old new (tree.named r) holds = holds
