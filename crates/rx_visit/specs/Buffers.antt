-- Boundaries of the buffer: `\A`, `\z` and `\Z`.
use Rattle.std.specs.Prelude.{Bool, true, false, List}
use Rattle.std.specs.List.{list_any}
use Rattle.rx_ast.specs.declared.leaf.BoundaryAssertionKind.{BoundaryAssertionKind}
use Rattle.rx_ast.specs.declared.leaf.BoundaryAssertionKind.TheVariants.{Start, End, Boundary, NegativeBoundary, StartBuffer, EndBuffer, EndBufferOptionalNewline}
use Rattle.rx_ast.specs.Kinds.{Kind, boundary_assertion}

abbrev pub is_of_buffer : BoundaryAssertionKind → Bool
is_of_buffer Start = false
is_of_buffer End = false
is_of_buffer Boundary = false
is_of_buffer NegativeBoundary = false
is_of_buffer StartBuffer = true
is_of_buffer EndBuffer = true
is_of_buffer EndBufferOptionalNewline = true

abbrev pub is_buffer_boundary : Kind → Bool
is_buffer_boundary (boundary_assertion b) = is_of_buffer b.kind
is_buffer_boundary _ = false

-- one of the nodes is a boundary of the buffer
abbrev pub has_buffer_boundaries : List Kind → Bool
has_buffer_boundaries ks = list_any is_buffer_boundary ks
