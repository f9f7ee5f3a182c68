-- Which assertions there are of those that hold nothing (Assertion, 22.2.1); the buffer boundaries are of their proposal.
use Rattle.std.specs.Prelude.{Bool, true, ◌&&◌}
use Rattle.rx_ast.specs.declared.leaf.BoundaryAssertionKind.{BoundaryAssertionKind}
use Rattle.rx_ast.specs.declared.leaf.BoundaryAssertionKind.TheVariants as boundary
use Rattle.rx_model.specs.Inputs.Environment.{Environment, is_unicode}

-- whether `\A`, `\z` and `\Z` are boundaries: with `u` or `v` (RegExp Buffer Boundaries)
abbrev pub has_buffers : Environment → Bool
has_buffers e = is_unicode e.mode && e.buffer_boundaries

-- whether there is this boundary
abbrev pub has_boundary : Environment → BoundaryAssertionKind → Bool
has_boundary e boundary.Start = true
has_boundary e boundary.End = true
has_boundary e boundary.Boundary = true
has_boundary e boundary.NegativeBoundary = true
has_boundary e boundary.StartBuffer = has_buffers e
has_boundary e boundary.EndBuffer = has_buffers e
has_boundary e boundary.EndBufferOptionalNewline = has_buffers e
