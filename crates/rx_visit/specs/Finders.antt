-- What the visitors that look for nodes do at a node.
use Rattle.std.specs.Prelude.{◌≡◌, ◌+◌, Bool, ◌||◌, not, if◌then◌else◌, nat_lt, ◌&&◌}
use Rattle.rx_ast.specs.Kinds.{Kind, pattern, order}
use Rattle.rx_ast.specs.Tree.{mirror}
use Rattle.rx_visit.specs.declared.buffers.BufferFinder.{BufferFinder}
use Rattle.rx_visit.specs.declared.patterns.Finder.{Finder}
use Rattle.rx_visit.specs.declared.patterns.NameCounter.{NameCounter}
use Rattle.rx_visit.specs.Buffers.{is_buffer_boundary}
use Rattle.rx_visit.specs.Patterns.{is_named, is_refused}

pub record Finds (v : Finder) (k : Kind) (answer : Bool) (w : Finder) : Type 0 where
  pub pattern_kept : w.pattern ≡ v.pattern
  pub unsupported_kept : w.unsupported ≡ v.unsupported
  pub found : w.found ≡ (v.found || is_refused v.unsupported.now (order (pattern (mirror v.pattern.now))) k)
  pub answered : answer ≡ not w.found

pub record FindsBuffers (v : BufferFinder) (k : Kind) (answer : Bool) (w : BufferFinder) : Type 0 where
  pub found : w.found ≡ (v.found || is_buffer_boundary k)
  pub answered : answer ≡ not w.found

pub record Counts (v : NameCounter) (k : Kind) (answer : Bool) (w : NameCounter) : Type 0 where
  pub name_kept : w.name ≡ v.name
  pub counted : w.count ≡ (if nat_lt v.count 2 && is_named v.name.now k then v.count + 1 else v.count)
  pub answered : answer ≡ nat_lt w.count 2
