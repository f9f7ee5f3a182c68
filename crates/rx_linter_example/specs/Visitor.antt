-- What the visitor that takes notes does at a node.
use Rattle.std.specs.Prelude.{◌≡◌, Bool, true, false, [], ◌∷◌, ◌++◌}
use Rattle.std.specs.List.{filter_map}
use Rattle.rx_ast.specs.Kinds.{Kind}
use Rattle.rx_linter_example.specs.declared.visitor.Notes.{Notes}
use Rattle.rx_linter_example.specs.Notes.{note_of}

-- Unless memory was short, before or now, the note of the node was added, if it has one, and what is in it is to be visited.
pub record TakesNote (v : Notes) (node : Kind) (answer : Bool) (w : Notes) : Type 0 where
  pub was_enough : w.is_short ≡ false → v.is_short ≡ false
  pub added : w.is_short ≡ false → w.notes ≡ v.notes ++ filter_map note_of (node ∷ [])
  pub descends : w.is_short ≡ false → answer ≡ true
