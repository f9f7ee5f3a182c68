-- The code of a tree: what is done, one thing after the other, where each thing says what follows it.
use Rattle.std.specs.Prelude.{ℕ, Bool, Option, List}
use Rattle.rx_ast.specs.declared.leaf.BoundaryAssertionKind.{BoundaryAssertionKind}
use Rattle.rx_ast.specs.declared.leaf.LookAroundAssertionKind.{LookAroundAssertionKind}
use Rattle.rx_trace.specs.declared.answer.Slot.{Slot}

pub data Code : Type 0 where
  accept : Code
  reject : Code
  consume : (ℕ → Bool) → Code → Code
  assert : BoundaryAssertionKind → Bool → Code → Code
  refer : (List Slot → Slot) → Code → Code
  enter_group : Code → Code
  choose : Code → Code → Code
  sequence : Code → Code → Code
  capture : ℕ → Code → Code → Code
  look_around : LookAroundAssertionKind → Code → Code → Code
  repeat : ℕ → Option ℕ → Bool → ℕ → ℕ → Code → Code → Code
