-- What the reader of classes answers, and where it leaves the reader. A span has an offset added to both its ends.
use Rattle.std.specs.Prelude.{◌≡◌, ℕ, ◌+◌, false, Option, Some, None, Result, Ok, Err, List, ◌++◌, length}
use Rattle.rx_base.specs.Ascii as ascii
use Rattle.rx_base.specs.declared.diagnostic.Diagnostic.{Diagnostic}
use Rattle.rx_base.specs.declared.fault.Fault.{Fault}
use Rattle.rx_base.specs.declared.fault.Fault.TheVariants as fault
use Rattle.rx_ast.specs.ClassTree.{Class, mirror_class}
use Rattle.rx_ast.specs.declared.class.CharacterClass.{CharacterClass}
use Rattle.rx_units.specs.declared.code_point.CodePoint.{CodePoint}
use Rattle.rx_units.specs.Cursor.{Cursor, move_on, rest}
use Rattle.rx_units.specs.Units.{offset_at, values}
use Rattle.rx_model.specs.Classes.ClassRows.{IsClass, IsClassSpanned}
use Rattle.rx_model.specs.Trees.Early.{IsEarlyClass}
use Rattle.rx_model.specs.Inputs.Environment.{Environment}
use Rattle.rx_model.specs.Refusals.Firsts.{IsFirstInClass}
use Rattle.rx_model.specs.FirstPass.Marks.{starts}
use Rattle.rx_model.specs.Refusals.Reached.{text_groups, text_names}
use Rattle.rx_scan.specs.StateFaults.{mode_of_state}
use Rattle.rx_scan.specs.declared.state.State.{State}
use Rattle.rx_class.specs.Keeping.{KeepsUnits}

-- The state has what the first pass over the units finds (CountLeftCapturingParensWithin, 22.2.1.2).
pub record HoldsFirstPass (state : State) (us : List CodePoint) : Type 0 where
  pub groups : state.num_of_capturing_groups ≡ text_groups (mode_of_state state) us
  pub names : state.capturing_group_names ≡ text_names (mode_of_state state) us

-- no class that is free of early errors stands at the front
abbrev pub BeginsNoClass : Environment → List CodePoint → Type 0
BeginsNoClass e us = (c : Class) (w more : List CodePoint) → us ≡ w ++ more → IsClass e c w more → IsEarlyClass c → ⊥

-- What stands at the reader's place is answered as a class (CharacterClass, 22.2.1).
pub data GivesClass (e : Environment) (added : ℕ) (old new : Cursor) : Result (Option CharacterClass) Fault → Type 0 where
  -- a class is spelled and free of early errors, each node in it has the span of what it spells, and the reader moves over it
  some : {it : CharacterClass} (w more : List CodePoint) → rest old ≡ w ++ more
      → IsClassSpanned e (λ i. offset_at old.first old.units i + added) old.place (mirror_class it) w more → IsEarlyClass (mirror_class it)
      → new ≡ move_on (length w) old → GivesClass e added old new (Ok (Some it))
  -- no `[` stands there, and the reader stays
  none : new ≡ old → starts ascii.left_bracket (values (rest old)) ≡ false → GivesClass e added old new (Ok None)
  -- no class that is free of early errors is spelled, and the first refusal of the class is answered
  refused : {diagnostic : Diagnostic} → IsFirstInClass e.mode old.units old.first added old.place (rest old) diagnostic → BeginsNoClass e (rest old) → KeepsUnits old new
      → GivesClass e added old new (Err (fault.Diagnostic diagnostic))
  -- memory ran out
  no_memory : KeepsUnits old new → GivesClass e added old new (Err fault.OutOfMemory)

-- The same of a reader at a `[`: a class is answered, or a failure.
abbrev pub GivesOneClass : Environment → ℕ → Cursor → Cursor → Result CharacterClass Fault → Type 0
GivesOneClass e added old new (Ok it) = GivesClass e added old new (Ok (Some it))
GivesOneClass e added old new (Err cause) = GivesClass e added old new (Err cause)
