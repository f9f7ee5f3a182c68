-- What the functions that read characters and class strings answer in a class with `v`, and where they leave the reader. A span has an offset added to both its ends.
use Rattle.std.specs.Prelude.{◌≡◌, ℕ, ◌+◌, ◌≤◌, true, Result, Ok, Err, List, ◌++◌, length}
use Rattle.rx_base.specs.declared.diagnostic.Diagnostic.{Diagnostic}
use Rattle.rx_base.specs.declared.fault.Fault.{Fault}
use Rattle.rx_base.specs.declared.fault.Fault.TheVariants as fault
use Rattle.rx_ast.specs.declared.leaf.Character.{Character}
use Rattle.rx_ast.specs.declared.class.ClassStringDisjunction.{ClassStringDisjunction}
use Rattle.rx_ast.specs.ClassTree.{Member}
use Rattle.rx_ast.specs.ClassTree as tree
use Rattle.rx_units.specs.declared.code_point.CodePoint.{CodePoint}
use Rattle.rx_units.specs.Cursor.{Cursor, move_on, rest}
use Rattle.rx_units.specs.Units.{offset_at, values}
use Rattle.rx_model.specs.Classes.ClassRows.{ClassRow, Place, SpellsClassCharacter, fresh, is_dashed}
use Rattle.rx_model.specs.Classes.ClassTokens.{member_events}
use Rattle.rx_model.specs.Inputs.Environment.{Environment}
use Rattle.rx_model.specs.Refusals.ClassPlaces.{IsOperandPlace, begins_item}
use Rattle.rx_model.specs.Refusals.EscapeCauses.{IsEscapeCause}
use Rattle.rx_model.specs.Refusals.Firsts.{IsFirstInClass}
use Rattle.rx_model.specs.Refusals.Reached.{span_between}
use Rattle.rx_class.specs.ClassReading.Items.{IsOfText}
use Rattle.rx_class.specs.Keeping.{KeepsUnits}
use Rattle.rx_class.specs.SetReading.WellBuilt.{IsSound}

-- What stands at the reader's place is answered as a character of a class (ClassSetCharacter, 22.2.1).
pub data GivesSetCharacter (e : Environment) (added : ℕ) (old new : Cursor) : Result Character Diagnostic → Type 0 where
  -- one is spelled, and the reader moves over it
  some : {it : Character} (w more : List CodePoint) → rest old ≡ w ++ more → SpellsClassCharacter e it.kind it.value w more → it.value ≤ 0x10FFFF
      → it.span ≡ span_between old.units old.first added old.place (old.place + length w) → new ≡ move_on (length w) old → GivesSetCharacter e added old new (Ok it)
  refused : {diagnostic : Diagnostic} → IsEscapeCause e.mode old.units old.first added old.place (rest old) diagnostic → KeepsUnits old new → GivesSetCharacter e added old new (Err diagnostic)

-- From a place on a character was read, and then a `-` before another one.
pub record IsAfterDash (e : Environment) (added : ℕ) (start : Cursor) (low : Character) (r : Cursor) : Type 0 where
  pub before : Cursor
  pub gives : GivesSetCharacter e added start before (Ok low)
  pub dashed : is_dashed (values (rest before)) ≡ true
  pub moves : r ≡ move_on 1 before

-- This is the first refusal of each class in which an operand may stand at the reader's place.
abbrev pub IsOperandRefusal : Environment → ℕ → Cursor → Diagnostic → Type 0
IsOperandRefusal e added r diagnostic =
    IsOfText e r → (from : ℕ) (at_class : List CodePoint) → IsOperandPlace e from at_class r.place (rest r) → IsFirstInClass e.mode r.units r.first added from at_class diagnostic

-- Wherever an operand may stand, the units w spell the member from place i on, where o gives the offset of a place.
abbrev pub IsOperandRow : Environment → (ℕ → ℕ) → ℕ → Member → List CodePoint → List CodePoint → Type 0
IsOperandRow e o i m w more = (q : Place) → begins_item q ≡ true → ClassRow e o (member_events m) q i (w ++ more) fresh (i + length w) more

-- What stands at the reader's place is answered as class strings (ClassStringDisjunction, 22.2.1).
pub data GivesStrings (e : Environment) (added : ℕ) (old new : Cursor) : Result ClassStringDisjunction Fault → Type 0 where
  some : {it : ClassStringDisjunction} (w more : List CodePoint) → rest old ≡ w ++ more
      → IsOperandRow e (λ i. offset_at old.first old.units i + added) old.place (tree.strings it) w more → IsSound (tree.strings it) → new ≡ move_on (length w) old
      → GivesStrings e added old new (Ok it)
  refused : {diagnostic : Diagnostic} → IsOperandRefusal e added old diagnostic → KeepsUnits old new → GivesStrings e added old new (Err (fault.Diagnostic diagnostic))
  -- memory ran out
  no_memory : KeepsUnits old new → GivesStrings e added old new (Err fault.OutOfMemory)
