-- A class with `v` that is being read (ClassSetExpression, 22.2.1): what was built of it leads to where its reader stands; and what is answered where this or
-- that stands there.
use Rattle.std.specs.Prelude.{◌≡◌, ◌≢◌, ℕ, ◌+◌, ◌<◌, ◌≤◌, ◌⊎◌, Bool, true, false, Option, Some, None, Result, Ok, Err, List, [], ◌∷◌, ◌++◌, length, codes}
use Rattle.rx_base.specs.Ascii as ascii
use Rattle.rx_base.specs.declared.diagnostic.Diagnostic.{Diagnostic}
use Rattle.rx_base.specs.declared.diagnostic.Diagnostic.TheVariants.{CharacterClassRangeOutOfOrder, ClassSetExpressionInvalidCharacter, EmptyClassSetExpression, UnterminatedPattern}
use Rattle.rx_base.specs.declared.diagnostic.kinds.RangeKind.TheVariants as range_kind
use Rattle.rx_base.specs.declared.diagnostic.kinds.SetOperator.{SetOperator}
use Rattle.rx_base.specs.declared.diagnostic.kinds.SetOperator.TheVariants.{Intersection}
use Rattle.rx_base.specs.declared.fault.Fault.{Fault}
use Rattle.rx_base.specs.declared.fault.Fault.TheVariants as fault
use Rattle.rx_ast.specs.declared.leaf.Character.{Character}
use Rattle.rx_ast.specs.ClassTree.{mirror_class}
use Rattle.rx_ast.specs.declared.class.CharacterClass.{CharacterClass}
use Rattle.rx_ast.specs.declared.class.CharacterClassRange.{CharacterClassRange}
use Rattle.rx_units.specs.declared.code_point.CodePoint.{CodePoint}
use Rattle.rx_units.specs.Cursor.{Cursor, move_on, offset_of, rest}
use Rattle.rx_units.specs.Units.{offset_at, values}
use Rattle.rx_model.specs.Characters.EscapeFronts.{nothing}
use Rattle.rx_model.specs.Classes.ClassRows.{ClassRow, Place, outside, fresh, after_operator}
use Rattle.rx_model.specs.Classes.ClassRuns.{Held, empty, is_union, is_whole, operator_of, with_range, takes_operand}
use Rattle.rx_model.specs.Classes.ClassTokens.{Atom, ClassEvents, ClassToken, class_events, class_tokens_of, closer, is_character, item, leave, token}
use Rattle.rx_model.specs.Classes.ClassShapes.{IsFitting, IsFlagged}
use Rattle.rx_model.specs.FirstPass.Marks.{starts}
use Rattle.rx_model.specs.Inputs.Environment.{Environment, is_sets}
use Rattle.rx_model.specs.Refusals.ClassCauses.{NothingFollows, unterminated}
use Rattle.rx_model.specs.Refusals.EscapeCauses.{IsEscapeCause}
use Rattle.rx_model.specs.Refusals.Firsts.{IsFirstInClass}
use Rattle.rx_model.specs.Trees.Early.{IsEarlyClass}
use Rattle.rx_class.specs.declared.sets.builder.ClassBuilder.{ClassBuilder}
use Rattle.rx_class.specs.declared.sets.open_bracket.OpenBracket.{OpenBracket}
use Rattle.rx_class.specs.declared.sets.character.SetCharacter.{SetCharacter}
use Rattle.rx_class.specs.declared.sets.held.Held.{Held as HeldState}
use Rattle.rx_class.specs.SetReading.BuilderEvents.{builder_events, last_operator}
use Rattle.rx_class.specs.ClassReading.Items.{IsOfText, between}
use Rattle.rx_class.specs.EscapeReading.Answers.{span_to}
use Rattle.rx_class.specs.SetReading.FrontSeen.{seen_character}
use Rattle.rx_class.specs.SetReading.HeldMirror.{mirror_held}
use Rattle.rx_class.specs.Keeping.{KeepsUnits}
use Rattle.rx_class.specs.SetReading.Fronts.{NoneRefused, range_end_at}
use Rattle.rx_class.specs.SetReading.WellBuilt.{IsWellBuilt}

-- The mode is sets mode, and the environment is that of the text that a reader reads.
pub record IsOfSets (e : Environment) (r : Cursor) : Type 0 where
  pub sets : is_sets e.mode ≡ true
  pub text : IsOfText e r
  pub within : r.place ≤ length r.units

-- the place in a bracket where the next token stands, by the operator before it, if any
abbrev pub place_after : Option SetOperator → Place
place_after None = fresh
place_after (Some o) = after_operator o

-- the same in a bracket that holds this
abbrev pub place_of : Held → Place
place_of held = place_after (last_operator held)

-- what the innermost bracket holds
abbrev pub innermost_held : ClassBuilder → Held
innermost_held b = mirror_held b.inner.held

-- whether there are brackets around
abbrev pub has_outer : List OpenBracket → Bool
has_outer [] = false
has_outer (b ∷ bs) = true

-- whether the innermost bracket is nested
abbrev pub is_nested : ClassBuilder → Bool
is_nested b = has_outer b.outer

-- `[^`, or `[`
abbrev pub bracket_text : Bool → List ℕ
bracket_text true = codes "[^"
bracket_text false = codes "["

-- the offset of a place of a reader's text
abbrev pub offset_in : ℕ → Cursor → ℕ → ℕ
offset_in added r i = offset_at r.first r.units i + added

-- No escape of a character is refused after a `-` that stands next.
abbrev pub NoneAfterDash : Environment → Cursor → Type 0
NoneAfterDash e r =
    (hyphen : CodePoint) (following : List CodePoint) → rest r ≡ hyphen ∷ following → hyphen.value ≡ ascii.hyphen → (us : List CodePoint) (first added place : ℕ) (d : Diagnostic) → IsEscapeCause e.mode us first added place following d → ⊥

-- Where a character of a union was read last, no escape is refused that would be the end of a range which that character begins.
abbrev pub RefusesNoEnd : Environment → Cursor → ClassBuilder → Type 0
RefusesNoEnd e r b =
    is_union (innermost_held b) ≡ true → (before : List ClassToken) (a : Atom) → class_tokens_of (builder_events b) ≡ before ++ (item a ∷ []) → is_character a ≡ true → NoneAfterDash e r

-- From the bracket of a class, at place `from`, all that was built leads to where the reader stands.
pub record IsInSets (e : Environment) (added : ℕ) (from r : Cursor) (b : ClassBuilder) : Type 0 where
  pub keeps : KeepsUnits from r
  pub row : ClassRow e (offset_in added from) (builder_events b) outside from.place (rest from) (place_of (innermost_held b)) r.place (rest r)
  pub well : IsWellBuilt b
  pub ends : RefusesNoEnd e r b

-- This is the first refusal of each class of which this much was read.
abbrev pub IsSetRefusal : Environment → ℕ → Cursor → ClassBuilder → Diagnostic → Type 0
IsSetRefusal e added r b diagnostic = (from : Cursor) → IsInSets e added from r b → IsFirstInClass e.mode r.units r.first added from.place (rest from) diagnostic

-- More is built after what was, and the reader moved over it.
pub record AddsToSets (e : Environment) (added : ℕ) (old new : Cursor) (before after : ClassBuilder) : Type 0 where
  pub keeps : KeepsUnits old new
  pub goes_on : old.place < new.place
  pub more : ClassEvents
  pub events : builder_events after ≡ builder_events before ++ more
  pub row : ClassRow e (offset_in added old) more (place_of (innermost_held before)) old.place (rest old) (place_of (innermost_held after)) new.place (rest new)
  pub well : IsWellBuilt after
  pub ends : RefusesNoEnd e new after

-- What a turn answers to what stands at the reader's place in a class.
pub data GivesTurn (e : Environment) (added : ℕ) (old new : Cursor) (before after : ClassBuilder) : Result (Unit {0}) Fault → Type 0 where
  adds : AddsToSets e added old new before after → GivesTurn e added old new before after (Ok tt)
  refused : {diagnostic : Diagnostic} → IsSetRefusal e added old before diagnostic → KeepsUnits old new → GivesTurn e added old new before after (Err (fault.Diagnostic diagnostic))
  no_memory : KeepsUnits old new → GivesTurn e added old new before after (Err fault.OutOfMemory)

-- Nothing that may follow in the innermost bracket stands at the reader's place, and no escape that may stand there is refused.
pub record StandsNothing (e : Environment) (r : Cursor) (b : ClassBuilder) : Type 0 where
  pub follows : NothingFollows e (place_of (innermost_held b)) (innermost_held b) (rest r)
  pub none_refused : takes_operand (innermost_held b) ≡ true → NoneRefused e (rest r)
  pub no_third : place_of (innermost_held b) ≡ after_operator Intersection → starts ascii.ampersand (values (rest r)) ≡ false

-- Why what stands next may not follow in the innermost bracket.
pub data SaysNothing (added : ℕ) (r : Cursor) (b : ClassBuilder) : Diagnostic → Type 0 where
  -- the bracket begins with no operand
  no_operand : innermost_held b ≡ empty → rest r ≢ [] → SaysNothing added r b (EmptyClassSetExpression (span_to added (offset_of r) r))
  -- the bracket does not end
  no_end : is_union (innermost_held b) ≡ true → (innermost_held b ≡ empty → rest r ≡ []) → SaysNothing added r b (UnterminatedPattern (between b.inner.start (offset_of r + added)) (unterminated (is_nested b)))
  -- the bracket goes on with no operator, or with no operand after one
  no_operator : (operator : SetOperator) → operator_of (innermost_held b) ≡ Some operator → SaysNothing added r b (ClassSetExpressionInvalidCharacter (span_to added (offset_of r) r) operator)

-- The class's own `]` stands next, and its contents are whole.
pub record EndsSets (r : Cursor) (b : ClassBuilder) : Type 0 where
  pub closer : starts ascii.right_bracket (values (rest r)) ≡ true
  pub outermost : b.outer ≡ []
  pub whole : is_whole (innermost_held b) ≡ true

-- Its own `]` is read, and all that was built is this class.
pub record ClosesSets (added : ℕ) (old new : Cursor) (b : ClassBuilder) (it : CharacterClass) : Type 0 where
  pub moves : new ≡ move_on 1 old
  pub events : class_events (mirror_class it) ≡ builder_events b ++ token closer ∷ leave (offset_of new + added) ∷ []
  pub fitting : IsFitting (mirror_class it)
  pub flagged : IsFlagged (mirror_class it)
  pub early : IsEarlyClass (mirror_class it)

-- What comes of two characters as the ends of a range: the range, or its refusal (22.2.1.1).
pub data IsSetRange (min max : Character) : Result CharacterClassRange Diagnostic → Type 0 where
  range : min.value ≤ max.value → IsSetRange min max (Ok (record { span = between min.span.start max.span.end; min = min; max = max }))
  out_of_order : max.value < min.value → IsSetRange min max (Err (CharacterClassRangeOutOfOrder (between min.span.start max.span.end) range_kind.ClassSet))

-- What is found after a character as the end of a range, and what a bracket that held this holds after the range.
abbrev pub IsRangeNext : List CodePoint → Held → Option (SetCharacter × HeldState) → Type 0
IsRangeNext us held None = (with_range held ≡ None) ⊎ (range_end_at us ≡ nothing)
IsRangeNext us held (Some next) = (range_end_at us ≡ seen_character next.0) × (with_range held ≡ Some (mirror_held next.1))
