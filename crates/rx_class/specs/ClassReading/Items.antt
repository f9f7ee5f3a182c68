-- What the functions that read atoms and items of a class answer, at a place where one must stand, by the environment of the reader's whole text.
use Rattle.std.specs.Prelude.{◌≡◌, ℕ, ◌+◌, ◌-◌, ◌<◌, ◌≤◌, ◌==◌, ◌&&◌, ◌≢◌, Bool, false, true, not, Option, Some, None, Result, Ok, Err, List, [], ◌∷◌, ◌++◌, drop, length, map, if◌then◌else◌}
use Rattle.rx_base.specs.Ascii as ascii
use Rattle.rx_base.specs.declared.diagnostic.Diagnostic.{Diagnostic}
use Rattle.rx_base.specs.declared.diagnostic.Diagnostic.TheVariants.{CharacterClassRangeOutOfOrder, CharacterClassRangeDashNotSubtraction, CharacterClassRangeInvalidAtom, UnterminatedPattern}
use Rattle.rx_base.specs.declared.diagnostic.kinds.Unterminated.TheVariants as what
use Rattle.rx_base.specs.declared.diagnostic.kinds.RangeKind.TheVariants as range_kind
use Rattle.rx_base.specs.declared.fault.Fault.{Fault}
use Rattle.rx_base.specs.declared.fault.Fault.TheVariants as fault
use Rattle.rx_base.specs.declared.span.Span.{Span}
use Rattle.rx_ast.specs.declared.leaf.Character.{Character}
use Rattle.rx_ast.specs.declared.leaf.CharacterKind.{CharacterKind}
use Rattle.rx_ast.specs.declared.leaf.CharacterKind.TheVariants as kind
use Rattle.rx_ast.specs.declared.class.CharacterClassContents.{CharacterClassContents}
use Rattle.rx_ast.specs.declared.class.CharacterClassRange.{CharacterClassRange}
use Rattle.rx_ast.specs.ClassTree.{Member, Members, members, mirror_contents}
use Rattle.rx_ast.specs.ClassTree as tree
use Rattle.rx_units.specs.declared.code_point.CodePoint.{CodePoint}
use Rattle.rx_units.specs.Cursor.{Cursor, move_on, rest}
use Rattle.rx_units.specs.Units.{offset_at, values}
use Rattle.rx_units.specs.Digits.{front_is}
use Rattle.rx_model.specs.Refusals.ClassCauses.{IsClassCause, is_character}
use Rattle.rx_model.specs.Refusals.ClassPlaces.{IsAtomPlace, IsItemPlace}
use Rattle.rx_model.specs.Classes.ClassFronts.{atom_at, atom_read}
use Rattle.rx_model.specs.Classes.ClassRows.{ClassRow, SpellsAtom, fresh, is_dashed}
use Rattle.rx_model.specs.Classes.ClassRuns.{atom_obeys}
use Rattle.rx_model.specs.Classes.ClassTokens.{Atom, character, escape, property, more_members_events}
use Rattle.rx_model.specs.Trees.Early.{AreEarlyMembers, any_strings}
use Rattle.rx_model.specs.Inputs.Environment.{Environment, is_unicode}
use Rattle.rx_model.specs.Properties.PropertyForms.{begins_property}
use Rattle.rx_model.specs.FirstPass.Marks.{starts}
use Rattle.rx_model.specs.Refusals.Reached.{span_between, class_environment}
use Rattle.rx_model.specs.Characters.UnitKinds.{unit_kind}
use Rattle.rx_class.specs.declared.classes.atom.ClassAtom.{ClassAtom}
use Rattle.rx_class.specs.declared.classes.atom.ClassAtom.TheVariants as atom
use Rattle.rx_class.specs.declared.classes.atom.CommonAtom.{CommonAtom}
use Rattle.rx_class.specs.declared.classes.atom.OneUnit.{OneUnit}
use Rattle.rx_class.specs.declared.classes.atom.OneUnit.TheVariants as unit
use Rattle.rx_class.specs.declared.classes.item.ClassItem.{ClassItem}
use Rattle.rx_class.specs.declared.classes.item.ClassItem.TheVariants as item
use Rattle.rx_class.specs.declared.classes.item.ItemFront.{ItemFront}
use Rattle.rx_class.specs.declared.classes.item.ItemFront.TheVariants as front
use Rattle.rx_class.specs.EscapeReading.Answers.{span_to}
use Rattle.rx_class.specs.EscapeReading.Found.{class_escape_front}
use Rattle.rx_class.specs.Keeping.{KeepsUnits}

-- the atom, without its span
abbrev pub atom_of : ClassAtom → Atom
atom_of (atom.Character c) = character c.kind c.value
atom_of (atom.Escape it) = escape it.kind
atom_of (atom.Property p) = property p.negative p.strings p.name p.value

abbrev pub atom_span : ClassAtom → Span
atom_span (atom.Character c) = c.span
atom_span (atom.Escape it) = it.span
atom_span (atom.Property p) = p.span

-- the atom as a member of a class
abbrev pub atom_member : ClassAtom → Member
atom_member (atom.Character c) = tree.character c
atom_member (atom.Escape it) = tree.escape it
atom_member (atom.Property p) = tree.property p

-- the kind of a character that is one unit of a class
abbrev pub kind_in_class : CodePoint → CharacterKind
kind_in_class u = if u.value == ascii.hyphen then kind.Symbol else unit_kind u.escape_kind

-- the character that the first of these letters spells after a backslash in classes alone, with `u` or without
abbrev pub alone_in_class : Bool → List ℕ → Option ℕ
alone_in_class unicode [] = None
alone_in_class unicode (c ∷ w) = if c == ascii.b then Some ascii.backspace else (if unicode && c == ascii.hyphen then Some ascii.hyphen else None)

-- The first of these letters is a character after a backslash in classes alone, or a class escape, or neither.
abbrev pub StandsOneUnit : Bool → List ℕ → Option OneUnit → Type 0
StandsOneUnit unicode us (Some (unit.Character value)) = alone_in_class unicode us ≡ Some value
StandsOneUnit unicode us (Some (unit.Class kind)) = class_escape_front us ≡ Some kind
StandsOneUnit unicode us None = (alone_in_class unicode us ≡ None) × (class_escape_front us ≡ None)

-- What stands after a backslash is neither a character in classes alone, nor a class escape, nor the letter of a property escape.
pub record BeginsNone (e : Environment) (us : List ℕ) : Type 0 where
  pub no_alone : alone_in_class (is_unicode e.mode) us ≡ None
  pub no_class : class_escape_front us ≡ None
  pub no_letter : is_unicode e.mode ≡ true → front_is begins_property us ≡ false

-- the environment is that of the text that a reader reads
abbrev pub IsOfText : Environment → Cursor → Type 0
IsOfText e r = e ≡ class_environment e.mode r.units

-- the reader one unit before
abbrev pub back : Cursor → Cursor
back r = record r { place = r.place - 1 }

-- Something is left, and no `]` stands first.
pub record StandsItem (us : List CodePoint) : Type 0 where
  pub some : us ≡ [] → ⊥
  pub no_closer : starts ascii.right_bracket (values us) ≡ false

-- The atom that the units begin with is this character, a code point, and takes this many units.
pub record IsCommonAtom (e : Environment) (us : List CodePoint) (it : CommonAtom) : Type 0 where
  pub read : atom_at e us ≡ atom_read (character it.kind it.value) it.length
  pub code_point : it.value ≤ 0x10FFFF

-- The units begin with a common character with no range after it.
pub record StandsAlone (e : Environment) (us : List CodePoint) (it : CommonAtom) : Type 0 where
  pub common : IsCommonAtom e us it
  pub alone : is_dashed (values (drop it.length us)) ≡ false

-- The units begin with two common characters with a `-` between, the first not above the second.
pub record StandsInOrder (e : Environment) (us : List CodePoint) (low high : CommonAtom) : Type 0 where
  pub low_is : IsCommonAtom e us low
  pub dashed : is_dashed (values (drop low.length us)) ≡ true
  pub high_is : IsCommonAtom e (drop 1 (drop low.length us)) high
  pub ordered : low.value ≤ high.value

-- The units begin with an item of a class, as is found.
abbrev pub BeginsItem : Environment → List CodePoint → ItemFront → Type 0
BeginsItem e us (front.Character it) = StandsAlone e us it
BeginsItem e us (front.Range low high) = StandsInOrder e us low high
BeginsItem e us front.Other = Unit {0}

-- Where the environment is that of the text, this is a refusal of each class in which an atom may stand at the reader's place.
abbrev pub IsAtomCause : Environment → ℕ → Cursor → Diagnostic → Type 0
IsAtomCause e added r diagnostic =
    IsOfText e r → (from : ℕ) (at_class : List CodePoint) → IsAtomPlace e from at_class r.place (rest r) → IsClassCause e.mode r.units r.first added from at_class r.place diagnostic

-- What stands at the reader's place is answered as an atom of a class (ClassAtom, 22.2.1).
pub data GivesAtom (e : Environment) (added : ℕ) (old new : Cursor) : Result ClassAtom Fault → Type 0 where
  some : {it : ClassAtom} (w more : List CodePoint) → rest old ≡ w ++ more → SpellsAtom e (atom_of it) w more → atom_obeys (atom_of it) ≡ true
      → atom_span it ≡ span_between old.units old.first added old.place (old.place + length w) → new ≡ move_on (length w) old → GivesAtom e added old new (Ok it)
  refused : {diagnostic : Diagnostic} → IsAtomCause e added old diagnostic → KeepsUnits old new → GivesAtom e added old new (Err (fault.Diagnostic diagnostic))
  no_memory : KeepsUnits old new → GivesAtom e added old new (Err fault.OutOfMemory)

-- the span between two offsets
abbrev pub between : ℕ → ℕ → Span
between start end = record { start = start; end = end }

-- What comes of two atoms with a `-` between them: a range, or its refusal (22.2.1.1).
pub data IsBetween : ClassAtom → ClassAtom → Result CharacterClassRange Diagnostic → Type 0 where
  range : {min max : Character} → min.value ≤ max.value
      → IsBetween (atom.Character min) (atom.Character max) (Ok (record { span = between min.span.start max.span.end; min = min; max = max }))
  dash_out_of_order : {min max : Character} → max.value < min.value → max.value ≡ ascii.hyphen
      → IsBetween (atom.Character min) (atom.Character max) (Err (CharacterClassRangeDashNotSubtraction (between min.span.end max.span.end)))
  out_of_order : {min max : Character} → max.value < min.value → max.value ≢ ascii.hyphen
      → IsBetween (atom.Character min) (atom.Character max) (Err (CharacterClassRangeOutOfOrder (between min.span.end max.span.end) range_kind.ClassAtom))
  no_character : {low high : ClassAtom} → (is_character (atom_of low) && is_character (atom_of high)) ≡ false
      → IsBetween low high (Err (CharacterClassRangeInvalidAtom (between (atom_span low).start (atom_span high).end)))

-- The same of each class in which an item may stand there; the refusal holds at a place of the class.
abbrev pub IsItemCause : Environment → ℕ → Cursor → Diagnostic → Type 0
IsItemCause e added r diagnostic =
    IsOfText e r → (from : ℕ) (at_class : List CodePoint) → IsItemPlace e from at_class r.place (rest r) → (place : ℕ) × IsClassCause e.mode r.units r.first added from at_class place diagnostic

-- a member that classes without `v` may have: no class, and no class string
abbrev pub IsPlain : Member → Type 0
IsPlain (tree.range r) = Unit {0}
IsPlain (tree.escape e) = Unit {0}
IsPlain (tree.property p) = Unit {0}
IsPlain (tree.character c) = Unit {0}
IsPlain (tree.nested c) = ⊥
IsPlain (tree.strings d) = ⊥

abbrev pub ArePlain : List Member → Type 0
ArePlain [] = Unit {0}
ArePlain (m ∷ ms) = IsPlain m × ArePlain ms

-- The units w, at least one, spell members from place i on, where o gives the offset of a place; they are free of early errors.
pub record IsItem (e : Environment) (o : ℕ → ℕ) (i : ℕ) (ms : List Member) (w more : List CodePoint) : Type 0 where
  pub some : 0 < length w
  pub row : ClassRow e o (more_members_events [] (members ms)) fresh i (w ++ more) fresh (i + length w) more
  pub early : AreEarlyMembers (members ms)
  pub plain : ArePlain ms
  pub no_strings : any_strings (members ms) ≡ false

-- the item as contents of a class
abbrev pub item_contents : ClassItem → List CharacterClassContents
item_contents (item.One it) = it ∷ []
item_contents (item.Three first hyphen last) = first ∷ hyphen ∷ last ∷ []

abbrev pub item_members : ClassItem → List Member
item_members it = map mirror_contents (item_contents it)

-- two atoms with a `-` between are three items, with `u` or without
abbrev pub are_three : Bool → Atom → Atom → Bool
are_three unicode low high = not unicode && not (is_character low && is_character high)

-- What is answered of two atoms that are not three items: a range of them as an item, or why they are none.
pub data IsRangeItem (low high : ClassAtom) : Result ClassItem Fault → Type 0 where
  range : {range : CharacterClassRange} {given : CharacterClassContents} → IsBetween low high (Ok range) → mirror_contents given ≡ tree.range range → IsRangeItem low high (Ok (item.One given))
  refused : {diagnostic : Diagnostic} → IsBetween low high (Err diagnostic) → IsRangeItem low high (Err (fault.Diagnostic diagnostic))
  no_memory : IsRangeItem low high (Err fault.OutOfMemory)

-- the `-` of three items
abbrev pub hyphen_member : Span → Member
hyphen_member span = tree.character (record { span = span; kind = kind.Symbol; value = ascii.hyphen })

-- What stands at the reader's place is answered as an item of a class: an atom, or a range (NonemptyClassRanges, 22.2.1), or three items (CharacterRangeOrUnion, B.1.2).
pub data GivesItem (e : Environment) (added : ℕ) (old new : Cursor) : Result ClassItem Fault → Type 0 where
  some : {it : ClassItem} (w more : List CodePoint) → rest old ≡ w ++ more
      → IsItem e (λ i. offset_at old.first old.units i + added) old.place (item_members it) w more → new ≡ move_on (length w) old → GivesItem e added old new (Ok it)
  refused : {diagnostic : Diagnostic} → IsItemCause e added old diagnostic → KeepsUnits old new → GivesItem e added old new (Err (fault.Diagnostic diagnostic))
  no_memory : KeepsUnits old new → GivesItem e added old new (Err fault.OutOfMemory)

-- An item of a class that begins at a byte is refused, or the text ends there.
pub data RefusesItem (e : Environment) (added start : ℕ) (old new : Cursor) : Fault → Type 0 where
  refused_item : {cause : Fault} → GivesItem e added old new (Err cause) → RefusesItem e added start old new cause
  no_end : {span : Span} → rest old ≡ [] → new ≡ old → span ≡ span_to added start old → RefusesItem e added start old new (fault.Diagnostic (UnterminatedPattern span what.CharacterClass))

-- An item is answered, and is added after the contents before it.
pub record AddsItem (e : Environment) (added : ℕ) (old new : Cursor) (before after : List CharacterClassContents) : Type 0 where
  pub it : ClassItem
  pub gives : GivesItem e added old new (Ok it)
  pub adds : after ≡ before ++ item_contents it

-- A range is added after the contents before it.
pub record AddsRange (before after : List CharacterClassContents) (range : CharacterClassRange) : Type 0 where
  pub given : CharacterClassContents
  pub is : mirror_contents given ≡ tree.range range
  pub adds : after ≡ before ++ given ∷ []

-- the contents of a class
abbrev pub contents : List CharacterClassContents → Members
contents body = members (map mirror_contents body)
