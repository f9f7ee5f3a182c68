-- A text as a row of marks, and the names of its openings, with no function that reads it (CountLeftCapturingParensWithin, 22.2.1.2). Text is a list of
-- the values of units, and `.. w rest` says that w is a thing before all that follows it, rest. Marks has the functions that find them.
use Rattle.std.specs.Prelude.{◌≡◌, ℕ, ◌+◌, Bool, false, true, ◌==◌, ◌&&◌, ◌||◌, Contains, None, Some, List, [], ◌∷◌, ◌++◌, length, codes}
use Rattle.rx_base.specs.Ascii as ascii
use Rattle.rx_model.specs.declared.mode.Mode.{Mode}
use Rattle.rx_model.specs.Groups.GroupNames.{SpellsName}
use Rattle.rx_model.specs.Groups.Groups.{is_mark, looks}
use Rattle.rx_model.specs.FirstPass.Marks.{Mark, other, bar, closer, quiet, capturing}
use Rattle.rx_model.specs.Inputs.Environment.{is_sets, is_unicode}
use Rattle.rx_model.specs.Quantifiers.Quantifiers.{is_question}
use Rattle.rx_units.specs.Digits.{front_is}
use Rattle.rx_base.specs.Characters.{is_one_of}

-- whether a unit of a class is more than a unit: a backslash, a `]` or, with `v`, a `[`
abbrev pub is_class_mark : Mode → ℕ → Bool
is_class_mark mode c = c == ascii.backslash || c == ascii.right_bracket || (c == ascii.left_bracket && is_sets mode)

-- After the `[` of a class these units do not end it, and leave no class open in it: each backslash has the unit after it; with `v` each `[` begins a class
-- in it, up to and with its `]` (NestedClass, 22.2.1); and no `]` is among the others.
pub data AreInClass (mode : Mode) : List ℕ → Type 0 where
  no_unit : AreInClass mode []
  escaped_unit : (c : ℕ) {w : List ℕ} → AreInClass mode w → AreInClass mode (ascii.backslash ∷ c ∷ w)
  class_unit : {c : ℕ} {w : List ℕ} → is_class_mark mode c ≡ false → AreInClass mode w → AreInClass mode (c ∷ w)
  inner_class : (inside w : List ℕ) → is_sets mode ≡ true → AreInClass mode inside → AreInClass mode w → AreInClass mode (ascii.left_bracket ∷ (inside ++ (ascii.right_bracket ∷ w)))

-- After the `[` of a class that nothing ends these units are all that is left of the text: a backslash may be the last of them, and with `v` a class in it
-- may be open too.
pub data AreInOpenClass (mode : Mode) : List ℕ → Type 0 where
  all_inside : {inside : List ℕ} → AreInClass mode inside → AreInOpenClass mode inside
  last_escape : (inside : List ℕ) → AreInClass mode inside → AreInOpenClass mode (inside ++ codes "\\")
  open_inside : (inside w : List ℕ) → is_sets mode ≡ true → AreInClass mode inside → AreInOpenClass mode w → AreInOpenClass mode (inside ++ (ascii.left_bracket ∷ w))

-- whether a unit begins an escape or a class, or opens, closes or parts groups
abbrev pub begins_mark : ℕ → Bool
begins_mark c = is_one_of (codes "\\[()|") c

-- The units w are this mark before rest.
pub data SpellsMark (mode : Mode) : Mark → List ℕ → List ℕ → Type 0 where
  -- a backslash and the unit after it, whatever it is
  escape : (c : ℕ) {rest : List ℕ} → SpellsMark mode other (ascii.backslash ∷ c ∷ []) rest
  -- a backslash that ends the text
  last_backslash : SpellsMark mode other (codes "\\") []
  -- a class from `[` to its `]`
  class : {rest : List ℕ} (inside : List ℕ) → AreInClass mode inside → SpellsMark mode other (ascii.left_bracket ∷ (inside ++ codes "]")) rest
  -- a class that nothing ends, to the end of the text
  open_class : (w : List ℕ) → AreInOpenClass mode w → SpellsMark mode other (ascii.left_bracket ∷ w) []
  -- `(` before no `?`
  plain : {rest : List ℕ} → front_is is_question rest ≡ false → SpellsMark mode (capturing None) (codes "(") rest
  -- `(?:`, `(?=`, `(?!`, `(?<=`, `(?<!`
  ignoring : {rest : List ℕ} → SpellsMark mode quiet (codes "(?:") rest
  ahead : {rest : List ℕ} → SpellsMark mode quiet (codes "(?=") rest
  not_ahead : {rest : List ℕ} → SpellsMark mode quiet (codes "(?!") rest
  lookbehind : {rest : List ℕ} → SpellsMark mode quiet (codes "(?<=") rest
  not_lookbehind : {rest : List ℕ} → SpellsMark mode quiet (codes "(?<!") rest
  -- `(?` before none of : = ! <
  modifying : {rest : List ℕ} → front_is is_mark rest ≡ false → SpellsMark mode quiet (codes "(?") rest
  -- `(?<` before neither `=` nor `!`, with all units up to and with the next `>`
  named : {rest : List ℕ} (units : List ℕ) → front_is looks (units ++ (ascii.greater_than ∷ rest)) ≡ false → (Contains units ascii.greater_than → ⊥)
      → SpellsMark mode (capturing (Some units)) (codes "(?<" ++ (units ++ codes ">")) rest
  -- the same to the end, where no `>` comes
  unclosed : (units : List ℕ) → front_is looks units ≡ false → (Contains units ascii.greater_than → ⊥) → SpellsMark mode (capturing None) (codes "(?<" ++ units) []
  closing : {rest : List ℕ} → SpellsMark mode closer (codes ")") rest
  parting : {rest : List ℕ} → SpellsMark mode bar (codes "|") rest
  -- any other unit
  one_unit : {rest : List ℕ} (c : ℕ) → begins_mark c ≡ false → SpellsMark mode other (c ∷ []) rest

-- All of a text is these marks, one after the other, each before all that follows it.
pub data IsMarkRow (mode : Mode) : List ℕ → List Mark → Type 0 where
  no_mark : IsMarkRow mode [] []
  mark : {m : Mark} {ms : List Mark} (w rest : List ℕ) → SpellsMark mode m w rest → IsMarkRow mode rest ms → IsMarkRow mode (w ++ rest) (m ∷ ms)

-- The same by the places at which the marks begin, of which the first is `at`.
pub data ArePlaces (mode : Mode) : ℕ → List ℕ → List ℕ → Type 0 where
  no_place : {at : ℕ} → ArePlaces mode at [] []
  place : {m : Mark} {at : ℕ} {ps : List ℕ} (w rest : List ℕ) → SpellsMark mode m w rest → ArePlaces mode (at + length w) rest ps → ArePlaces mode at (w ++ rest) (at ∷ ps)

-- The units w are a named opening before rest: `(?<`, a name and `>` (GroupSpecifier, 22.2.1). No `>` stands in a name, so that this is the first.
pub record IsNamedOpening (mode : Mode) (name w rest : List ℕ) : Type 0 where
  pub units : List ℕ
  pub whole : w ≡ codes "(?<" ++ (units ++ codes ">")
  pub spells : SpellsName (is_unicode mode) name units (ascii.greater_than ∷ rest)

-- These are the names of a text's named openings, one for each mark that is one, in their order.
pub data AreNames (mode : Mode) : List ℕ → List (List ℕ) → Type 0 where
  no_opening : AreNames mode [] []
  opening : {m : Mark} {name : List ℕ} {names : List (List ℕ)} (w rest : List ℕ) → SpellsMark mode m w rest → IsNamedOpening mode name w rest → AreNames mode rest names
      → AreNames mode (w ++ rest) (name ∷ names)
  nameless : {m : Mark} {names : List (List ℕ)} (w rest : List ℕ) → SpellsMark mode m w rest → ((name : List ℕ) → IsNamedOpening mode name w rest → ⊥) → AreNames mode rest names
      → AreNames mode (w ++ rest) names

-- The names of a list, each once, in the order in which they first appear: a name at its end comes last where it stands nowhere before, and adds nothing
-- where it does.
pub data AreOnce : List (List ℕ) → List (List ℕ) → Type 0 where
  no_name : AreOnce [] []
  fresh : {names once : List (List ℕ)} (name : List ℕ) → AreOnce names once → (Contains names name → ⊥) → AreOnce (names ++ (name ∷ [])) (once ++ (name ∷ []))
  known : {names once : List (List ℕ)} (name : List ℕ) → AreOnce names once → Contains names name → AreOnce (names ++ (name ∷ [])) once

-- These are the names of a text, each once, in the order of their first openings.
pub record AreNamesOnce (mode : Mode) (us : List ℕ) (once : List (List ℕ)) : Type 0 where
  pub names : List (List ℕ)
  pub are : AreNames mode us names
  pub first : AreOnce names once

-- From a place of a text to another stand units that spell this name, right after `(?<` and right before `>`.
pub record IsNameBetween (mode : Mode) (us name : List ℕ) (from : ℕ) (to : ℕ) : Type 0 where
  pub before : List ℕ
  pub units : List ℕ
  pub rest : List ℕ
  pub whole : us ≡ before ++ (codes "(?<" ++ (units ++ (ascii.greater_than ∷ rest)))
  pub spells : SpellsName (is_unicode mode) name units (ascii.greater_than ∷ rest)
  pub from_is : from ≡ length before + 3
  pub to_is : to ≡ from + length units
