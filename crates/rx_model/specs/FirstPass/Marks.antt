-- What counting groups sees of a text (CountLeftCapturingParensWithin, 22.2.1.2), also of one that no tree spells: a row of marks, of which
-- the openings and closers say what stands in what.
use Rattle.std.specs.Prelude.{◌≡◌, ℕ, zero, suc, ◌+◌, ◌<◌, ◌≤◌, ◌==◌, ◌&&◌, ◌||◌, Bool, true, false, Option, Some, None, List, [], ◌∷◌, ◌++◌, length, drop, get_or, if◌then◌else◌}
use Rattle.rx_base.specs.Ascii as ascii
use Rattle.rx_model.specs.declared.mode.Mode.{Mode}
use Rattle.rx_model.specs.Groups.GroupNameReading.{name_of}
use Rattle.rx_model.specs.Inputs.Environment.{is_sets, is_unicode}
use Rattle.rx_model.specs.Trees.Names.{once_after}

-- what a stretch of a text is to the counting of groups
pub data Mark : Type 0 where
  -- a unit, an escape or a class that opens and closes nothing
  other : Mark
  bar : Mark
  closer : Mark
  -- an opening that does not capture
  quiet : Mark
  -- an opening that captures, with the units between its `<` and its `>` where both are there
  capturing : Option (List ℕ) → Mark

-- whether the first unit is this one
abbrev pub starts : ℕ → List ℕ → Bool
starts c [] = false
starts c (u ∷ us) = u == c

-- how many units an escape has after its backslash: one, where one is left
abbrev pub escape_rest : List ℕ → ℕ
escape_rest [] = 0
escape_rest (u ∷ us) = 1

-- how many classes are open in a class after a unit that ends none, where n were: with `v` a `[` opens one (NestedClass, 22.2.1)
abbrev pub classes_open_after : Mode → ℕ → ℕ → ℕ
classes_open_after mode u n = if u == ascii.left_bracket && is_sets mode then suc n else n

-- how many units a class has after its `[`: up to and with its `]`, or all; n classes are open in it, each up to and with a `]` of its own, and `escaped`
-- says that a backslash stands right before
abbrev pub class_rest : Mode → Bool → ℕ → List ℕ → ℕ
class_rest mode escaped n [] = 0
class_rest mode true n (u ∷ us) = class_rest mode false n us + 1
class_rest mode false zero (u ∷ us) = if u == ascii.right_bracket then 1 else class_rest mode (u == ascii.backslash) (classes_open_after mode u zero) us + 1
class_rest mode false (suc n) (u ∷ us) = if u == ascii.right_bracket then class_rest mode false n us + 1 else class_rest mode (u == ascii.backslash) (classes_open_after mode u (suc n)) us + 1

-- the units before the next `>`, or all
abbrev pub before_close : List ℕ → List ℕ
before_close [] = []
before_close (u ∷ us) = if u == ascii.greater_than then [] else u ∷ before_close us

-- whether a `>` is among the units
abbrev pub has_close : List ℕ → Bool
has_close [] = false
has_close (u ∷ us) = if u == ascii.greater_than then true else has_close us

-- a capturing opening up to and with the next `>`, or to the end (GroupSpecifier, 22.2.1)
abbrev pub specifier_front : List ℕ → Mark × ℕ
specifier_front us =
    if has_close us then (capturing (Some (before_close us)), length (before_close us) + 3) else (capturing None, length us + 2)

-- what stands after `(?<`: a lookbehind, or a capturing group's name
abbrev pub after_angle : List ℕ → Mark × ℕ
after_angle us = if starts ascii.equals us || starts ascii.exclamation_mark us then (quiet, 3) else specifier_front us

-- what stands after `(?`: all but a group's name is quiet
abbrev pub question_front : List ℕ → Mark × ℕ
question_front us =
    if starts ascii.less_than us then after_angle (drop 1 us)
    else (if starts ascii.colon us || starts ascii.equals us || starts ascii.exclamation_mark us then (quiet, 2) else (quiet, 1))

-- what stands after `(`: without a `?` it captures, and takes no more
abbrev pub open_front : List ℕ → Mark × ℕ
open_front us = if starts ascii.question_mark us then question_front (drop 1 us) else (capturing None, 0)

-- the mark that begins with a unit, and how many of the units after it are the mark's
unfoldable pub mark_front : Mode → ℕ → List ℕ → Mark × ℕ
mark_front mode u us =
    if u == ascii.backslash then (other, escape_rest us)
    else (if u == ascii.left_bracket then (other, class_rest mode false 0 us)
    else (if u == ascii.left_parenthesis then open_front us
    else (if u == ascii.right_parenthesis then (closer, 0)
    else (if u == ascii.vertical_bar then (bar, 0)
    else (other, 0)))))

-- the marks after n units
abbrev pub marks_following : Mode → ℕ → List ℕ → List Mark
marks_following mode n [] = []
marks_following mode zero (u ∷ us) = (mark_front mode u us).0 ∷ marks_following mode (mark_front mode u us).1 us
marks_following mode (suc n) (u ∷ us) = marks_following mode n us

-- the marks of a text, each from where the one before ends
-- Why: docs/DECISIONS.md, 26.
abbrev pub marks : Mode → List ℕ → List Mark
marks mode us = marks_following mode 0 us

-- how many groups a mark opens that capture
abbrev pub mark_count : Mark → ℕ
mark_count other = 0
mark_count bar = 0
mark_count closer = 0
mark_count quiet = 0
mark_count (capturing units) = 1

-- how many groups of a text capture
abbrev pub count : List Mark → ℕ
count [] = 0
count (m ∷ ms) = mark_count m + count ms

-- the name of a named opening: what stands between its `<` and its `>`, where that is a name (GroupName, 22.2.1)
abbrev pub mark_name : Mode → Mark → Option (List ℕ)
mark_name mode other = None
mark_name mode bar = None
mark_name mode closer = None
mark_name mode quiet = None
mark_name mode (capturing None) = None
mark_name mode (capturing (Some units)) = name_of (is_unicode mode) units

-- a name as a list of at most one
abbrev pub listed : Option (List ℕ) → List (List ℕ)
listed None = []
listed (Some name) = name ∷ []

-- the names of the named openings, in order
abbrev pub names : Mode → List Mark → List (List ℕ)
names mode [] = []
names mode (m ∷ ms) = listed (mark_name mode m) ++ names mode ms

-- the names in order of first appearance, each once
abbrev pub seen : Mode → List Mark → List (List ℕ)
seen mode ms = once_after [] (names mode ms)

-- whether a mark opens a group
abbrev pub opens : Mark → Bool
opens other = false
opens bar = false
opens closer = false
opens quiet = true
opens (capturing units) = true

-- whether a mark closes a group
abbrev pub closes : Mark → Bool
closes other = false
closes bar = false
closes closer = true
closes quiet = false
closes (capturing units) = false

-- the mark at an index; past the last, one that says nothing
abbrev pub mark_at : List Mark → ℕ → Mark
mark_at [] i = other
mark_at (m ∷ ms) zero = m
mark_at (m ∷ ms) (suc i) = mark_at ms i

-- a truth value as a number, to be counted
abbrev pub one : Bool → ℕ
one b = if b then 1 else 0

-- how many of the n marks from index i on pass a test
abbrev pub tally : (Mark → Bool) → List Mark → ℕ → ℕ → ℕ
tally p ms i zero = 0
tally p ms i (suc n) = tally p ms i n + one (p (mark_at ms (i + n)))

-- The opening at index o is open at mark i: no front part of the marks strictly between them has more closers than openings.
pub record IsOpen (ms : List Mark) (o : ℕ) (i : ℕ) : Type 0 where
  pub before : o < i
  pub opening : opens (mark_at ms o) ≡ true
  pub held : (n : ℕ) → suc o + n ≤ i → tally closes ms (suc o) n ≤ tally opens ms (suc o) n

-- the innermost opening that is open at mark i, or none, which stands for the whole text
abbrev pub IsInner : List Mark → Option ℕ → ℕ → Type 0
IsInner ms None i = (x : ℕ) → IsOpen ms x i → ⊥
IsInner ms (Some o) i = IsOpen ms o i × ((x : ℕ) → IsOpen ms x i → x ≤ o)

-- the innermost opening that is open at both marks, or the whole text
abbrev pub IsCommon : List Mark → Option ℕ → ℕ → ℕ → Type 0
IsCommon ms None a b = (x : ℕ) → IsOpen ms x a → IsOpen ms x b → ⊥
IsCommon ms (Some o) a b = IsOpen ms o a × IsOpen ms o b × ((x : ℕ) → IsOpen ms x a → IsOpen ms x b → x ≤ o)

-- Some bar between the two stands directly in the innermost opening that holds both: they are in different alternatives of one disjunction.
abbrev pub IsParted : List Mark → ℕ → ℕ → Type 0
IsParted ms a b =
    (o : Option ℕ) × (k : ℕ) × IsCommon ms o a b × (a < k) × (k < b) × (mark_at ms k ≡ bar) × IsInner ms o k

-- Two named openings of equal names clash. Where two groups may have one name, they clash only if no bar parts them, so that both might take part
-- (22.2.1.1, 22.2.1.4 MightBothParticipate).
-- Why: docs/DECISIONS.md, 66.
pub record Clash (mode : Mode) (duplicate_names : Bool) (ms : List Mark) (a : ℕ) (b : ℕ) : Type 0 where
  pub in_order : a < b
  pub name : List ℕ
  pub first : mark_name mode (mark_at ms a) ≡ Some name
  pub second : mark_name mode (mark_at ms b) ≡ Some name
  pub together : duplicate_names ≡ true → IsParted ms a b → ⊥

-- The first clash: the second of the two is the least, and then the first.
pub record IsFirstClash (mode : Mode) (duplicate_names : Bool) (ms : List Mark) (a : ℕ) (b : ℕ) : Type 0 where
  pub clash : Clash mode duplicate_names ms a b
  pub second_least : (x y : ℕ) → Clash mode duplicate_names ms x y → b ≤ y
  pub first_least : (x : ℕ) → Clash mode duplicate_names ms x b → a ≤ x

-- how many units stand between the `<` and the `>` of a mark
abbrev pub name_length : Mark → ℕ
name_length other = 0
name_length bar = 0
name_length closer = 0
name_length quiet = 0
name_length (capturing None) = 0
name_length (capturing (Some units)) = length units

-- the place of each mark, from place `at` on, after n units
abbrev pub places_following : Mode → ℕ → ℕ → List ℕ → List ℕ
places_following mode at n [] = []
places_following mode at zero (u ∷ us) = at ∷ places_following mode (at + 1) (mark_front mode u us).1 us
places_following mode at (suc n) (u ∷ us) = places_following mode (at + 1) n us

-- the places of the marks of a text, in units
abbrev pub places : Mode → List ℕ → List ℕ
places mode us = places_following mode 0 0 us

-- the place at which the mark with this index begins
abbrev pub mark_place : Mode → List ℕ → ℕ → ℕ
mark_place mode us k = get_or (places mode us) k 0

-- the places before and after the name of the opening with this index: after its `(?<`, and at its `>`
abbrev pub name_places : Mode → List ℕ → ℕ → ℕ × ℕ
name_places mode us k = (mark_place mode us k + 3, mark_place mode us k + 3 + name_length (mark_at (marks mode us) k))
