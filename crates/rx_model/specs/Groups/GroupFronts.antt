-- How the front of a group and how references are read: by their first characters, in the order in which the readers look. What they mean stands in Groups.
use Rattle.std.specs.Prelude.{ℕ, suc, ◌+◌, Bool, not, ◌==◌, ◌&&◌, ◌||◌, Option, Some, None, List, [], ◌∷◌, drop, take, if◌then◌else◌}
use Rattle.rx_base.specs.Ascii as ascii
use Rattle.rx_ast.specs.declared.leaf.LookAroundAssertionKind.TheVariants as look
use Rattle.rx_model.specs.Groups.GroupNameReading.{NameRow, row, name_at}
use Rattle.rx_model.specs.FirstPass.Marks.{starts}
use Rattle.rx_model.specs.Groups.Modifiers.{is_modifier, has_twice, letters_bits}
use Rattle.rx_model.specs.Trees.Token.{Opener, capturing, ignoring, looking}

-- a name that a `>` ends, with the units of both; none
abbrev pub closed_name : NameRow → List ℕ → Option (List ℕ × ℕ)
closed_name (row [] n) w = None
closed_name (row (c ∷ cs) n) w = if starts ascii.greater_than (drop n w) then Some (c ∷ cs, n + 1) else None

-- the name and the `>` at the front
abbrev pub name_front : Bool → List ℕ → Option (List ℕ × ℕ)
name_front unicode_mode w = closed_name (name_at unicode_mode w) w

-- how many letters of modifiers stand at the front
abbrev pub letters_at : List ℕ → ℕ
letters_at [] = 0
letters_at (c ∷ w) = if is_modifier c then suc (letters_at w) else 0

-- the letters before a `-`, those after it, and how many units all are
pub data SidesRead : Type 0 where
  sides : List ℕ → List ℕ → ℕ → SidesRead

-- after n letters and a `-`
abbrev pub second_side : List ℕ → ℕ → List ℕ → SidesRead
second_side w n v = sides (take n w) (take (letters_at v) v) (n + 1 + letters_at v)

-- the modifiers at the front
abbrev pub sides_at : List ℕ → SidesRead
sides_at w =
    if starts ascii.hyphen (drop (letters_at w) w) then second_side w (letters_at w) (drop (letters_at w + 1) w)
    else sides (take (letters_at w) w) [] (letters_at w)

-- the group of modifiers that a `:` ends, with no letter twice on one side
abbrev pub modified_group : SidesRead → List ℕ → Option (Opener × ℕ)
modified_group (sides w v n) all =
    if starts ascii.colon (drop n all) && not (has_twice w || has_twice v) then Some (ignoring (Some (letters_bits w, letters_bits v)), n + 3) else None

abbrev pub named_group : Option (List ℕ × ℕ) → Option (Opener × ℕ)
named_group None = None
named_group (Some n) = Some (capturing (Some n.0), n.1 + 3)

-- the group after `(?<`
abbrev pub angle_group : Bool → List ℕ → Option (Opener × ℕ)
angle_group unicode_mode [] = None
angle_group unicode_mode (c ∷ w) =
    if c == ascii.equals then Some (looking look.Lookbehind, 4)
    else (if c == ascii.exclamation_mark then Some (looking look.NegativeLookbehind, 4)
    else named_group (name_front unicode_mode (c ∷ w)))

-- the group after `(?`
abbrev pub question_group : Bool → List ℕ → Option (Opener × ℕ)
question_group unicode_mode [] = None
question_group unicode_mode (c ∷ w) =
    if c == ascii.colon then Some (ignoring None, 3)
    else (if c == ascii.equals then Some (looking look.Lookahead, 3)
    else (if c == ascii.exclamation_mark then Some (looking look.NegativeLookahead, 3)
    else (if c == ascii.less_than then angle_group unicode_mode w
    else modified_group (sides_at (c ∷ w)) (c ∷ w))))

-- what a group begins with after `(`, and how many units that is with the `(`
unfoldable pub group_front : Bool → List ℕ → Option (Opener × ℕ)
group_front unicode_mode [] = Some (capturing None, 1)
group_front unicode_mode (c ∷ w) = if c == ascii.question_mark then question_group unicode_mode w else Some (capturing None, 1)

-- the name of a reference after `\k`, and how many units are after the backslash
unfoldable pub reference_front : Bool → List ℕ → Option (List ℕ × ℕ)
reference_front unicode_mode [] = None
reference_front unicode_mode (c ∷ w) = if c == ascii.less_than then name_front unicode_mode w else None
