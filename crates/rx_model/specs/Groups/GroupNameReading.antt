-- How the name of a group is read: the order in which the readers try the rows of its characters. What it means stands in GroupNames.
use Rattle.std.specs.Prelude.{ℕ, zero, suc, ◌+◌, ◌-◌, Bool, true, false, ◌==◌, ◌&&◌, List, [], ◌∷◌, ◌++◌, length, Option, Some, None, if◌then◌else◌}
use Rattle.rx_base.specs.Ascii as ascii
use Rattle.rx_base.specs.Characters.{is_lead, is_trail}
use Rattle.rx_base.specs.SurrogatePair.{surrogate_pair}
use Rattle.rx_model.specs.Characters.Decoding.{Decoded, value, invalid, overflow, decoding_of}
use Rattle.rx_model.specs.Groups.GroupNames.{is_in_name, is_pair_in_name}

-- a code point of a name in n units; none
pub data NameCharacter : Type 0 where
  character : ℕ → ℕ → NameCharacter
  no_character : NameCharacter

-- the longest row of a name's characters at the front: its code points, and how many units they are
pub data NameRow : Type 0 where
  row : List ℕ → ℕ → NameRow

-- a code point that has passed the test for names, in n units
abbrev pub character_if : Bool → ℕ → ℕ → NameCharacter
character_if passes c count = if passes then character c count else no_character

-- what an escape is to a name, with its backslash
abbrev pub escape_in_name : Bool → Decoded → NameCharacter
escape_in_name first (value c count) = character_if (is_in_name first c) c (suc count)
escape_in_name first invalid = no_character
escape_in_name first (overflow digits) = no_character

-- a unit and the next are a raw pair that a name has
abbrev pub pair_at : Bool → ℕ → List ℕ → NameCharacter
pair_at first lead [] = no_character
pair_at first lead (trail ∷ w) =
    character_if (is_lead lead && is_trail trail && is_pair_in_name first (surrogate_pair lead trail)) (surrogate_pair lead trail) 2

-- a unit that stands for itself in a name, by itself or with the next
abbrev pub raw_at : Bool → Bool → ℕ → List ℕ → NameCharacter
raw_at unicode_mode first x w = if is_in_name first x then character x 1 else (if unicode_mode then no_character else pair_at first x w)

-- the code point of a name at the front, where it is the first of the name or not
abbrev pub name_character_at : Bool → Bool → List ℕ → NameCharacter
name_character_at unicode_mode first [] = no_character
name_character_at unicode_mode first (x ∷ w) = if x == ascii.backslash then escape_in_name first (decoding_of true w) else raw_at unicode_mode first x w

-- a row after some code points of n units
abbrev pub row_following : List ℕ → ℕ → NameRow → NameRow
row_following cs n (row ds m) = row (cs ++ ds) (n + m)

-- a row that begins with what was read; `again` goes on after n further units
abbrev pub row_from : NameCharacter → (ℕ → NameRow) → NameRow
row_from (character c n) again = row_following (c ∷ []) n (again (n - 1))
row_from no_character again = row [] 0

-- the row after n units that were read
abbrev pub row_after : Bool → Bool → ℕ → List ℕ → NameRow
row_after unicode_mode first skipped [] = row [] 0
row_after unicode_mode first (suc skipped) (x ∷ w) = row_after unicode_mode first skipped w
row_after unicode_mode first zero (x ∷ w) = row_from (name_character_at unicode_mode first (x ∷ w)) (λ n. row_after unicode_mode false n w)

-- the longest row that begins a name; of no code point where no name stands there
abbrev pub name_at : Bool → List ℕ → NameRow
name_at unicode_mode us = row_after unicode_mode true 0 us

-- the code points of a row that is all of n units
abbrev pub all_of : ℕ → NameRow → Option (List ℕ)
all_of count (row cs n) = if n == count then Some cs else None

-- the name that all of a text is
abbrev pub name_of : Bool → List ℕ → Option (List ℕ)
name_of unicode_mode [] = None
name_of unicode_mode (x ∷ w) = all_of (length (x ∷ w)) (name_at unicode_mode (x ∷ w))
