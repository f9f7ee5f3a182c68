-- How a name and its `>` are read after `(?<` and `\k<` (GroupName, 22.2.1): what stands, or why nothing does. What names mean stands in GroupNames.
use Rattle.std.specs.Prelude.{ℕ, Bool, true, false, not, ◌==◌, ◌&&◌, nat_lt, List, [], ◌∷◌, drop, if◌then◌else◌}
use Rattle.rx_base.specs.Ascii as ascii
use Rattle.rx_base.specs.Characters.{is_lead, is_trail}
use Rattle.rx_model.specs.Characters.Decoding.{Decoded, value, invalid, overflow, decoding_of}
use Rattle.rx_model.specs.FirstPass.Marks.{starts}
use Rattle.rx_model.specs.Groups.GroupNameReading.{NameRow, row, name_at}

-- What stands after n units of a name's characters where no name ends: neither an escape nor, after some, a `>`; with neither `u` nor `v` a raw
-- pair that may not stand there; an escape of n units, of what may not stand there; a backslash that begins no escape, or none though with `u` or `v`
-- a `u` follows it; an escape whose digits pass 32 bits after n of them.
pub data NameHalt : Type 0 where
  unterminated : ℕ → NameHalt
  misplaced_pair : ℕ → NameHalt
  misplaced : ℕ → ℕ → NameHalt
  no_escape : ℕ → NameHalt
  no_escape_of_u : ℕ → NameHalt
  many_digits : ℕ → ℕ → NameHalt

-- a name of n units, which a `>` ends; or why there is none
pub data NameRead : Type 0 where
  name_read : List ℕ → ℕ → NameRead
  no_name_read : NameHalt → NameRead

-- whether a raw lead and a raw trail stand next
abbrev pub begins_pair : List ℕ → Bool
begins_pair [] = false
begins_pair (c ∷ []) = false
begins_pair (c ∷ d ∷ w) = is_lead c && is_trail d

-- after n units of a name and a backslash
abbrev pub escape_halt : Bool → ℕ → List ℕ → Decoded → NameHalt
escape_halt unicode_mode count w (value v n) = misplaced count n
escape_halt unicode_mode count w (overflow many) = many_digits count many
escape_halt unicode_mode count w invalid = if unicode_mode && starts ascii.u w then no_escape_of_u count else no_escape count

-- after n units of a name, which are none where none begins
abbrev pub read_after_name : Bool → List ℕ → ℕ → List ℕ → NameRead
read_after_name unicode_mode name count [] = no_name_read (unterminated count)
read_after_name unicode_mode name count (c ∷ w) =
    if nat_lt 0 count && (c == ascii.greater_than) then name_read name count
    else (if c == ascii.backslash then no_name_read (escape_halt unicode_mode count w (decoding_of true w))
    else (if not unicode_mode && begins_pair (c ∷ w) then no_name_read (misplaced_pair count) else no_name_read (unterminated count)))

abbrev pub read_from_row : Bool → NameRow → List ℕ → NameRead
read_from_row unicode_mode (row name count) w = read_after_name unicode_mode name count (drop count w)

-- the name and the `>` at the front
abbrev pub name_read_at : Bool → List ℕ → NameRead
name_read_at unicode_mode w = read_from_row unicode_mode (name_at unicode_mode w) w
