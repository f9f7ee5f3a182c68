-- The names of groups (RegExpIdentifierName, 22.2.1). Text is a list of the values of units, and `.. w rest` says that w spells a thing before rest.
use Rattle.std.specs.Prelude.{◌≡◌, ℕ, Bool, true, false, List, [], ◌∷◌, ◌++◌, length, if◌then◌else◌}
use Rattle.rx_base.specs.Ascii as ascii
use Rattle.rx_base.specs.SurrogatePair.{IsLeadSurrogate, IsTrailSurrogate, surrogate_pair}
use Rattle.rx_tables.specs.Identifiers.{is_identifier_part_char, is_identifier_start_char, is_unicode_id_continue, is_unicode_id_start}
use Rattle.rx_model.specs.Characters.UnicodeEscapes.{SpellsUnicode}

-- whether a character stands in a name: first, an IdentifierStartChar (12.7), else an IdentifierPartChar
abbrev pub is_in_name : Bool → ℕ → Bool
is_in_name first c = if first then is_identifier_start_char c else is_identifier_part_char c

-- whether a raw pair stands in a name: first, as UnicodeIDStart (12.7), else as UnicodeIDContinue
abbrev pub is_pair_in_name : Bool → ℕ → Bool
is_pair_in_name first c = if first then is_unicode_id_start c else is_unicode_id_continue c

-- A code point of a name is spelled before rest (RegExpIdentifierStart and RegExpIdentifierPart, 22.2.1). A raw lead before a raw trail is
-- no name character by itself, since no surrogate is a character of identifiers: so no row asks what rest begins with.
pub data SpellsNameCharacter (unicode_mode : Bool) (first : Bool) : ℕ → List ℕ → List ℕ → Type 0 where
  -- one unit
  one_unit : {c : ℕ} {rest : List ℕ} → is_in_name first c ≡ true → SpellsNameCharacter unicode_mode first c (c ∷ []) rest
  -- a backslash and a unicode escape as with `u`, in every mode
  by_escape : {c : ℕ} {w rest : List ℕ} → SpellsUnicode true c w rest → is_in_name first c ≡ true → SpellsNameCharacter unicode_mode first c (ascii.backslash ∷ w) rest
  -- with neither `u` nor `v`, a raw lead and a raw trail, combined
  raw_pair : {lead trail : ℕ} {rest : List ℕ} → unicode_mode ≡ false → IsLeadSurrogate lead → IsTrailSurrogate trail
      → is_pair_in_name first (surrogate_pair lead trail) ≡ true → SpellsNameCharacter unicode_mode first (surrogate_pair lead trail) (lead ∷ trail ∷ []) rest

-- Code points that go on in a name are spelled one after the other, each before all that follows it (RegExpIdentifierPart, 22.2.1).
pub data SpellsNameParts (unicode_mode : Bool) : List ℕ → List ℕ → List ℕ → Type 0 where
  no_part : {rest : List ℕ} → SpellsNameParts unicode_mode [] [] rest
  part : {c : ℕ} {cs : List ℕ} (w v rest : List ℕ) → SpellsNameCharacter unicode_mode false c w (v ++ rest) → SpellsNameParts unicode_mode cs v rest
      → SpellsNameParts unicode_mode (c ∷ cs) (w ++ v) rest

-- A name is spelled before rest (RegExpIdentifierName, 22.2.1): one code point that begins it, then those that go on in it.
pub data SpellsName (unicode_mode : Bool) : List ℕ → List ℕ → List ℕ → Type 0 where
  whole_name : {c : ℕ} {cs : List ℕ} (w v rest : List ℕ) → SpellsNameCharacter unicode_mode true c w (v ++ rest) → SpellsNameParts unicode_mode cs v rest
      → SpellsName unicode_mode (c ∷ cs) (w ++ v) rest

-- All of a text spells a name (CapturingGroupName, 22.2.1, is its code points).
abbrev pub IsGroupName : Bool → List ℕ → List ℕ → Type 0
IsGroupName unicode_mode us name = SpellsName unicode_mode name us []

-- A text begins with a name of n units, after which no further code point goes on in it.
pub record BeginsWithName (unicode_mode : Bool) (us name : List ℕ) (count : ℕ) : Type 0 where
  pub spelled : List ℕ
  pub rest : List ℕ
  pub spells : SpellsName unicode_mode name spelled rest
  pub whole : us ≡ spelled ++ rest
  pub count_is : length spelled ≡ count
  pub ends : (c : ℕ) (w more : List ℕ) → SpellsNameCharacter unicode_mode false c w more → rest ≡ w ++ more → ⊥

-- The longest row of characters of a name at the front of a text is n units; where no name stands there, none.
pub data IsNameRow (unicode_mode : Bool) (us : List ℕ) : ℕ → Type 0 where
  no_name : ((c : ℕ) (w more : List ℕ) → SpellsNameCharacter unicode_mode true c w more → us ≡ w ++ more → ⊥) → IsNameRow unicode_mode us 0
  some_name : {name : List ℕ} {count : ℕ} → BeginsWithName unicode_mode us name count → IsNameRow unicode_mode us count
