-- What a set of texts knows of a list of names.
use Rattle.std.specs.Prelude.{◌≡◌, ℕ, List, String}
use Rattle.std.specs.BTreeSet.{BTreeSet, contains_text}
use Rattle.std.specs.Str.{IsUtf8, chars}
use Rattle.rx_base.specs.Texts.{is_among}

-- The set has exactly the names of the list.
abbrev pub KnowsAll : {A : Type 0} → List (List ℕ) → BTreeSet (String A) → Type 0
KnowsAll names known = (bytes : List ℕ) → IsUtf8 bytes → contains_text known bytes ≡ is_among names (chars bytes)
