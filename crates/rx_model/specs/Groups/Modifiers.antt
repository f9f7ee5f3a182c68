-- The modifiers of a group (RegularExpressionModifiers and RegularExpressionModifier, 22.2.1).
use Rattle.std.specs.Prelude.{◌≡◌, ◌≢◌, ℕ, ◌+◌, Bool, true, false, ◌==◌, ◌||◌, List, [], ◌∷◌, ◌++◌, if◌then◌else◌, codes}
use Rattle.std.specs.List.{list_all, list_any}
use Rattle.rx_base.specs.Ascii as ascii
use Rattle.rx_base.specs.Characters.{is_one_of}

-- RegularExpressionModifier
abbrev pub is_modifier : ℕ → Bool
is_modifier c = is_one_of (codes "ims") c

-- whether a character is among these
abbrev pub occurs : ℕ → List ℕ → Bool
occurs c w = list_any (λ d. d == c) w

-- whether some character is there twice
abbrev pub has_twice : List ℕ → Bool
has_twice [] = false
has_twice (c ∷ w) = occurs c w || has_twice w

-- whether some character is among both
abbrev pub share_some : List ℕ → List ℕ → Bool
share_some w v = list_any (λ c. occurs c v) w

-- the bits of the letters that are there: i is 1, m is 2, s is 4
abbrev pub letters_bits : List ℕ → ℕ
letters_bits w = (if occurs ascii.i w then 1 else 0) + (if occurs ascii.m w then 2 else 0) + (if occurs ascii.s w then 4 else 0)

-- Letters, and where a `-` stands after them those after it; and the text of both.
pub data AreSides : List ℕ → List ℕ → List ℕ → Type 0 where
  one_side : {w : List ℕ} → list_all is_modifier w ≡ true → AreSides w [] w
  two_sides : (w v : List ℕ) → list_all is_modifier w ≡ true → list_all is_modifier v ≡ true → AreSides w v (w ++ (ascii.hyphen ∷ v))

-- Modifiers with these bits are spelled: some text, with no letter twice on one side (22.2.1.1). That no letter is on both sides and that there is
-- one are left to the early errors of the tree, which holds the bits.
pub record SpellsModifiers (enabling disabling : ℕ) (text : List ℕ) : Type 0 where
  pub enabled : List ℕ
  pub disabled : List ℕ
  pub sides : AreSides enabled disabled text
  pub some : text ≢ []
  -- Why: docs/DECISIONS.md, 25.
  pub once : (has_twice enabled || has_twice disabled) ≡ false
  pub enabling_is : enabling ≡ letters_bits enabled
  pub disabling_is : disabling ≡ letters_bits disabled
