-- The names that are spelled: what is known of their characters, and that each name spells itself.
use Rattle.std.proofs.Common.{◌≡◌, refl, ap, ℕ, Bool, true, false, ◌==◌, ◌||◌, List, [], ◌∷◌, codes}
use Rattle.std.specs.List.{list_all}
use Rattle.std.proofs.lemmas.Bool.{and_from}
use Rattle.rx_base.specs.Characters.{is_one_of}
use Rattle.rx_base.specs.SurrogatePair.{surrogate_pair}
use Rattle.rx_units.proofs.Choices.{both}
use Rattle.rx_model.specs.Groups.GroupNames.{is_in_name, is_pair_in_name, SpellsNameCharacter, one_unit, by_escape, raw_pair, SpellsNameParts, no_part, part, SpellsName, whole_name}

-- A character that begins names, and characters that go on in them.
abbrev pub IsName : List ℕ → Type 0
IsName [] = ⊥
IsName (c ∷ cs) = (is_in_name true c ≡ true) × (list_all (is_in_name false) cs ≡ true)

-- what is in a name as a pair is in it
pair_in_name : (first : Bool) (c : ℕ) → is_pair_in_name first c ≡ true → is_in_name first c ≡ true
pair_in_name true c h = ap (λ b. b || is_one_of (codes "$_") c) h
pair_in_name false c h = ap (λ b. b || c == 36) h

module _ (unicode_mode : Bool) where
  character_known : (first : Bool) (c : ℕ) (w rest : List ℕ) → SpellsNameCharacter unicode_mode first c w rest → is_in_name first c ≡ true
  character_known first c _ rest (one_unit h) = h
  character_known first c _ rest (by_escape s h) = h
  character_known first _ _ rest (raw_pair {lead} {trail} legacy l t h) = pair_in_name first (surrogate_pair lead trail) h

  parts_known : (cs w rest : List ℕ) → SpellsNameParts unicode_mode cs w rest → list_all (is_in_name false) cs ≡ true
  parts_known _ _ rest no_part = refl
  parts_known _ _ _ (part {c} {cs} w v rest s more) = and_from _ _ (character_known false c w _ s) (parts_known cs v rest more)

  -- what is spelled as a name is one
  pub name_known : (name w rest : List ℕ) → SpellsName unicode_mode name w rest → IsName name
  name_known _ _ _ (whole_name {c} {cs} w v rest s more) = (character_known true c w _ s, parts_known cs v rest more)

  parts_spelled : (cs rest : List ℕ) → list_all (is_in_name false) cs ≡ true → SpellsNameParts unicode_mode cs cs rest
  parts_spelled [] rest h = no_part
  parts_spelled (c ∷ cs) rest h = let p = both (is_in_name false c) (list_all (is_in_name false) cs) h in part (c ∷ []) cs rest (one_unit p.0) (parts_spelled cs rest p.1)

  -- a name spells itself, whatever follows
  pub name_spelled : (name rest : List ℕ) → IsName name → SpellsName unicode_mode name name rest
  name_spelled [] rest h = absurd h
  name_spelled (c ∷ cs) rest h = whole_name (c ∷ []) cs rest (one_unit h.0) (parts_spelled cs rest h.1)
