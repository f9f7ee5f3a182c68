-- A text begins with at most one name: the characters of a name are a list that ends before a stop.
use Rattle.std.proofs.Common.{◌≡◌, refl, sym, ap, ap₂, ◌∙◌, subst, ℕ, Bool, true, false, List, [], ◌∷◌, ◌++◌, append_assoc, length, length-append, drop, arith, inl, inr}
use Rattle.std.proofs.Math.Seq.{drop-append_seam}
use Rattle.std.proofs.lemmas.Bool.{eqb-true}
use Rattle.rx_model.specs.Reading.ElementKinds.{IsNameEnd}
use Rattle.rx_model.specs.Groups.GroupNames.{SpellsNameCharacter, SpellsNameParts, no_part, part, SpellsName, whole_name, BeginsWithName}
use Rattle.rx_model.specs.Groups.GroupNameReading.{character, no_character, name_character_at}
use Rattle.rx_model.specs.FirstPass.Marks.{starts}
use Rattle.rx_units.specs.Sequences.{ElementRow}
use Rattle.rx_model.proofs.Groups.GroupNames.{spelled_character, character_some, closer_ends}
use Rattle.rx_units.proofs.Sequences.{one, one_between}

abbrev pub after_character : Bool → ℕ → List ℕ → Bool
after_character first c rest = false

closer_front : (us : List ℕ) → starts 62 us ≡ true → (rest : List ℕ) × (us ≡ 62 ∷ rest)
closer_front [] h = absurd (let no : ⊥ = cc h in no)
closer_front (u ∷ us) h = (us, ap (λ u. u ∷ us) (eqb-true u 62 h))

module _ (unicode_mode : Bool) where
  -- Two characters that one text begins with are one.
  pub one_character : (first : Bool) (c d : ℕ) (w more v rest : List ℕ) → w ++ more ≡ v ++ rest → SpellsNameCharacter unicode_mode first c w more → SpellsNameCharacter unicode_mode first d v rest → (c ≡ d) × (more ≡ rest)
  one_character first c d w more v rest h a b =
      let k : character c (length w) ≡ character d (length v) =
      sym (spelled_character unicode_mode first c w more a) ∙ ap (name_character_at unicode_mode first) h ∙ spelled_character unicode_mode first d v rest b in
      let same : c ≡ d = cc k in
      let counts : length w ≡ length v = cc k in
      (same, sym (drop-append_seam w more) ∙ ap₂ drop counts h ∙ drop-append_seam v rest)

  pub none_at_end : (first : Bool) (us : List ℕ) → IsNameEnd unicode_mode first us → (c : ℕ) (w rest : List ℕ) → us ≡ w ++ rest → SpellsNameCharacter unicode_mode first c w rest → ⊥
  none_at_end first us (inl closed) c w rest whole s =
      let f = closer_front us closed in
      let no : no_character ≡ character c (length w) =
      sym (closer_ends unicode_mode first f.0) ∙ ap (name_character_at unicode_mode first) (sym f.1 ∙ whole) ∙ spelled_character unicode_mode first c w rest s in
      cc no
  none_at_end first us (inr none) c w rest whole s = none c w rest s whole

  parts_row : (cs w rest : List ℕ) → SpellsNameParts unicode_mode cs w rest → ElementRow (SpellsNameCharacter unicode_mode) after_character cs false (w ++ rest) false rest
  parts_row _ _ rest no_part = (refl, refl)
  parts_row _ _ _ (part {c} {cs} w v rest s more) = (w, v ++ rest, append_assoc w v rest, s, parts_row cs v rest more)

  -- A name is a list of characters.
  pub name_row : (name w rest : List ℕ) → SpellsName unicode_mode name w rest → ElementRow (SpellsNameCharacter unicode_mode) after_character name true (w ++ rest) false rest
  name_row _ _ _ (whole_name {c} {cs} w v rest s more) = (w, v ++ rest, append_assoc w v rest, s, parts_row cs v rest more)

  pub row_parts : (cs us rest : List ℕ) → ElementRow (SpellsNameCharacter unicode_mode) after_character cs false us false rest → (w : List ℕ) × (us ≡ w ++ rest) × SpellsNameParts unicode_mode cs w rest
  row_parts [] us rest r = ([], r.1, no_part)
  row_parts (c ∷ cs) us rest r =
      let p = row_parts cs r.1 rest r.4 in
      (r.0 ++ p.0, r.2 ∙ ap (λ more. r.0 ++ more) p.1 ∙ sym (append_assoc r.0 p.0 rest), part r.0 p.0 rest (subst (λ more. SpellsNameCharacter unicode_mode false c r.0 more) p.1 r.3) p.2)

  pub row_name : (name us rest : List ℕ) → ElementRow (SpellsNameCharacter unicode_mode) after_character name true us false rest → (w : List ℕ) × (us ≡ w ++ rest) × SpellsName unicode_mode name w rest
  row_name [] us rest r = absurd (let no : ⊥ = cc r.0 in no)
  row_name (c ∷ cs) us rest r =
      let p = row_parts cs r.1 rest r.4 in
      (r.0 ++ p.0, r.2 ∙ ap (λ more. r.0 ++ more) p.1 ∙ sym (append_assoc r.0 p.0 rest), whole_name r.0 p.0 rest (subst (λ more. SpellsNameCharacter unicode_mode true c r.0 more) p.1 r.3) p.2)

  -- Two names of one text, after each of which a name ends, are one.
  one_ended : (name other w rest v back : List ℕ) → SpellsName unicode_mode name w rest → SpellsName unicode_mode other v back → w ++ rest ≡ v ++ back → IsNameEnd unicode_mode false rest → IsNameEnd unicode_mode false back →
      (name ≡ other) × (rest ≡ back)
  one_ended name other w rest v back a b h stop ends =
      let row = subst (λ us. ElementRow (SpellsNameCharacter unicode_mode) after_character other true us false back) (sym h) (name_row other v back b) in
      let o = one (SpellsNameCharacter unicode_mode) after_character one_character (IsNameEnd unicode_mode) none_at_end name other true (w ++ rest) false rest false back (name_row name w rest a) stop row ends in
      (o.0, o.2)

  pub one_closed : (name other w rest v back : List ℕ) → SpellsName unicode_mode name w (62 ∷ rest) → SpellsName unicode_mode other v (62 ∷ back) → w ++ (62 ∷ rest) ≡ v ++ (62 ∷ back) → (name ≡ other) × (rest ≡ back)
  one_closed name other w rest v back a b h =
      let o = one_ended name other w (62 ∷ rest) v (62 ∷ back) a b h (inl refl) (inl refl) in
      let same : (62 ∷ rest) ≡ (62 ∷ back) = o.1 in
      (o.0, cc same)

  pub begins_unique : (us name other : List ℕ) (n m : ℕ) → BeginsWithName unicode_mode us name n → BeginsWithName unicode_mode us other m → (name ≡ other) × (n ≡ m)
  begins_unique us name other n m a b =
      let o = one_ended name other a.spelled a.rest b.spelled b.rest a.spells b.spells (sym a.whole ∙ b.whole) (inr a.ends) (inr b.ends) in
      (o.0, omega (arith, ap length o.1, ap length (sym a.whole ∙ b.whole), length-append a.spelled a.rest, length-append b.spelled b.rest, a.count_is, b.count_is))

  pub one_spelled : (name other w rest : List ℕ) → SpellsName unicode_mode name w rest → SpellsName unicode_mode other w rest → name ≡ other
  one_spelled name other w rest a b =
      (one_between (SpellsNameCharacter unicode_mode) after_character one_character some_units name other true (w ++ rest) false false rest (name_row name w rest a) (name_row other w rest b)).0
    where
      some_units : (first : Bool) (c : ℕ) (rest : List ℕ) → SpellsNameCharacter unicode_mode first c [] rest → ⊥
      some_units first c rest s = omega (arith, character_some unicode_mode first c [] rest s)
