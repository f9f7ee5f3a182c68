-- The names of groups: what is spelled is read, and what is read is spelled.
use Rattle.std.proofs.Common.{◌≡◌, ◌↔◌, ℕ, zero, suc, ◌+◌, ◌-◌, ◌<◌, ◌≤◌, ◌==◌, Bool, true, false, cond, ◌&&◌, List, [], ◌∷◌, ◌++◌, drop, length, Some, None, refl, sym, ap, ap₂, ◌∙◌, subst, arith, inl, inr, nat_le, append_assoc, length-append}
use Rattle.std.proofs.lemmas.Bool.{eqb-true, eq-eqb, leb-true, false_from_ne_true}
use Rattle.std.proofs.lemmas.Bool.Decides.{nat_tests}
use Rattle.std.proofs.lemmas.List.{append-nil}
use Rattle.std.proofs.Math.Seq.{drop-append_seam}
use Rattle.rx_base.specs.Characters.{is_lead, is_trail}
use Rattle.rx_base.specs.SurrogatePair.{IsLeadSurrogate, IsTrailSurrogate, surrogate_pair}
use Rattle.rx_units.proofs.Choices.{chosen, both}
use Rattle.rx_model.specs.Characters.Decoding.{Decoded, value, invalid, overflow, decoding_of}
use Rattle.rx_model.specs.Groups.GroupNames.{is_in_name, is_pair_in_name, IsNameRow, no_name, some_name, SpellsNameCharacter, one_unit, by_escape, raw_pair, SpellsNameParts, no_part, part, SpellsName, whole_name, IsGroupName, BeginsWithName}
use Rattle.rx_model.specs.Groups.GroupNameReading.{NameCharacter, character, no_character, NameRow, row, character_if, escape_in_name, pair_at, name_character_at, row_following, row_from, row_after, name_at, all_of, name_of}
use Rattle.rx_model.specs.Characters.UnicodeEscapes.{SpellsUnicode, alone, pair, braced}
use Rattle.rx_model.proofs.Characters.Decoding.{spelled_read, read_spelled}

-- what one set of characters holds is none of what it does not
pub differs : (set : ℕ → Bool) (c d : ℕ) → set d ≡ false → set c ≡ true → (c == d) ≡ false
differs set c d without within = false_from_ne_true (c == d) (λ e. let same : c ≡ d = eqb-true c d e in let no : ⊥ = cc (ap set same, without, within) in no)

no_backslash : (first : Bool) (c : ℕ) → is_in_name first c ≡ true → (c == 92) ≡ false
no_backslash true c h = differs (is_in_name true) c 92 refl h
no_backslash false c h = differs (is_in_name false) c 92 refl h

-- no surrogate is in a name
no_surrogate : (first : Bool) (c : ℕ) → 0xD800 ≤ c → c ≤ 0xDFFF → is_in_name first c ≡ false
no_surrogate true c low high = grind (arith, nat_tests)
no_surrogate false c low high = grind (arith, nat_tests)

pub lead_not_backslash : (c : ℕ) → IsLeadSurrogate c → (c == 92) ≡ false
lead_not_backslash c lead = grind (arith, nat_tests, lead.0)

pub lead_seen : (c : ℕ) → IsLeadSurrogate c → is_lead c ≡ true
lead_seen c lead = grind (arith, nat_tests, lead.0, lead.1)

pub trail_seen : (c : ℕ) → IsTrailSurrogate c → is_trail c ≡ true
trail_seen c trail = grind (arith, nat_tests, trail.0, trail.1)

pub seen_lead : (c : ℕ) → is_lead c ≡ true → IsLeadSurrogate c
seen_lead c h = let p = both (nat_le 0xD800 c) (nat_le c 0xDBFF) h in (leb-true 0xD800 c p.0, leb-true c 0xDBFF p.1)

pub seen_trail : (c : ℕ) → is_trail c ≡ true → IsTrailSurrogate c
seen_trail c h = let p = both (nat_le 0xDC00 c) (nat_le c 0xDFFF) h in (leb-true 0xDC00 c p.0, leb-true c 0xDFFF p.1)

abbrev codes_of : NameRow → List ℕ
codes_of (row cs n) = cs

abbrev units_of : NameRow → ℕ
units_of (row cs n) = n

pub row_after_none : (r : NameRow) → row_following [] 0 r ≡ r
row_after_none (row cs n) = ap (row cs) (omega arith)

pub row_after_twice : (cs ds : List ℕ) (n m : ℕ) (r : NameRow) → row_following cs n (row_following ds m r) ≡ row_following (cs ++ ds) (n + m) r
row_after_twice cs ds n m (row es k) = ap₂ row (sym (append_assoc cs ds es)) (omega arith)

module _ (unicode_mode : Bool) where
  -- a character that is spelled is read
  pub spelled_character : (first : Bool) (c : ℕ) (w rest : List ℕ) → SpellsNameCharacter unicode_mode first c w rest → name_character_at unicode_mode first (w ++ rest) ≡ character c (length w)
  spelled_character first c _ rest (one_unit h) =
      ap (λ b. cond b (escape_in_name first (decoding_of true rest)) (cond (is_in_name first c) (character c 1) (cond unicode_mode no_character (pair_at first c rest)))) (no_backslash first c h)
      ∙ ap (λ b. cond b (character c 1) (cond unicode_mode no_character (pair_at first c rest))) h
  spelled_character first c _ rest (by_escape {w} spells h) =
      ap (escape_in_name first) (spelled_read true c w rest spells)
      ∙ ap (λ b. character_if b c (suc (length w))) h
  spelled_character first _ _ rest (raw_pair {lead} {trail} legacy is_lead_of is_trail_of h) =
      rw (lead_not_backslash lead is_lead_of, no_surrogate first lead is_lead_of.0 (omega (arith, is_lead_of.1)), legacy, lead_seen lead is_lead_of, trail_seen trail is_trail_of, h) refl

  -- a character that is read is spelled
  pub record NameCharacterFront (first : Bool) (c n : ℕ) (us : List ℕ) : Type 0 where
    pub spelled : List ℕ
    pub rest : List ℕ
    pub spells : SpellsNameCharacter unicode_mode first c spelled rest
    pub whole : us ≡ spelled ++ rest
    pub count : length spelled ≡ n

  tested_found : (b : Bool) (c d n m : ℕ) → character_if b c n ≡ character d m → (b ≡ true) × (c ≡ d) × (n ≡ m)
  tested_found true c d n m h = (refl, cc h, cc h)
  tested_found false c d n m h = absurd (let no : ⊥ = cc h in no)

  escape_found : (first : Bool) (w : List ℕ) (c n : ℕ) (read : Decoded) → decoding_of true w ≡ read → escape_in_name first read ≡ character c n → NameCharacterFront first c n (92 ∷ w)
  escape_found first w c n (value v m) e h =
      let t = tested_found (is_in_name first v) v c (suc m) n h in
      let d = read_spelled true w v m e in
      record {
        spelled = 92 ∷ d.spelled;
        rest = d.rest;
        spells = by_escape (subst (λ c. SpellsUnicode true c d.spelled d.rest) t.1 d.spells) (ap (is_in_name first) (sym t.1) ∙ t.0);
        whole = ap (λ w. 92 ∷ w) d.whole;
        count = ap suc d.count ∙ t.2;
      }
  escape_found first w c n invalid e h = absurd (let no : ⊥ = cc h in no)
  escape_found first w c n (overflow m) e h = absurd (let no : ⊥ = cc h in no)

  pair_found : (first : Bool) (x : ℕ) (w : List ℕ) (c n : ℕ) → unicode_mode ≡ false → pair_at first x w ≡ character c n → NameCharacterFront first c n (x ∷ w)
  pair_found first x [] c n legacy h = absurd (let no : ⊥ = cc h in no)
  pair_found first x (y ∷ w) c n legacy h =
      let t = tested_found (is_lead x && is_trail y && is_pair_in_name first (surrogate_pair x y)) (surrogate_pair x y) c 2 n h in
      let p = both (is_lead x && is_trail y) (is_pair_in_name first (surrogate_pair x y)) t.0 in
      let q = both (is_lead x) (is_trail y) p.0 in
      record {
        spelled = x ∷ y ∷ [];
        rest = w;
        spells = subst (λ c. SpellsNameCharacter unicode_mode first c (x ∷ y ∷ []) w) t.1 (raw_pair legacy (seen_lead x q.0) (seen_trail y q.1) p.1);
        whole = refl;
        count = t.2;
      }

  unit_found : (first : Bool) (x : ℕ) (w : List ℕ) (c n : ℕ) → (true ≡ true) × (x ≡ c) × (1 ≡ n) → is_in_name first x ≡ true → NameCharacterFront first c n (x ∷ w)
  unit_found first x w c n t h = record {
    spelled = x ∷ [];
    rest = w;
    spells = subst (λ c. SpellsNameCharacter unicode_mode first c (x ∷ []) w) t.1 (one_unit h);
    whole = refl;
    count = t.2;
  }

  pub character_spelled : (first : Bool) (us : List ℕ) (c n : ℕ) → name_character_at unicode_mode first us ≡ character c n → NameCharacterFront first c n us
  character_spelled first [] c n h = absurd (let no : ⊥ = cc h in no)
  character_spelled first (x ∷ w) c n h = elim (chosen (x == 92) h) [
    | inl p ↦ rw (eqb-true x 92 p.0) (escape_found first w c n (decoding_of true w) refl p.1)
    | inr p ↦ elim (chosen (is_in_name first x) p.1) [
      | inl q ↦ unit_found first x w c n (tested_found true x c 1 n q.1) q.0
      | inr q ↦ elim (chosen unicode_mode q.1) [
        | inl r ↦ absurd (let no : ⊥ = cc r.1 in no)
        | inr r ↦ pair_found first x w c n r.0 r.1
      ]
    ]
  ]

  -- the row after skipped units is that of the rest
  after_skipped : (first : Bool) (n : ℕ) (us : List ℕ) → row_after unicode_mode first n us ≡ row_after unicode_mode first 0 (drop n us)
  after_skipped first zero us = refl
  after_skipped first (suc n) [] = refl
  after_skipped first (suc n) (x ∷ w) = after_skipped first n w

  -- a row goes on after a character that is read
  pub row_steps : (first : Bool) (us : List ℕ) (c n : ℕ) → name_character_at unicode_mode first us ≡ character c n → 0 < n →
      row_after unicode_mode first 0 us ≡ row_following (c ∷ []) n (row_after unicode_mode false 0 (drop n us))
  row_steps first [] c n h some = absurd (let no : ⊥ = cc h in no)
  row_steps first (x ∷ w) c zero h some = absurd (omega arith)
  row_steps first (x ∷ w) c (suc n) h some =
      let less : suc n - 1 ≡ n = omega arith in
      ap (λ o. row_from o (λ n. row_after unicode_mode false n w)) h
      ∙ ap (λ m. row_following (c ∷ []) (suc n) (row_after unicode_mode false m w)) less
      ∙ ap (row_following (c ∷ []) (suc n)) (after_skipped false n w)

  pub row_stops : (first : Bool) (us : List ℕ) → name_character_at unicode_mode first us ≡ no_character → row_after unicode_mode first 0 us ≡ row [] 0
  row_stops first [] h = refl
  row_stops first (x ∷ w) h = ap (λ o. row_from o (λ n. row_after unicode_mode false n w)) h

  -- every character of a name is some units
  pub character_some : (first : Bool) (c : ℕ) (w rest : List ℕ) → SpellsNameCharacter unicode_mode first c w rest → 0 < length w
  character_some first c _ rest (one_unit h) = omega arith
  character_some first c _ rest (by_escape spells h) = omega arith
  character_some first _ _ rest (raw_pair legacy lead trail h) = omega arith

  pub read_some : (first : Bool) (us : List ℕ) (c n : ℕ) → name_character_at unicode_mode first us ≡ character c n → 0 < n
  read_some first us c n h =
      let f = character_spelled first us c n h in
      omega (arith, f.count, character_some first c f.spelled f.rest f.spells)

  -- one character that is spelled, and the row after it
  pub row_one : (first : Bool) (c : ℕ) (w rest : List ℕ) → SpellsNameCharacter unicode_mode first c w rest →
      row_after unicode_mode first 0 (w ++ rest) ≡ row_following (c ∷ []) (length w) (row_after unicode_mode false 0 rest)
  row_one first c w rest spells =
      row_steps first (w ++ rest) c (length w) (spelled_character first c w rest spells) (character_some first c w rest spells)
      ∙ ap (λ us. row_following (c ∷ []) (length w) (row_after unicode_mode false 0 us)) (drop-append_seam w rest)

  -- code points that are spelled, and the row after them
  pub row_parts : (cs w rest : List ℕ) → SpellsNameParts unicode_mode cs w rest →
      row_after unicode_mode false 0 (w ++ rest) ≡ row_following cs (length w) (row_after unicode_mode false 0 rest)
  row_parts _ _ rest no_part = sym (row_after_none (row_after unicode_mode false 0 rest))
  row_parts _ _ _ (part {c} {cs} w v rest spells more) =
      ap (row_after unicode_mode false 0) (append_assoc w v rest)
      ∙ row_one false c w (v ++ rest) spells
      ∙ ap (row_following (c ∷ []) (length w)) (row_parts cs v rest more)
      ∙ row_after_twice (c ∷ []) cs (length w) (length v) (row_after unicode_mode false 0 rest)
      ∙ ap (λ n. row_following (c ∷ cs) n (row_after unicode_mode false 0 rest)) (sym (length-append w v))

  pub row_name : (name w rest : List ℕ) → SpellsName unicode_mode name w rest →
      name_at unicode_mode (w ++ rest) ≡ row_following name (length w) (row_after unicode_mode false 0 rest)
  row_name _ _ _ (whole_name {c} {cs} w v rest spells more) =
      ap (row_after unicode_mode true 0) (append_assoc w v rest)
      ∙ row_one true c w (v ++ rest) spells
      ∙ ap (row_following (c ∷ []) (length w)) (row_parts cs v rest more)
      ∙ row_after_twice (c ∷ []) cs (length w) (length v) (row_after unicode_mode false 0 rest)
      ∙ ap (λ n. row_following (c ∷ cs) n (row_after unicode_mode false 0 rest)) (sym (length-append w v))

  no_character_from_none : (us : List ℕ) → name_character_at unicode_mode false us ≡ no_character → (c : ℕ) (w more : List ℕ) → SpellsNameCharacter unicode_mode false c w more → us ≡ w ++ more → ⊥
  no_character_from_none us none c w more spells whole =
      let no : ⊥ = cc (sym none ∙ ap (name_character_at unicode_mode false) whole ∙ spelled_character false c w more spells) in
      no

  none_from_no_character : (us : List ℕ) → ((c : ℕ) (w more : List ℕ) → SpellsNameCharacter unicode_mode false c w more → us ≡ w ++ more → ⊥) → name_character_at unicode_mode false us ≡ no_character
  none_from_no_character us ends = go (name_character_at unicode_mode false us) refl
    where
      go : (o : NameCharacter) → name_character_at unicode_mode false us ≡ o → name_character_at unicode_mode false us ≡ no_character
      go no_character e = e
      go (character c n) e = let f = character_spelled false us c n e in absurd (ends c f.spelled f.rest f.spells f.whole)

  -- the longest row of further code points at the front
  record PartsFront (us : List ℕ) (r : NameRow) : Type 0 where
    spelled : List ℕ
    rest : List ℕ
    spells : SpellsNameParts unicode_mode (codes_of r) spelled rest
    whole : us ≡ spelled ++ rest
    count : length spelled ≡ units_of r
    ends : name_character_at unicode_mode false rest ≡ no_character

  after_character : (c n : ℕ) (us : List ℕ) (f : NameCharacterFront false c n us) (r : NameRow) → PartsFront f.rest r → PartsFront us (row_following (c ∷ []) n r)
  after_character c n us f (row cs m) p = record {
    spelled = f.spelled ++ p.spelled;
    rest = p.rest;
    spells = part f.spelled p.spelled p.rest (subst (λ rest. SpellsNameCharacter unicode_mode false c f.spelled rest) p.whole f.spells) p.spells;
    whole = f.whole ∙ ap (λ rest. f.spelled ++ rest) p.whole ∙ sym (append_assoc f.spelled p.spelled p.rest);
    count = omega (arith, length-append f.spelled p.spelled, f.count, p.count);
    ends = p.ends;
  }

  -- after a character that is read stands the rest of it
  rest_is : (first : Bool) (c n x : ℕ) (w : List ℕ) (f : NameCharacterFront first c n (x ∷ w)) → 0 < n → drop (n - 1) w ≡ f.rest
  rest_is first c zero x w f some = absurd (omega arith)
  rest_is first c (suc n) x w f some =
      let less : suc n - 1 ≡ n = omega arith in
      ap (λ m. drop m w) less ∙ ap (λ m. drop m (x ∷ w)) (sym f.count) ∙ ap (drop (length f.spelled)) f.whole ∙ drop-append_seam f.spelled f.rest

  front_found : (x : ℕ) (w : List ℕ) → ((n : ℕ) → PartsFront (drop n w) (row_after unicode_mode false n w)) → (o : NameCharacter) → name_character_at unicode_mode false (x ∷ w) ≡ o →
      PartsFront (x ∷ w) (row_from o (λ n. row_after unicode_mode false n w))
  front_found x w again no_character e = record {
    spelled = [];
    rest = x ∷ w;
    spells = no_part;
    whole = refl;
    count = refl;
    ends = e;
  }
  front_found x w again (character c n) e =
      let f = character_spelled false (x ∷ w) c n e in
      let same = rest_is false c n x w f (read_some false (x ∷ w) c n e) in
      after_character c n (x ∷ w) f (row_after unicode_mode false (n - 1) w) (subst (λ us. PartsFront us (row_after unicode_mode false (n - 1) w)) same (again (n - 1)))

  parts_found : (n : ℕ) (us : List ℕ) → PartsFront (drop n us) (row_after unicode_mode false n us)
  parts_found zero [] = record { spelled = []; rest = []; spells = no_part; whole = refl; count = refl; ends = refl }
  parts_found (suc n) [] = record { spelled = []; rest = []; spells = no_part; whole = refl; count = refl; ends = refl }
  parts_found zero (x ∷ w) = front_found x w (λ n. parts_found n w) (name_character_at unicode_mode false (x ∷ w)) refl
  parts_found (suc n) (x ∷ w) = parts_found n w

  -- a name that begins with this character
  name_found : (us : List ℕ) (c : ℕ) (cs : List ℕ) (n d k : ℕ) (f : NameCharacterFront true d k us) (r : NameRow) → PartsFront f.rest r → row_following (d ∷ []) k r ≡ row (c ∷ cs) n → BeginsWithName unicode_mode us (c ∷ cs) n
  name_found us c cs n d k f (row es m) p h =
      let same : (d ≡ c) × (es ≡ cs) × (k + m ≡ n) = (cc h, cc h, cc h) in
      record {
        spelled = f.spelled ++ p.spelled;
        rest = p.rest;
        spells = subst (λ name. SpellsName unicode_mode name (f.spelled ++ p.spelled) p.rest) (ap₂ (λ c cs. c ∷ cs) same.0 same.1) (whole_name f.spelled p.spelled p.rest (subst (λ rest. SpellsNameCharacter unicode_mode true d f.spelled rest) p.whole f.spells) p.spells);
        whole = f.whole ∙ ap (λ rest. f.spelled ++ rest) p.whole ∙ sym (append_assoc f.spelled p.spelled p.rest);
        count_is = omega (arith, length-append f.spelled p.spelled, f.count, p.count, same.2);
        ends = no_character_from_none p.rest p.ends;
      }

  pub read_name : (us : List ℕ) (c : ℕ) (cs : List ℕ) (n : ℕ) → name_at unicode_mode us ≡ row (c ∷ cs) n → BeginsWithName unicode_mode us (c ∷ cs) n
  read_name us c cs n h = go (name_character_at unicode_mode true us) refl
    where
      go : (o : NameCharacter) → name_character_at unicode_mode true us ≡ o → BeginsWithName unicode_mode us (c ∷ cs) n
      go no_character e = absurd (let no : ⊥ = cc (sym (row_stops true us e) ∙ h) in no)
      go (character d k) e =
          let f = character_spelled true us d k e in
          let some = read_some true us d k e in
          let same : drop k us ≡ f.rest = ap (λ m. drop m us) (sym f.count) ∙ ap (drop (length f.spelled)) f.whole ∙ drop-append_seam f.spelled f.rest in
          name_found us c cs n d k f (row_after unicode_mode false 0 (drop k us)) (subst (λ rest. PartsFront rest (row_after unicode_mode false 0 (drop k us))) same (parts_found 0 (drop k us))) (sym (row_steps true us d k e some) ∙ h)

  pub name_read : (us name : List ℕ) (n : ℕ) → BeginsWithName unicode_mode us name n → name_at unicode_mode us ≡ row name n
  name_read us name n b =
      ap (name_at unicode_mode) b.whole
      ∙ row_name name b.spelled b.rest b.spells
      ∙ ap (row_following name (length b.spelled)) (row_stops false b.rest (none_from_no_character b.rest b.ends))
      ∙ ap₂ row (append-nil name) (omega (arith, b.count_is))

  -- the first row is of no code point only where no name begins
  pub no_name_read : (us : List ℕ) (n : ℕ) → name_at unicode_mode us ≡ row [] n → n ≡ 0
  no_name_read us n h = go (name_character_at unicode_mode true us) refl
    where
      grown : (c k : ℕ) (r : NameRow) → row_following (c ∷ []) k r ≡ row [] n → n ≡ 0
      grown c k (row cs m) e = absurd (let no : ⊥ = cc e in no)

      go : (o : NameCharacter) → name_character_at unicode_mode true us ≡ o → n ≡ 0
      go no_character e = cc (sym h ∙ row_stops true us e)
      go (character c k) e =
          grown c k (row_after unicode_mode false 0 (drop k us)) (sym (row_steps true us c k e (read_some true us c k e)) ∙ h)

  -- a text begins with a name of n units, and with no longer one, exactly where that is read
  pub name_at_law : (us : List ℕ) (c : ℕ) (cs : List ℕ) (n : ℕ) → (name_at unicode_mode us ≡ row (c ∷ cs) n) ↔ BeginsWithName unicode_mode us (c ∷ cs) n
  name_at_law us c cs n = (read_name us c cs n, name_read us (c ∷ cs) n)

  -- what is read is the longest row, which may be none
  pub name_row_law : (us cs : List ℕ) (n : ℕ) → name_at unicode_mode us ≡ row cs n → IsNameRow unicode_mode us n
  name_row_law us cs n h = go (name_character_at unicode_mode true us) refl
    where
      count_of : (ds : List ℕ) (m : ℕ) → row ds m ≡ row cs n → m ≡ n
      count_of ds m e = cc e

      some_of : (r : NameRow) (c k : ℕ) → row_following (c ∷ []) k r ≡ row cs n → (ds : List ℕ) × (cs ≡ c ∷ ds)
      some_of (row ds m) c k e = (ds, cc e)

      none : name_character_at unicode_mode true us ≡ no_character → (c : ℕ) (w more : List ℕ) → SpellsNameCharacter unicode_mode true c w more → us ≡ w ++ more → ⊥
      none e c w more spells whole = let read = sym e ∙ ap (name_character_at unicode_mode true) whole ∙ spelled_character true c w more spells in cc read

      go : (o : NameCharacter) → name_character_at unicode_mode true us ≡ o → IsNameRow unicode_mode us n
      go no_character e = subst (IsNameRow unicode_mode us) (count_of [] 0 (sym (row_stops true us e) ∙ h)) (no_name (none e))
      go (character c k) e =
          let some = some_of (row_after unicode_mode false 0 (drop k us)) c k (sym (row_steps true us c k e (read_some true us c k e)) ∙ h) in
          some_name ((name_at_law us c some.0 n).0 (h ∙ ap (λ ds. row ds n) some.1))

  nothing_more : (w rest : List ℕ) → length w ≡ length (w ++ rest) → rest ≡ []
  nothing_more w [] h = refl
  nothing_more w (x ∷ rest) h = absurd (omega (arith, h, length-append w (x ∷ rest)))

  begins_whole : (us name : List ℕ) → BeginsWithName unicode_mode us name (length us) → IsGroupName unicode_mode us name
  begins_whole us name b =
      let none = nothing_more b.spelled b.rest (b.count_is ∙ ap length b.whole) in
      let spells = subst (λ rest. SpellsName unicode_mode name b.spelled rest) none b.spells in
      subst (λ w. SpellsName unicode_mode name w []) (sym (append-nil b.spelled) ∙ ap (λ rest. b.spelled ++ rest) (sym none) ∙ sym b.whole) spells

  all_found : (us name : List ℕ) (x : ℕ) (w : List ℕ) → us ≡ x ∷ w → (r : NameRow) → name_at unicode_mode us ≡ r → all_of (length us) r ≡ Some name → IsGroupName unicode_mode us name
  all_found us name x w is (row cs n) e h = elim (chosen (n == length us) h) [
    | inl p ↦ go cs e (cc p.1) (eqb-true n (length us) p.0)
    | inr p ↦ absurd (let no : ⊥ = cc p.1 in no)
  ]
    where
      go : (cs : List ℕ) → name_at unicode_mode us ≡ row cs n → cs ≡ name → n ≡ length us → IsGroupName unicode_mode us name
      go [] e same whole = absurd (omega (arith, no_name_read us n e, whole, ap length is))
      go (c ∷ cs) e same whole = subst (IsGroupName unicode_mode us) same (begins_whole us (c ∷ cs) (read_name us c cs (length us) (e ∙ ap (row (c ∷ cs)) whole)))

  pub read_group_name : (us name : List ℕ) → name_of unicode_mode us ≡ Some name → IsGroupName unicode_mode us name
  read_group_name [] name h = absurd (let no : ⊥ = cc h in no)
  read_group_name (x ∷ w) name h = all_found (x ∷ w) name x w refl (name_at unicode_mode (x ∷ w)) refl h

  name_some : (name w rest : List ℕ) → SpellsName unicode_mode name w rest → 0 < length w
  name_some _ _ _ (whole_name {c} {cs} w v rest spells more) = omega (arith, character_some true c w (v ++ rest) spells, length-append w v)

  pub group_name_read : (us name : List ℕ) → IsGroupName unicode_mode us name → name_of unicode_mode us ≡ Some name
  group_name_read [] name spells = absurd (omega (arith, name_some name [] [] spells))
  group_name_read (x ∷ w) name spells =
      let us : List ℕ = x ∷ w in
      ap (λ us. all_of (length (x ∷ w)) (name_at unicode_mode us)) (sym (append-nil (x ∷ w)))
      ∙ ap (all_of (length (x ∷ w))) (row_name name (x ∷ w) [] spells ∙ ap₂ row (append-nil name) (let e : length (x ∷ w) + 0 ≡ length (x ∷ w) = omega arith in e))
      ∙ ap (λ b. cond b (Some name) None) (eq-eqb (length (x ∷ w)) (length (x ∷ w)) refl)

  -- all of a text is a name exactly where it is read as that name
  pub name_of_law : (us name : List ℕ) → (name_of unicode_mode us ≡ Some name) ↔ IsGroupName unicode_mode us name
  name_of_law us name = (read_group_name us name, group_name_read us name)

  -- What follows a name does not change what spells it: no surrogate stands in a name, and only a lead asks what follows it.
  escape_anywhere : (first : Bool) (c : ℕ) (w rest other : List ℕ) → is_in_name first c ≡ true → SpellsUnicode true c w rest → SpellsUnicode true c w other
  escape_anywhere first c _ rest other h (alone number no_pair) =
      alone number (λ lead _. let no : ⊥ = cc (h, no_surrogate first c lead.0 (omega (arith, lead.1))) in no)
  escape_anywhere first _ _ rest other h (pair number second lead trail) = pair number second lead trail
  escape_anywhere first c _ rest other h (braced x xs number top) = braced x xs number top

  character_anywhere : (first : Bool) (c : ℕ) (w rest other : List ℕ) → SpellsNameCharacter unicode_mode first c w rest → SpellsNameCharacter unicode_mode first c w other
  character_anywhere first c _ rest other (one_unit h) = one_unit h
  character_anywhere first c _ rest other (by_escape {w} spells h) = by_escape (escape_anywhere first c w rest other h spells) h
  character_anywhere first _ _ rest other (raw_pair legacy lead trail h) = raw_pair legacy lead trail h

  parts_anywhere : (cs w rest other : List ℕ) → SpellsNameParts unicode_mode cs w rest → SpellsNameParts unicode_mode cs w other
  parts_anywhere _ _ rest other no_part = no_part
  parts_anywhere _ _ _ other (part {c} {cs} w v rest spells more) =
      part w v other (character_anywhere false c w (v ++ rest) (v ++ other) spells) (parts_anywhere cs v rest other more)

  pub name_anywhere : (name w rest other : List ℕ) → SpellsName unicode_mode name w rest → SpellsName unicode_mode name w other
  name_anywhere _ _ _ other (whole_name {c} {cs} w v rest spells more) =
      whole_name w v other (character_anywhere true c w (v ++ rest) (v ++ other) spells) (parts_anywhere cs v rest other more)

  -- no `>` is in a name
  pub closer_ends : (first : Bool) (rest : List ℕ) → name_character_at unicode_mode first (62 ∷ rest) ≡ no_character
  closer_ends first rest = go unicode_mode first rest
    where
      following : (first : Bool) (rest : List ℕ) → pair_at first 62 rest ≡ no_character
      following first [] = refl
      following first (y ∷ w) = refl

      go : (unicode_mode first : Bool) (rest : List ℕ) → name_character_at unicode_mode first (62 ∷ rest) ≡ no_character
      go true true rest = refl
      go true false rest = refl
      go false true rest = following true rest
      go false false rest = following false rest

  -- a name before `>` is read whole
  pub name_before_closer : (name w rest : List ℕ) → SpellsName unicode_mode name w (62 ∷ rest) → name_at unicode_mode (w ++ 62 ∷ rest) ≡ row name (length w)
  name_before_closer name w rest spells =
      row_name name w (62 ∷ rest) spells
      ∙ ap (row_following name (length w)) (row_stops false (62 ∷ rest) (closer_ends false rest))
      ∙ ap₂ row (append-nil name) (omega arith)

  -- no code point is read exactly where no name begins
  pub no_name_law : (us : List ℕ) → (name_at unicode_mode us ≡ row [] 0) ↔ ((name w rest : List ℕ) → SpellsName unicode_mode name w rest → us ≡ w ++ rest → ⊥)
  no_name_law us = (λ h name w rest spells whole. no_row name w rest spells (row_after unicode_mode false 0 rest) (sym h ∙ ap (name_at unicode_mode) whole ∙ row_name name w rest spells), λ none. go none (name_at unicode_mode us) refl)
    where
      no_row : (name w rest : List ℕ) → SpellsName unicode_mode name w rest → (r : NameRow) → row [] 0 ≡ row_following name (length w) r → ⊥
      no_row _ _ _ (whole_name w v rest spells more) (row cs n) e = cc e

      go : ((name w rest : List ℕ) → SpellsName unicode_mode name w rest → us ≡ w ++ rest → ⊥) → (r : NameRow) → name_at unicode_mode us ≡ r → name_at unicode_mode us ≡ row [] 0
      go none (row [] n) e = e ∙ ap (row []) (no_name_read us n e)
      go none (row (c ∷ cs) n) e = let b = read_name us c cs n e in absurd (none (c ∷ cs) b.spelled b.rest b.spells b.whole)
