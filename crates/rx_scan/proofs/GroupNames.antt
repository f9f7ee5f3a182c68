-- The steps of the reader of a group's name.
use Rattle.std.proofs.Common.{◌≡◌, ℕ, suc, ◌+◌, ◌<◌, ◌≤◌, ◌==◌, Bool, true, false, cond, List, [], ◌∷◌, ◌++◌, drop, length, Option, Some, None, refl, sym, ap, ap₂, ◌∙◌, subst, arith, add-one, length-append}
use Rattle.std.proofs.lemmas.Bool.{ne_eqb, eq-eqb}
use Rattle.std.proofs.lemmas.List.{append-nil, drop-drop, length-drop, drop_all}
use Rattle.rx_model.specs.Characters.Decoding.{Decoded, value}
use Rattle.rx_model.specs.Groups.GroupNames.{IsNameRow, is_in_name}
use Rattle.rx_model.specs.Groups.GroupNameReading.{NameCharacter, character, no_character, name_character_at, row, row_following, row_after, name_at, all_of, name_of, character_if, escape_in_name}
use Rattle.rx_scan.specs.GroupNames.{IsNameOf}
use Rattle.rx_model.proofs.Groups.GroupNames.{character_spelled, name_of_law, read_some, row_after_none, row_after_twice, row_steps, row_stops, name_row_law}

-- a character of a name is some units, and no more than there are
pub character_some : (unicode_mode first : Bool) (us : List ℕ) (c n : ℕ) → character c n ≡ name_character_at unicode_mode first us → 0 < n
character_some unicode_mode first us c n h = read_some unicode_mode first us c n (sym h)

pub character_within : (unicode_mode first : Bool) (us : List ℕ) (place c n : ℕ) → place ≤ length us → character c n ≡ name_character_at unicode_mode first (drop place us) → place + n ≤ length us
character_within unicode_mode first us place c n within h =
    let f = character_spelled unicode_mode first (drop place us) c n (sym h) in
    omega (arith, f.count, ap length f.whole, length-append f.spelled f.rest, length-drop place us)

-- the character of a name at a place, where a unit and what follows it stand
pub at_place : (unicode_mode first : Bool) {w : List ℕ} {u : ℕ} {o : NameCharacter} (us : List ℕ) (place : ℕ) → drop place us ≡ u ∷ w → o ≡ name_character_at unicode_mode first (u ∷ w) → o ≡ name_character_at unicode_mode first (drop place us)
at_place unicode_mode first us place here h = h ∙ ap (name_character_at unicode_mode first) (sym here)

-- before the first character no name is read
pub no_name_yet : (unicode_mode : Bool) (us : List ℕ) (name : List ℕ) → name ≡ [] → name_at unicode_mode us ≡ row_following name 0 (row_after unicode_mode true 0 us)
no_name_yet unicode_mode us name none = sym (row_after_none (name_at unicode_mode us)) ∙ ap (λ cs. row_following cs 0 (name_at unicode_mode us)) (sym none)

name_of_row : (unicode_mode : Bool) (us : List ℕ) → 0 < length us → name_of unicode_mode us ≡ all_of (length us) (name_at unicode_mode us)
name_of_row unicode_mode [] some = absurd (omega arith)
name_of_row unicode_mode (u ∷ us) some = refl

-- an escape of a character that is in names, and of one that is not
pub escape_passes : (first : Bool) (v n c : ℕ) (read : Decoded) → value v n ≡ read → Some c ≡ cond (is_in_name first v) (Some v) None → character c (n + 1) ≡ escape_in_name first read
escape_passes first v n c read is passes = subst (λ read. character c (n + 1) ≡ escape_in_name first read) is (go (is_in_name first v) passes)
  where
    go : (b : Bool) → Some c ≡ cond b (Some v) None → character c (n + 1) ≡ character_if b v (suc n)
    go true e = let same : c ≡ v = cc e in ap₂ character same (add-one n)
    go false e = absurd (let no : ⊥ = cc e in no)

pub escape_fails : (first : Bool) (v n : ℕ) (read : Decoded) → value v n ≡ read → None ≡ cond (is_in_name first v) (Some v) None → no_character ≡ escape_in_name first read
escape_fails first v n read is fails = subst (λ read. no_character ≡ escape_in_name first read) is (go (is_in_name first v) fails)
  where
    go : (b : Bool) → None ≡ cond b (Some v) None → no_character ≡ character_if b v (suc n)
    go true e = absurd (let no : ⊥ = cc e in no)
    go false e = refl

module _ (unicode_mode : Bool) (us : List ℕ) (name : List ℕ) (place : ℕ) (within : place ≤ length us)
    (read : name_at unicode_mode us ≡ row_following name place (row_after unicode_mode (place == 0) 0 (drop place us))) where
  -- the name goes on with a character that is read
  pub goes_on : (c n : ℕ) → character c n ≡ name_character_at unicode_mode (place == 0) (drop place us) →
      name_at unicode_mode us ≡ row_following (name ++ (c ∷ [])) (place + n) (row_after unicode_mode (place + n == 0) 0 (drop (place + n) us))
  goes_on c n h =
      let some = character_some unicode_mode (place == 0) (drop place us) c n h in
      let following : drop n (drop place us) ≡ drop (place + n) us = drop-drop n place us in
      let later : false ≡ (place + n == 0) = sym (ne_eqb (place + n) 0 (λ e. let no : ⊥ = omega (arith, e, some) in no)) in
      read
      ∙ ap (row_following name place) (row_steps unicode_mode (place == 0) (drop place us) c n (sym h) some)
      ∙ row_after_twice name (c ∷ []) place n (row_after unicode_mode false 0 (drop n (drop place us)))
      ∙ ap₂ (λ first ws. row_following (name ++ (c ∷ [])) (place + n) (row_after unicode_mode first 0 ws)) later following

  -- a character that is none refuses the name
  pub ends_early : place < length us → no_character ≡ name_character_at unicode_mode (place == 0) (drop place us) → None ≡ name_of unicode_mode us
  ends_early more h =
      let short : (place + 0 == length us) ≡ false = ne_eqb (place + 0) (length us) (λ e. let no : ⊥ = omega (arith, e, more) in no) in
      let row_is = read ∙ ap (row_following name place) (row_stops unicode_mode (place == 0) (drop place us) (sym h)) in
      sym (name_of_row unicode_mode us (omega (arith, more)) ∙ ap (all_of (length us)) row_is ∙ ap (λ b. cond b (Some (name ++ [])) None) short)

  -- at the end of the text the name is whole
  pub ends_whole : 0 < place → length us ≤ place → Some name ≡ name_of unicode_mode us
  ends_whole some all =
      let whole : (place + 0 == length us) ≡ true = eq-eqb (place + 0) (length us) (omega (arith, within, all)) in
      let row_is = read ∙ ap (λ w. row_following name place (row_after unicode_mode (place == 0) 0 w)) (drop_all place us all) in
      ap Some (sym (append-nil name)) ∙ sym (name_of_row unicode_mode us (omega (arith, some, within, all)) ∙ ap (all_of (length us)) row_is ∙ ap (λ b. cond b (Some (name ++ [])) None) whole)

-- what was read, in the words of the names
pub is_name_of : (unicode_mode : Bool) (us : List ℕ) (found : Option (List ℕ)) → found ≡ name_of unicode_mode us → IsNameOf unicode_mode us found
is_name_of unicode_mode us found read = record {
  read = read;
  name = λ name. let law = name_of_law unicode_mode us name in (λ h. law.0 (sym read ∙ h), λ h. read ∙ law.1 h);
}

-- Some code points of a name are read before the place.
abbrev pub IsRowBefore : Bool → List ℕ → ℕ → Type 0
IsRowBefore unicode_mode us place =
    (name : List ℕ) × (name_at unicode_mode us ≡ row_following name place (row_after unicode_mode (place == 0) 0 (drop place us)))

-- The longest row of a name's characters ends at the place.
abbrev pub IsRow : Bool → List ℕ → ℕ → Type 0
IsRow unicode_mode us place = (name : List ℕ) × (name_at unicode_mode us ≡ row name place)

pub none_before : (unicode_mode : Bool) (us : List ℕ) → IsRowBefore unicode_mode us 0
none_before unicode_mode us = ([], sym (row_after_none (name_at unicode_mode us)))

ends_there : (unicode_mode : Bool) (us : List ℕ) (place : ℕ) → IsRowBefore unicode_mode us place → row_after unicode_mode (place == 0) 0 (drop place us) ≡ row [] 0 → IsRow unicode_mode us place
ends_there unicode_mode us place before e =
    (before.0, before.1 ∙ ap (row_following before.0 place) e ∙ ap₂ row (append-nil before.0) (omega arith))

-- after the place stands no character of a name, or nothing
pub row_ended : (unicode_mode : Bool) (us : List ℕ) (place : ℕ) → IsRowBefore unicode_mode us place → no_character ≡ name_character_at unicode_mode (place == 0) (drop place us) →
    IsRow unicode_mode us place
row_ended unicode_mode us place before h = ends_there unicode_mode us place before (row_stops unicode_mode (place == 0) (drop place us) (sym h))

pub row_whole : (unicode_mode : Bool) (us : List ℕ) (place : ℕ) → IsRowBefore unicode_mode us place → length us ≤ place → IsRow unicode_mode us place
row_whole unicode_mode us place before all = ends_there unicode_mode us place before (ap (row_after unicode_mode (place == 0) 0) (drop_all place us all))

pub is_longest : (unicode_mode : Bool) (us : List ℕ) (place : ℕ) → IsRow unicode_mode us place → IsNameRow unicode_mode us place
is_longest unicode_mode us place r = name_row_law unicode_mode us r.0 place r.1
