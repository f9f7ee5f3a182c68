-- Openers: each is one opening, with the name that it spells, and others after it.
use Rattle.std.proofs.Common.{◌≡◌, ◌≢◌, ℕ, ◌+◌, ◌*◌, ◌==◌, ◌≤◌, Bool, true, false, is_some, ◌||◌, List, [], ◌∷◌, ◌++◌, append_assoc, length, length-append, Some, refl, ap, ◌∙◌, arith, inl, inr}
use Rattle.std.specs.List.{list_all}
use Rattle.std.proofs.lemmas.Bool.{cond-false}
use Rattle.std.proofs.lemmas.Bool.Decides.{nat_tests}
use Rattle.std.proofs.lemmas.List.Folds.{list_all-append}
use Rattle.std.proofs.lemmas.Option.{option_and_then_some}
use Rattle.rx_tables.specs.Characters.{hex_digit_value}
use Rattle.rx_units.specs.Digits.{hex_after}
use Rattle.rx_units.proofs.Choices.{chosen, both}
use Rattle.rx_model.specs.declared.mode.Mode.{Mode}
use Rattle.rx_model.specs.Groups.GroupNames.{is_in_name, SpellsNameCharacter, one_unit, by_escape, raw_pair, SpellsNameParts, no_part, part, SpellsName, whole_name}
use Rattle.rx_model.specs.FirstPass.Marks.{quiet, capturing, starts, before_close, has_close, mark_front, marks, marks_following}
use Rattle.rx_model.specs.Inputs.Environment.{is_unicode}
use Rattle.rx_model.specs.Groups.Modifiers.{is_modifier, AreSides, one_side, two_sides}
use Rattle.rx_model.specs.Characters.UnicodeEscapes.{SpellsUnicode, alone, pair, braced}
use Rattle.rx_model.proofs.Groups.GroupNames.{differs}
use Rattle.rx_model.proofs.FirstPass.PlainMarks.{is_plain, plain_in, GiveOthers, all_plain_others, append_others}

-- the marks after some units are those of what follows them
pub marks_after : (mode : Mode) (w rest : List ℕ) → marks_following mode (length w) (w ++ rest) ≡ marks mode rest
marks_after mode [] rest = refl
marks_after mode (u ∷ w) rest = marks_after mode w rest

-- no `>` is among some units
pub no_close_before : (u : ℕ) (w : List ℕ) → (u == 62) ≡ false → has_close w ≡ false → has_close (u ∷ w) ≡ false
no_close_before u w h k = cond-false (u == 62) true (has_close w) h ∙ k

no_close_after : (u : ℕ) (w : List ℕ) → has_close (u ∷ w) ≡ false → ((u == 62) ≡ false) × (has_close w ≡ false)
no_close_after u w h = elim (chosen (u == 62) h) [ inl p ↦ absurd (let no : ⊥ = cc p.1 in no) | inr p ↦ p ]

no_close_append : (w v : List ℕ) → has_close w ≡ false → has_close v ≡ false → has_close (w ++ v) ≡ false
no_close_append [] v h k = k
no_close_append (u ∷ w) v h k = let p = no_close_after u w h in no_close_before u (w ++ v) p.0 (no_close_append w v p.1 k)

-- the first `>`, and the units before it
pub close_found : (w rest : List ℕ) → has_close w ≡ false → has_close (w ++ (62 ∷ rest)) ≡ true
close_found [] rest h = refl
close_found (u ∷ w) rest h = let p = no_close_after u w h in cond-false (u == 62) true (has_close (w ++ (62 ∷ rest))) p.0 ∙ close_found w rest p.1

pub before_found : (w rest : List ℕ) → has_close w ≡ false → before_close (w ++ (62 ∷ rest)) ≡ w
before_found [] rest h = refl
before_found (u ∷ w) rest h =
    let p = no_close_after u w h in cond-false (u == 62) [] (u ∷ before_close (w ++ (62 ∷ rest))) p.0 ∙ ap (λ v. u ∷ v) (before_found w rest p.1)

-- no `>` is among hexadecimal digits
hex_no_close : (n : ℕ) (ds : List ℕ) (v : ℕ) → hex_after n ds ≡ Some v → has_close ds ≡ false
hex_no_close n [] v h = refl
hex_no_close n (c ∷ ds) v h =
    option_and_then_some (λ d. hex_after (16 * n + d) ds) (hex_digit_value c) v h (λ d digit more.
    no_close_before c ds (differs (λ c. is_some (hex_digit_value c)) c 62 refl (ap is_some digit)) (hex_no_close (16 * n + d) ds v more))

-- nor among those of a unicode escape
unicode_no_close : (v : ℕ) (w rest : List ℕ) → SpellsUnicode true v w rest → has_close w ≡ false
unicode_no_close v _ rest (alone {a} {b} {c} {d} h k) = hex_no_close 0 (a ∷ b ∷ c ∷ d ∷ []) v h
unicode_no_close _ _ rest (pair {a} {b} {c} {d} {e} {f} {g} {h} {lead} {trail} first second is_lead is_trail) =
    no_close_append (a ∷ b ∷ c ∷ d ∷ []) (92 ∷ 117 ∷ e ∷ f ∷ g ∷ h ∷ []) (hex_no_close 0 (a ∷ b ∷ c ∷ d ∷ []) lead first) (hex_no_close 0 (e ∷ f ∷ g ∷ h ∷ []) trail second)
unicode_no_close v _ rest (braced x xs h k) = no_close_append (x ∷ xs) (125 ∷ []) (hex_no_close 0 (x ∷ xs) v h) refl

in_name_no_close : (first : Bool) (c : ℕ) → is_in_name first c ≡ true → (c == 62) ≡ false
in_name_no_close true c h = differs (is_in_name true) c 62 refl h
in_name_no_close false c h = differs (is_in_name false) c 62 refl h

surrogate_no_close : (c : ℕ) → 0xD800 ≤ c → (c == 62) ≡ false
surrogate_no_close c h = grind (arith, nat_tests)

-- what tells a lookbehind
abbrev begins_look : List ℕ → Bool
begins_look us = starts 61 us || starts 33 us

begins_no_look : (c : ℕ) (us : List ℕ) → is_in_name true c ≡ true → begins_look (c ∷ us) ≡ false
begins_no_look c us h = rw (differs (is_in_name true) c 61 refl h, differs (is_in_name true) c 33 refl h) refl

surrogate_no_look : (c : ℕ) (us : List ℕ) → 0xD800 ≤ c → begins_look (c ∷ us) ≡ false
surrogate_no_look c us h = grind (arith, nat_tests)

module _ (mode : Mode) where
  -- nor among those of a name
  character_no_close : (first : Bool) (c : ℕ) (w rest : List ℕ) → SpellsNameCharacter (is_unicode mode) first c w rest → has_close w ≡ false
  character_no_close first c _ rest (one_unit h) = no_close_before c [] (in_name_no_close first c h) refl
  character_no_close first c _ rest (by_escape {w} spells h) = unicode_no_close c w rest spells
  character_no_close first _ _ rest (raw_pair {lead} {trail} legacy is_lead is_trail h) =
      no_close_before lead (trail ∷ []) (surrogate_no_close lead is_lead.0) (no_close_before trail [] (surrogate_no_close trail (omega (arith, is_trail.0))) refl)

  parts_no_close : (cs w rest : List ℕ) → SpellsNameParts (is_unicode mode) cs w rest → has_close w ≡ false
  parts_no_close _ _ rest no_part = refl
  parts_no_close _ _ _ (part {c} {cs} w v rest spells more) =
      no_close_append w v (character_no_close false c w (v ++ rest) spells) (parts_no_close cs v rest more)

  name_no_close : (name w rest : List ℕ) → SpellsName (is_unicode mode) name w rest → has_close w ≡ false
  name_no_close _ _ _ (whole_name {c} {cs} w v rest spells more) =
      no_close_append w v (character_no_close true c w (v ++ rest) spells) (parts_no_close cs v rest more)

  -- a name begins as no lookbehind does
  character_no_look : (c : ℕ) (w rest us : List ℕ) → SpellsNameCharacter (is_unicode mode) true c w rest → begins_look (w ++ us) ≡ false
  character_no_look c _ rest us (one_unit h) = begins_no_look c us h
  character_no_look c _ rest us (by_escape spells h) = refl
  character_no_look _ _ rest us (raw_pair {lead} {trail} legacy is_lead is_trail h) = surrogate_no_look lead (trail ∷ us) is_lead.0

  name_no_look : (name w rest us : List ℕ) → SpellsName (is_unicode mode) name w rest → begins_look (w ++ us) ≡ false
  name_no_look _ _ _ us (whole_name {c} {cs} w v rest spells more) =
      ap begins_look (append_assoc w v us) ∙ character_no_look c w (v ++ rest) (v ++ us) spells

  naming_front : (name w rest us : List ℕ) → SpellsName (is_unicode mode) name w rest → mark_front mode 40 (63 ∷ 60 ∷ (w ++ (62 ∷ us))) ≡ (capturing (Some w), length w + 3)
  unfolding mark_front
  naming_front name w rest us spells =
      let close = name_no_close name w rest spells in
      rw (name_no_look name w rest (62 ∷ us) spells, close_found w us close, before_found w us close) refl

  -- `(?<`, a name and `>` are one opening
  pub naming_marks : (name w rest us : List ℕ) → SpellsName (is_unicode mode) name w rest →
      marks mode (40 ∷ 63 ∷ 60 ∷ ((w ++ (62 ∷ [])) ++ us)) ≡ capturing (Some w) ∷ marks mode us
  naming_marks name w rest us spells =
      let following : List ℕ = 63 ∷ 60 ∷ (w ++ (62 ∷ [])) in
      let count : length w + 3 ≡ length following = omega (arith, length-append w (62 ∷ [])) in
      let front = ap (λ v. mark_front mode 40 (63 ∷ 60 ∷ v)) (append_assoc w (62 ∷ []) us) ∙ naming_front name w rest us spells in
      ap (λ p. p.0 ∷ marks_following mode p.1 (following ++ us)) front
      ∙ ap (λ n. capturing (Some w) ∷ marks_following mode n (following ++ us)) count
      ∙ ap (λ ms. capturing (Some w) ∷ ms) (marks_after mode following us)

-- the letters of modifiers, and the dash
abbrev is_in_modifiers : ℕ → Bool
is_in_modifiers c = is_modifier c || c == 45

in_modifiers_of : (w : List ℕ) → list_all is_modifier w ≡ true → list_all is_in_modifiers w ≡ true
in_modifiers_of [] h = refl
in_modifiers_of (c ∷ w) h =
    let p = both (is_modifier c) (list_all is_modifier w) h in
    rw p.0 (in_modifiers_of w p.1)

sides_in_modifiers : (enabled disabled text : List ℕ) → AreSides enabled disabled text → list_all is_in_modifiers text ≡ true
sides_in_modifiers enabled _ _ (one_side h) = in_modifiers_of enabled h
sides_in_modifiers _ _ _ (two_sides w v h k) =
    list_all-append is_in_modifiers w (45 ∷ v) ∙ rw (in_modifiers_of w h, in_modifiers_of v k) refl

all_in_modifiers_plain : (text : List ℕ) → list_all is_in_modifiers text ≡ true → list_all is_plain text ≡ true
all_in_modifiers_plain [] h = refl
all_in_modifiers_plain (c ∷ text) h =
    let p = both (is_in_modifiers c) (list_all is_in_modifiers text) h in
    rw (plain_in is_in_modifiers c refl p.0) (all_in_modifiers_plain text p.1)

-- the opening is `(?` alone
modifying_front : (mode : Mode) (c : ℕ) (us : List ℕ) → is_in_modifiers c ≡ true → mark_front mode 40 (63 ∷ c ∷ us) ≡ (quiet, 1)
unfolding mark_front
modifying_front mode c us h =
    rw (differs is_in_modifiers c 60 refl h, differs is_in_modifiers c 58 refl h, differs is_in_modifiers c 61 refl h, differs is_in_modifiers c 33 refl h) refl

-- the letters and the `:` of modifiers
pub record ModifierMarks (mode : Mode) (text : List ℕ) : Type 0 where
  pub following : GiveOthers mode (text ++ (58 ∷ []))
  pub whole : (us : List ℕ) → marks mode (40 ∷ 63 ∷ ((text ++ (58 ∷ [])) ++ us)) ≡ quiet ∷ marks mode ((text ++ (58 ∷ [])) ++ us)

-- `(?`, modifiers and `:` are an opening and others
pub modifier_marks : (mode : Mode) (enabled disabled text : List ℕ) → AreSides enabled disabled text → text ≢ [] → ModifierMarks mode text
modifier_marks mode enabled disabled text sides some =
    let within = sides_in_modifiers enabled disabled text sides in
    record {
      following = append_others mode text (58 ∷ []) (all_plain_others mode text (all_in_modifiers_plain text within)) (all_plain_others mode (58 ∷ []) refl);
      whole = go text some within;
    }
  where
    go : (text : List ℕ) → text ≢ [] → list_all is_in_modifiers text ≡ true → (us : List ℕ) →
        marks mode (40 ∷ 63 ∷ ((text ++ (58 ∷ [])) ++ us)) ≡ quiet ∷ marks mode ((text ++ (58 ∷ [])) ++ us)
    go [] some within us = absurd (some refl)
    go (c ∷ text) some within us =
        let p = both (is_in_modifiers c) (list_all is_in_modifiers text) within in
        let following : List ℕ = (text ++ (58 ∷ [])) ++ us in
        ap (λ p. p.0 ∷ marks_following mode p.1 (63 ∷ c ∷ following)) (modifying_front mode c following p.0)
