-- Text that opens and closes nothing: all its marks are others, whatever follows it.
use Rattle.std.proofs.Common.{◌≡◌, ℕ, ◌*◌, ◌+◌, ◌==◌, ◌≤◌, Bool, true, false, not, is_some, ◌||◌, List, [], ◌∷◌, ◌++◌, append_assoc, Option, Some, refl, sym, ap, ◌∙◌, subst, arith}
use Rattle.std.specs.List.{list_all}
use Rattle.std.proofs.lemmas.Bool.Decides.{nat_tests}
use Rattle.std.proofs.lemmas.List.Elements.{All-nil, All-cons, All-append}
use Rattle.std.proofs.lemmas.Option.{option_and_then_some}
use Rattle.rx_tables.specs.Characters.{hex_digit_value}
use Rattle.rx_units.specs.Digits.{hex_after}
use Rattle.rx_units.proofs.Choices.{both}
use Rattle.rx_model.specs.declared.mode.Mode.{Mode}
use Rattle.rx_model.specs.FirstPass.Cuts.{AreOthers}
use Rattle.rx_model.specs.Groups.GroupNames.{is_in_name, SpellsNameCharacter, one_unit, by_escape, raw_pair, SpellsNameParts, no_part, part, SpellsName, whole_name}
use Rattle.rx_model.specs.FirstPass.Marks.{Mark, other, mark_front, marks, marks_following}
use Rattle.rx_model.specs.Inputs.Environment.{is_unicode}
use Rattle.rx_model.specs.Quantifiers.Quantifiers.{decimal_digit_value, decimal_after, AreDigits, SpellsBraces, exactly, at_least, between, SpellsCounts, star, plus, optional, braces, lazy_mark}
use Rattle.rx_model.specs.Characters.UnicodeEscapes.{SpellsUnicode, code_unit, alone, pair, braced}

-- no unit that begins an escape or a class, opens or closes a group, or is a bar
abbrev pub is_plain : ℕ → Bool
is_plain u = not (u == 92 || u == 91 || u == 40 || u == 41 || u == 124)

-- a set that holds none of them is plain
pub plain_in : (set : ℕ → Bool) (u : ℕ) → (set 92 || set 91 || set 40 || set 41 || set 124) ≡ false → set u ≡ true → is_plain u ≡ true
plain_in set u without within = grind (arith, nat_tests)

module _ (mode : Mode) where
  -- a plain unit is a mark by itself
  plain_front : (u : ℕ) (us : List ℕ) → is_plain u ≡ true → mark_front mode u us ≡ (other, 0)
  unfolding mark_front
  plain_front u us h = grind (arith, nat_tests)

  -- The marks of these units are others, whatever follows them.
  pub record GiveOthers (w : List ℕ) : Type 0 where
    pub cut : List Mark
    pub others : AreOthers cut
    pub whole : (rest : List ℕ) → marks mode (w ++ rest) ≡ cut ++ marks mode rest

  pub nothing_others : GiveOthers []
  nothing_others = record { cut = []; others = All-nil (λ m. m ≡ other); whole = λ rest. refl }

  pub plain_others : (u : ℕ) (w : List ℕ) → is_plain u ≡ true → GiveOthers w → GiveOthers (u ∷ w)
  plain_others u w h q = record {
    cut = other ∷ q.cut;
    others = All-cons (λ m. m ≡ other) other q.cut refl q.others;
    whole = λ rest. ap (λ front. front.0 ∷ marks_following mode front.1 (w ++ rest)) (plain_front u (w ++ rest) h) ∙ ap (λ ms. other ∷ ms) (q.whole rest);
  }

  -- a backslash and its next unit
  pub escape_others : (u : ℕ) (w : List ℕ) → GiveOthers w → GiveOthers (92 ∷ u ∷ w)
  unfolding mark_front
  escape_others u w q = record {
    cut = other ∷ q.cut;
    others = All-cons (λ m. m ≡ other) other q.cut refl q.others;
    whole = λ rest. ap (λ ms. other ∷ ms) (q.whole rest);
  }

  pub append_others : (w v : List ℕ) → GiveOthers w → GiveOthers v → GiveOthers (w ++ v)
  append_others w v p q = record {
    cut = p.cut ++ q.cut;
    others = All-append (λ m. m ≡ other) p.cut q.cut p.others q.others;
    whole = λ rest.
        ap (marks mode) (append_assoc w v rest) ∙ p.whole (v ++ rest) ∙ ap (λ ms. p.cut ++ ms) (q.whole rest) ∙ sym (append_assoc p.cut q.cut (marks mode rest));
  }

  -- plain units alone
  pub all_plain_others : (w : List ℕ) → list_all is_plain w ≡ true → GiveOthers w
  all_plain_others [] h = nothing_others
  all_plain_others (u ∷ w) h = let p = both (is_plain u) (list_all is_plain w) h in plain_others u w p.0 (all_plain_others w p.1)

  -- hexadecimal digits
  pub hex_others : (n : ℕ) (ds : List ℕ) (v : ℕ) → hex_after n ds ≡ Some v → GiveOthers ds
  hex_others n [] v h = nothing_others
  hex_others n (c ∷ ds) v h =
      option_and_then_some (λ d. hex_after (16 * n + d) ds) (hex_digit_value c) v h (λ d digit more.
      plain_others c ds (plain_in (λ c. is_some (hex_digit_value c)) c refl (ap is_some digit)) (hex_others (16 * n + d) ds v more))

  -- decimal digits
  decimal_others : (n : ℕ) (ds : List ℕ) (v : ℕ) → decimal_after n ds ≡ Some v → GiveOthers ds
  decimal_others n [] v h = nothing_others
  decimal_others n (c ∷ ds) v h =
      option_and_then_some (λ d. decimal_after (10 * n + d) ds) (decimal_digit_value c) v h (λ d digit more.
      plain_others c ds (plain_in (λ c. is_some (decimal_digit_value c)) c refl (ap is_some digit)) (decimal_others (10 * n + d) ds v more))

  digits_others : {n : ℕ} {ds : List ℕ} → AreDigits n ds → GiveOthers ds
  digits_others {n} {ds} h = decimal_others 0 ds n h.number

  -- and digits after a backslash
  pub escaped_digits_others : {n : ℕ} {ds : List ℕ} → AreDigits n ds → GiveOthers (92 ∷ ds)
  escaped_digits_others {n} {ds} h =
      option_and_then_some (λ d. decimal_after (10 * 0 + d) h.more) (decimal_digit_value h.first) n (ap (decimal_after 0) (sym h.some) ∙ h.number) (λ d digit more.
      subst (λ ds. GiveOthers (92 ∷ ds)) (sym h.some) (escape_others h.first h.more (decimal_others (10 * 0 + d) h.more n more)))

  -- a unicode escape with its backslash
  pub unicode_others : (unicode_mode : Bool) (v : ℕ) (w rest : List ℕ) → SpellsUnicode unicode_mode v w rest → GiveOthers (92 ∷ w)
  unicode_others _ v _ rest (code_unit {a} {b} {c} {d} h) = escape_others 117 (a ∷ b ∷ c ∷ d ∷ []) (hex_others 0 (a ∷ b ∷ c ∷ d ∷ []) v h)
  unicode_others _ v _ rest (alone {a} {b} {c} {d} h k) = escape_others 117 (a ∷ b ∷ c ∷ d ∷ []) (hex_others 0 (a ∷ b ∷ c ∷ d ∷ []) v h)
  unicode_others _ _ _ rest (pair {a} {b} {c} {d} {e} {f} {g} {h} {lead} {trail} first second is_lead is_trail) =
      escape_others 117 (a ∷ b ∷ c ∷ d ∷ 92 ∷ 117 ∷ e ∷ f ∷ g ∷ h ∷ [])
      (append_others (a ∷ b ∷ c ∷ d ∷ []) (92 ∷ 117 ∷ e ∷ f ∷ g ∷ h ∷ []) (hex_others 0 (a ∷ b ∷ c ∷ d ∷ []) lead first)
      (escape_others 117 (e ∷ f ∷ g ∷ h ∷ []) (hex_others 0 (e ∷ f ∷ g ∷ h ∷ []) trail second)))
  unicode_others _ v _ rest (braced x xs h k) =
      escape_others 117 (123 ∷ x ∷ (xs ++ 125 ∷ [])) (plain_others 123 (x ∷ (xs ++ 125 ∷ [])) refl
      (append_others (x ∷ xs) (125 ∷ []) (hex_others 0 (x ∷ xs) v h) (all_plain_others (125 ∷ []) refl)))

  -- what stands in a name is plain
  in_name_plain : (first : Bool) (c : ℕ) → is_in_name first c ≡ true → is_plain c ≡ true
  in_name_plain true c h = plain_in (is_in_name true) c refl h
  in_name_plain false c h = plain_in (is_in_name false) c refl h

  surrogate_plain : (c : ℕ) → 0xD800 ≤ c → is_plain c ≡ true
  surrogate_plain c h = grind (arith, nat_tests)

  -- a code point of a name
  name_character_others : (first : Bool) (c : ℕ) (w rest : List ℕ) → SpellsNameCharacter (is_unicode mode) first c w rest → GiveOthers w
  name_character_others first c _ rest (one_unit h) = plain_others c [] (in_name_plain first c h) nothing_others
  name_character_others first c _ rest (by_escape {w} spells h) = unicode_others true c w rest spells
  name_character_others first _ _ rest (raw_pair {lead} {trail} legacy is_lead is_trail h) =
      plain_others lead (trail ∷ []) (surrogate_plain lead is_lead.0) (plain_others trail [] (surrogate_plain trail (omega (arith, is_trail.0))) nothing_others)

  name_parts_others : (cs w rest : List ℕ) → SpellsNameParts (is_unicode mode) cs w rest → GiveOthers w
  name_parts_others _ _ rest no_part = nothing_others
  name_parts_others _ _ _ (part {c} {cs} w v rest spells more) =
      append_others w v (name_character_others false c w (v ++ rest) spells) (name_parts_others cs v rest more)

  pub name_others : (name w rest : List ℕ) → SpellsName (is_unicode mode) name w rest → GiveOthers w
  name_others _ _ _ (whole_name {c} {cs} w v rest spells more) =
      append_others w v (name_character_others true c w (v ++ rest) spells) (name_parts_others cs v rest more)

  -- what a quantifier begins with
  braces_others : {min : ℕ} {max : Option ℕ} {w : List ℕ} → SpellsBraces min max w → GiveOthers w
  braces_others (exactly ds h) = plain_others 123 (ds ++ (125 ∷ [])) refl (append_others ds (125 ∷ []) (digits_others h) (all_plain_others (125 ∷ []) refl))
  braces_others (at_least ds h) = plain_others 123 (ds ++ (44 ∷ 125 ∷ [])) refl (append_others ds (44 ∷ 125 ∷ []) (digits_others h) (all_plain_others (44 ∷ 125 ∷ []) refl))
  braces_others (between ds es h k) =
      plain_others 123 (ds ++ (44 ∷ (es ++ (125 ∷ [])))) refl (append_others ds (44 ∷ (es ++ (125 ∷ []))) (digits_others h)
      (plain_others 44 (es ++ (125 ∷ [])) refl (append_others es (125 ∷ []) (digits_others k) (all_plain_others (125 ∷ []) refl))))

  pub counts_others : {min : ℕ} {max : Option ℕ} {w : List ℕ} → SpellsCounts min max w → GiveOthers w
  counts_others star = all_plain_others (42 ∷ []) refl
  counts_others plus = all_plain_others (43 ∷ []) refl
  counts_others optional = all_plain_others (63 ∷ []) refl
  counts_others (braces h) = braces_others h

  pub lazy_others : (greedy : Bool) → GiveOthers (lazy_mark greedy)
  lazy_others true = nothing_others
  lazy_others false = all_plain_others (63 ∷ []) refl
