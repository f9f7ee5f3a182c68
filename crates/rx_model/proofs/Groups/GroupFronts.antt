-- What groups begin with and named references: what is spelled is read, and what is read is spelled.
use Rattle.std.proofs.Common.{◌≡◌, ℕ, ◌+◌, ◌==◌, Bool, true, false, ◌||◌, Option, Some, None, List, [], ◌∷◌, ◌++◌, drop, length, refl, sym, ap, ◌∙◌, subst, arith, inl, inr, append_assoc, length-append, not}
use Rattle.std.proofs.Math.Seq.{drop-append_seam}
use Rattle.std.proofs.lemmas.Bool.{eqb-true, cond-true, cond-false, or_parts, or_from}
use Rattle.std.proofs.lemmas.Bool.Decides.{nat_tests}
use Rattle.rx_base.specs.SurrogatePair.{IsLeadSurrogate}
use Rattle.rx_ast.specs.declared.leaf.LookAroundAssertionKind.{LookAroundAssertionKind}
use Rattle.rx_ast.specs.declared.leaf.LookAroundAssertionKind.TheVariants as look
use Rattle.rx_units.specs.declared.code_point.CodePoint.{CodePoint}
use Rattle.rx_units.specs.Units.{values}
use Rattle.rx_units.specs.Digits.{front_is}
use Rattle.rx_units.proofs.Choices.{chosen, Some-inj}
use Rattle.rx_model.specs.Inputs.Environment.{Environment, is_unicode}
use Rattle.rx_model.specs.Reading.Fronts.{named_token, backslash_front}
use Rattle.rx_model.specs.Groups.GroupFronts.{closed_name, name_front, sides_at, modified_group, named_group, angle_group, question_group, group_front, reference_front}
use Rattle.rx_model.specs.Groups.GroupNameReading.{NameRow, row, name_at}
use Rattle.rx_model.specs.Groups.GroupNames.{is_in_name, SpellsName, whole_name, SpellsNameCharacter, one_unit, by_escape, raw_pair, BeginsWithName}
use Rattle.rx_model.specs.Groups.Groups.{IsNamed, is_mark, looks, SpellsOpener}
use Rattle.rx_model.specs.FirstPass.Marks.{starts}
use Rattle.rx_model.specs.Groups.Modifiers.{SpellsModifiers}
use Rattle.rx_model.specs.Quantifiers.Quantifiers.{is_question}
use Rattle.rx_ast.specs.Texts.{look_text}
use Rattle.rx_model.specs.Trees.Token.{Opener, capturing, ignoring, looking, named}
use Rattle.rx_model.proofs.Groups.GroupNames.{differs, name_at_law, name_before_closer}
use Rattle.rx_model.proofs.Groups.Modifiers.{no_mark, modified_read, ModifiersFront, modified_spelled}
use Rattle.rx_model.proofs.Reading.Splits.{starts_there, TextFront}

pub mark_is : (c : ℕ) → is_mark c ≡ (c == 58 || c == 61 || c == 33 || c == 60)
mark_is c = grind (arith, nat_tests)

module _ (unicode_mode : Bool) where
  name_some : (name w rest : List ℕ) → SpellsName unicode_mode name w rest → (c : ℕ) × (cs : List ℕ) × (name ≡ c ∷ cs)
  name_some _ _ _ (whole_name {c} {cs} w v rest spells more) = (c, cs, refl)

  -- a name and `>`, spelled → read
  name_front_read : (name w rest : List ℕ) → SpellsName unicode_mode name w (62 ∷ rest) → name_front unicode_mode (w ++ (62 ∷ rest)) ≡ Some (name, length w + 1)
  name_front_read name w rest s =
      let n = name_some name w (62 ∷ rest) s in
      ap (λ r. closed_name r (w ++ (62 ∷ rest))) (name_before_closer unicode_mode name w rest s ∙ ap (λ name. row name (length w)) n.2)
      ∙ cond-true (starts 62 (drop (length w) (w ++ (62 ∷ rest)))) _ _ (ap (starts 62) (drop-append_seam w (62 ∷ rest)))
      ∙ ap (λ name. Some (name, length w + 1)) (sym n.2)

  -- a name and `>` that stand at the front
  record NameFront (p : List ℕ × ℕ) (w : List ℕ) : Type 0 where
    spelled : List ℕ
    rest : List ℕ
    spells : SpellsName unicode_mode p.0 spelled (62 ∷ rest)
    whole : w ≡ spelled ++ (62 ∷ rest)
    count : length spelled + 1 ≡ p.1

  closed_found : (w name : List ℕ) (n : ℕ) → BeginsWithName unicode_mode w name n → starts 62 (drop n w) ≡ true → NameFront (name, n + 1) w
  closed_found w name n b h =
      let after : drop n w ≡ b.rest = ap (drop n) b.whole ∙ ap (λ n. drop n (b.spelled ++ b.rest)) (sym b.count_is) ∙ drop-append_seam b.spelled b.rest in
      let s = starts_there 62 b.rest (ap (starts 62) (sym after) ∙ h) in
      record {
        spelled = b.spelled;
        rest = s.0;
        spells = subst (SpellsName unicode_mode name b.spelled) s.1 b.spells;
        whole = b.whole ∙ ap (λ rest. b.spelled ++ rest) s.1;
        count = ap (λ n. n + 1) b.count_is;
      }

  name_front_spelled : (w : List ℕ) (p : List ℕ × ℕ) → name_front unicode_mode w ≡ Some p → NameFront p w
  name_front_spelled w p h = go (name_at unicode_mode w) refl h
    where
      go : (r : NameRow) → name_at unicode_mode w ≡ r → closed_name r w ≡ Some p → NameFront p w
      go (row [] n) e k = absurd (let no : ⊥ = cc k in no)
      go (row (c ∷ cs) n) e k = elim (chosen (starts 62 (drop n w)) k) [
        | inl q ↦ subst (λ p. NameFront p w) (Some-inj q.1) (closed_found w (c ∷ cs) n ((name_at_law unicode_mode w c cs n).0 e) q.0)
        | inr q ↦ absurd (let no : ⊥ = cc q.1 in no)
      ]

  unit_no_look : (c : ℕ) → is_in_name true c ≡ true → looks c ≡ false
  unit_no_look c h = or_from (c == 61) (c == 33) (differs (is_in_name true) c 61 refl h) (differs (is_in_name true) c 33 refl h)

  lead_no_look : (c : ℕ) → IsLeadSurrogate c → looks c ≡ false
  lead_no_look c lead = grind (arith, nat_tests, lead.0)

  character_no_look : (c : ℕ) (w rest more : List ℕ) → SpellsNameCharacter unicode_mode true c w rest → front_is looks (w ++ more) ≡ false
  character_no_look c _ rest more (one_unit h) = unit_no_look c h
  character_no_look c _ rest more (by_escape spells h) = refl
  character_no_look _ _ rest more (raw_pair {lead} legacy is_lead is_trail h) = lead_no_look lead is_lead

  -- A name begins neither with `=` nor with `!`.
  name_no_look : (name w rest more : List ℕ) → SpellsName unicode_mode name w rest → front_is looks (w ++ more) ≡ false
  name_no_look _ _ _ more (whole_name {c} w v rest spells parts) = ap (front_is looks) (append_assoc w v more) ∙ character_no_look c w (v ++ rest) (v ++ more) spells

  -- a group that neither is a lookbehind nor lacks a name
  pub angle_named : (v : List ℕ) → front_is looks v ≡ false → angle_group unicode_mode v ≡ named_group (name_front unicode_mode v)
  angle_named [] h = refl
  angle_named (c ∷ w) h = let p = or_parts (c == 61) (c == 33) h in cond-false (c == 61) _ _ p.0 ∙ cond-false (c == 33) _ _ p.1

  pub question_modified : (c : ℕ) (w : List ℕ) → is_mark c ≡ false → question_group unicode_mode (c ∷ w) ≡ modified_group (sides_at (c ∷ w)) (c ∷ w)
  question_modified c w h =
      let other : (d : ℕ) → is_mark d ≡ true → (c == d) ≡ false = λ d is. differs (λ c. not (is_mark c)) c d (ap not is) (ap not h) in
      cond-false (c == 58) _ _ (other 58 refl) ∙ cond-false (c == 61) _ _ (other 61 refl) ∙ cond-false (c == 33) _ _ (other 33 refl) ∙ cond-false (c == 60) _ _ (other 60 refl)

  group_plain : (v : List ℕ) → front_is is_question v ≡ false → group_front unicode_mode v ≡ Some (capturing None, 1)
  unfolding group_front
  group_plain [] h = refl
  group_plain (c ∷ w) h = cond-false (c == 63) _ _ h

  -- a name and `>` after n units
  angle_front : (name w rest : List ℕ) → SpellsName unicode_mode name w (62 ∷ rest) → name_front unicode_mode ((w ++ (62 ∷ [])) ++ rest) ≡ Some (name, length (w ++ (62 ∷ [])))
  angle_front name w rest s =
      ap (name_front unicode_mode) (append_assoc w (62 ∷ []) rest)
      ∙ name_front_read name w rest s
      ∙ ap (λ n. Some (name, n)) (omega (arith, length-append w (62 ∷ [])))

  naming_front : (name w rest : List ℕ) → SpellsName unicode_mode name w (62 ∷ rest) →
      group_front unicode_mode (63 ∷ 60 ∷ ((w ++ (62 ∷ [])) ++ rest)) ≡ Some (capturing (Some name), length (40 ∷ 63 ∷ 60 ∷ (w ++ (62 ∷ []))))
  unfolding group_front
  naming_front name w rest s =
      angle_named ((w ++ (62 ∷ [])) ++ rest) (ap (front_is looks) (append_assoc w (62 ∷ []) rest) ∙ name_no_look name w (62 ∷ rest) (62 ∷ rest) s)
      ∙ ap named_group (angle_front name w rest s)
      ∙ ap (λ n. Some (capturing (Some name), n)) (omega arith)

  modified_front : (bits : ℕ × ℕ) (text rest : List ℕ) → SpellsModifiers bits.0 bits.1 text →
      group_front unicode_mode (63 ∷ ((text ++ (58 ∷ [])) ++ rest)) ≡ Some (ignoring (Some bits), length (40 ∷ 63 ∷ (text ++ (58 ∷ []))))
  unfolding group_front
  modified_front bits text rest s =
      let m = no_mark bits.0 bits.1 text s in
      let whole : text ++ (58 ∷ rest) ≡ m.0 ∷ (m.1 ++ (58 ∷ rest)) = ap (λ text. text ++ (58 ∷ rest)) m.2 in
      ap (question_group unicode_mode) (append_assoc text (58 ∷ []) rest ∙ whole)
      ∙ question_modified m.0 (m.1 ++ (58 ∷ rest)) m.3
      ∙ ap (λ v. modified_group (sides_at v) v) (sym whole)
      ∙ modified_read bits.0 bits.1 text rest s
      ∙ ap (λ n. Some (ignoring (Some bits), n)) (omega (arith, length-append text (58 ∷ [])))

module _ (e : Environment) where
  -- what a group begins with is read so
  pub record OpenerRead (o : Opener) (w rest : List CodePoint) : Type 0 where
    pub following : List ℕ
    pub whole : values w ≡ 40 ∷ following
    pub read : group_front (is_unicode e.mode) (following ++ values rest) ≡ Some (o, length (40 ∷ following))

  look_read : (kind : LookAroundAssertionKind) (w rest : List CodePoint) → values w ≡ look_text kind → OpenerRead (looking kind) w rest
  unfolding group_front
  look_read look.Lookahead w rest s = record { following = 63 ∷ 61 ∷ []; whole = s; read = refl }
  look_read look.NegativeLookahead w rest s = record { following = 63 ∷ 33 ∷ []; whole = s; read = refl }
  look_read look.Lookbehind w rest s = record { following = 63 ∷ 60 ∷ 61 ∷ []; whole = s; read = refl }
  look_read look.NegativeLookbehind w rest s = record { following = 63 ∷ 60 ∷ 33 ∷ []; whole = s; read = refl }

  -- spelled → read
  pub opener_read : (o : Opener) (w rest : List CodePoint) → SpellsOpener e o w rest → OpenerRead o w rest
  unfolding group_front
  opener_read (capturing None) w rest s = record { following = []; whole = s.0; read = group_plain (is_unicode e.mode) (values rest) s.1 }
  opener_read (capturing (Some name)) w rest s = record {
    following = 63 ∷ 60 ∷ (s.spelled ++ (62 ∷ []));
    whole = s.whole;
    read = naming_front (is_unicode e.mode) name s.spelled (values rest) s.spells;
  }
  opener_read (ignoring None) w rest s = record { following = 63 ∷ 58 ∷ []; whole = s; read = refl }
  opener_read (ignoring (Some bits)) w rest s = record { following = 63 ∷ (s.text ++ (58 ∷ [])); whole = s.whole; read = modified_front (is_unicode e.mode) bits s.text (values rest) s.spelled }
  opener_read (looking kind) w rest s = look_read kind w rest s

  -- a named reference, spelled → read
  pub named_read : (name : List ℕ) (w rest : List CodePoint) → IsNamed e name w rest → (following : List ℕ) × (values w ≡ 92 ∷ following) × (backslash_front e (following ++ values rest) ≡ Some (named name, length (92 ∷ following)))
  unfolding backslash_front reference_front
  named_read name w rest s = (
    107 ∷ 60 ∷ (s.spelled ++ (62 ∷ [])),
    s.whole,
    cond-true e.named _ _ s.there ∙ ap named_token (angle_front (is_unicode e.mode) name s.spelled (values rest) s.spells) ∙ ap (λ n. Some (named name, n)) (omega arith),
  )

  abbrev OpenerText : List ℕ → Opener × ℕ → Type 0
  OpenerText v p = TextFront (SpellsOpener e p.0) p.1 v

  opener_of : {p : Opener × ℕ} (o : Opener) (n : ℕ) (text back : List ℕ) → length text ≡ n → ((w rest : List CodePoint) → values w ≡ text → values rest ≡ back → SpellsOpener e o w rest) →
      Some (o, n) ≡ Some p → OpenerText (text ++ back) p
  opener_of o n text back l s h = subst (OpenerText (text ++ back)) (Some-inj h) (record { text = text; back = back; whole = refl; count = l; spells = s })

  naming_spelled : (v : List ℕ) (p : Opener × ℕ) (r : Option (List ℕ × ℕ)) → name_front (is_unicode e.mode) v ≡ r → named_group r ≡ Some p → OpenerText (40 ∷ 63 ∷ 60 ∷ v) p
  naming_spelled v p None f h = absurd (let no : ⊥ = cc h in no)
  naming_spelled v p (Some n) f h =
      let s = name_front_spelled (is_unicode e.mode) v n f in
      subst (λ v. OpenerText (40 ∷ 63 ∷ 60 ∷ v) p) (append_assoc s.spelled (62 ∷ []) s.rest ∙ sym s.whole)
      (opener_of (capturing (Some n.0)) (n.1 + 3) (40 ∷ 63 ∷ 60 ∷ (s.spelled ++ (62 ∷ []))) s.rest (omega (arith, s.count, length-append s.spelled (62 ∷ [])))
      (λ w rest a b. record { spelled = s.spelled; whole = a; spells = subst (λ rest. SpellsName (is_unicode e.mode) n.0 s.spelled (62 ∷ rest)) (sym b) s.spells }) h)

  angle_spelled : (v : List ℕ) (p : Opener × ℕ) → angle_group (is_unicode e.mode) v ≡ Some p → OpenerText (40 ∷ 63 ∷ 60 ∷ v) p
  angle_spelled [] p h = absurd (let no : ⊥ = cc h in no)
  angle_spelled (c ∷ w) p h = elim (chosen (c == 61) h) [
    | inl q ↦ rw (eqb-true c 61 q.0) (opener_of (looking look.Lookbehind) 4 (40 ∷ 63 ∷ 60 ∷ 61 ∷ []) w refl (λ w rest a b. a) q.1)
    | inr q ↦ elim (chosen (c == 33) q.1) [
      | inl q ↦ rw (eqb-true c 33 q.0) (opener_of (looking look.NegativeLookbehind) 4 (40 ∷ 63 ∷ 60 ∷ 33 ∷ []) w refl (λ w rest a b. a) q.1)
      | inr q ↦ naming_spelled (c ∷ w) p (name_front (is_unicode e.mode) (c ∷ w)) refl q.1
    ]
  ]

  modifiers_spelled : (v : List ℕ) (p : Opener × ℕ) → ModifiersFront p v → OpenerText (40 ∷ 63 ∷ v) p
  modifiers_spelled v p s =
      subst (λ v. OpenerText (40 ∷ 63 ∷ v) p) (append_assoc s.text (58 ∷ []) s.rest ∙ sym s.whole)
      (opener_of (ignoring (Some (s.enabling, s.disabling))) (length s.text + 3) (40 ∷ 63 ∷ (s.text ++ (58 ∷ []))) s.rest (omega (arith, length-append s.text (58 ∷ [])))
      (λ w rest a b. record { text = s.text; whole = a; spelled = s.spelled }) s.is_so)

  question_spelled : (v : List ℕ) (p : Opener × ℕ) → question_group (is_unicode e.mode) v ≡ Some p → OpenerText (40 ∷ 63 ∷ v) p
  question_spelled [] p h = absurd (let no : ⊥ = cc h in no)
  question_spelled (c ∷ w) p h = elim (chosen (c == 58) h) [
    | inl q ↦ rw (eqb-true c 58 q.0) (opener_of (ignoring None) 3 (40 ∷ 63 ∷ 58 ∷ []) w refl (λ w rest a b. a) q.1)
    | inr colon ↦ elim (chosen (c == 61) colon.1) [
      | inl q ↦ rw (eqb-true c 61 q.0) (opener_of (looking look.Lookahead) 3 (40 ∷ 63 ∷ 61 ∷ []) w refl (λ w rest a b. a) q.1)
      | inr q ↦ elim (chosen (c == 33) q.1) [
        | inl q ↦ rw (eqb-true c 33 q.0) (opener_of (looking look.NegativeLookahead) 3 (40 ∷ 63 ∷ 33 ∷ []) w refl (λ w rest a b. a) q.1)
        | inr q ↦ elim (chosen (c == 60) q.1) [
          | inl q ↦ rw (eqb-true c 60 q.0) (angle_spelled w p q.1)
          | inr q ↦ modifiers_spelled (c ∷ w) p (modified_spelled (c ∷ w) p colon.0 q.1)
        ]
      ]
    ]
  ]

  -- read → spelled
  pub opener_spelled : (v : List ℕ) (p : Opener × ℕ) → group_front (is_unicode e.mode) v ≡ Some p → TextFront (SpellsOpener e p.0) p.1 (40 ∷ v)
  unfolding group_front
  opener_spelled [] p h = opener_of (capturing None) 1 (40 ∷ []) [] refl (λ w rest a b. (a, ap (front_is is_question) b)) h
  opener_spelled (c ∷ w) p h = elim (chosen (c == 63) h) [
    | inl q ↦ rw (eqb-true c 63 q.0) (question_spelled w p q.1)
    | inr q ↦ opener_of (capturing None) 1 (40 ∷ []) (c ∷ w) refl (λ v rest a b. (a, ap (front_is is_question) b ∙ q.0)) q.1
  ]

  name_spelled : (v : List ℕ) (p : List ℕ × ℕ) → e.named ≡ true → name_front (is_unicode e.mode) v ≡ Some p → TextFront (IsNamed e p.0) (p.1 + 3) (92 ∷ 107 ∷ 60 ∷ v)
  name_spelled v p h k =
      let s = name_front_spelled (is_unicode e.mode) v p k in
      record {
        text = 92 ∷ 107 ∷ 60 ∷ (s.spelled ++ (62 ∷ []));
        back = s.rest;
        whole = ap (λ v. 92 ∷ 107 ∷ 60 ∷ v) (s.whole ∙ sym (append_assoc s.spelled (62 ∷ []) s.rest));
        count = omega (arith, s.count, length-append s.spelled (62 ∷ []));
        spells = λ w rest a b. record {
          spelled = s.spelled;
          whole = a;
          spells = subst (λ rest. SpellsName (is_unicode e.mode) p.0 s.spelled (62 ∷ rest)) (sym b) s.spells;
          there = h;
        };
      }

  pub named_spelled : (v : List ℕ) (p : List ℕ × ℕ) → e.named ≡ true → reference_front (is_unicode e.mode) v ≡ Some p → TextFront (IsNamed e p.0) (p.1 + 3) (92 ∷ 107 ∷ v)
  unfolding reference_front
  named_spelled [] p h k = absurd (let no : ⊥ = cc k in no)
  named_spelled (c ∷ w) p h k = elim (chosen (c == 60) k) [
    | inl q ↦ rw (eqb-true c 60 q.0) (name_spelled w p h q.1)
    | inr q ↦ absurd (let no : ⊥ = cc q.1 in no)
  ]
