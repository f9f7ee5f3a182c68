-- No pattern of `gen` is refused: its pieces are tokens that stand one after another, so that the end of its text is reached with no group open.
use Rattle.std.proofs.Common.{◌≡◌, refl, ap, sym, ◌∙◌, subst, ℕ, zero, suc, ◌+◌, ◌<◌, ◌≤◌, Bool, true, false, Option, Some, None, List, [], ◌∷◌, ◌++◌, length, drop, map, arith, codes}
use Rattle.std.specs.List.{All}
use Rattle.std.proofs.Math.Seq.{drop-append_seam}
use Rattle.std.proofs.lemmas.List.Elements.{All-nil, All-cons}
use Rattle.rx_base.specs.declared.diagnostic.Diagnostic.{Diagnostic}
use Rattle.rx_ast.specs.declared.leaf.CharacterKind.TheVariants as kind
use Rattle.rx_ast.specs.declared.class.CharacterClassContentsKind.TheVariants.{Union}
use Rattle.rx_ast.specs.ClassTree.{no_member, member}
use Rattle.rx_ast.specs.ClassTree as tree
use Rattle.rx_ast.specs.Forget.{nowhere}
use Rattle.rx_tables.specs.Properties.{general_category_values}
use Rattle.rx_units.specs.declared.code_point.CodePoint.{CodePoint}
use Rattle.rx_units.specs.Units.{literal_units, values}
use Rattle.rx_model.specs.declared.form.Form.TheVariants.{Literal}
use Rattle.rx_units.specs.Digits.{front_is}
use Rattle.rx_model.specs.declared.mode.Mode.{Mode}
use Rattle.rx_model.specs.declared.mode.Mode.TheVariants.{Unicode}
use Rattle.rx_model.specs.Characters.EscapeFronts.{escape_at}
use Rattle.rx_model.specs.Classes.ClassFromTokens.{atom_member, range_member}
use Rattle.rx_model.specs.Classes.ClassFronts.{atom_at, class_front, class_token_at}
use Rattle.rx_model.specs.Classes.ClassTokens as atom
use Rattle.rx_model.specs.FirstPass.Marks.{Mark, count, listed, mark_at, mark_front, mark_name, marks}
use Rattle.rx_model.specs.FirstPass.Marks as mark
use Rattle.rx_model.specs.Groups.GroupFronts.{group_front}
use Rattle.rx_model.specs.Inputs.Environment.{Environment, environment_with, has_some}
use Rattle.rx_model.specs.Inputs.Flags.{flags_ok}
use Rattle.rx_model.specs.Inputs.Texts.{literal_text, of_literal, some_flags}
use Rattle.rx_model.specs.Properties.PropertyFronts.{property_front}
use Rattle.rx_model.specs.Quantifiers.Quantifiers.{is_question}
use Rattle.rx_model.specs.Reading.Fronts.{front, backslash_front, counts_at}
use Rattle.rx_model.specs.Reading.Headline.{IsFirstRefusal, no_flags_text, no_text, of_flags, of_text}
use Rattle.rx_model.specs.Reading.Rows.{TokenRow}
use Rattle.rx_model.specs.Refusals.Causes.{IsCauseAtPlace}
use Rattle.rx_model.specs.Refusals.Firsts.{IsFirst, of_groups, of_places}
use Rattle.rx_model.specs.Refusals.Reached.{HasNoClash, IsReached, text_groups, text_names}
use Rattle.rx_model.specs.Trees.Early.{Obeys, most_groups}
use Rattle.rx_model.specs.Trees.Shapes.{run}
use Rattle.rx_model.specs.Trees.Token.{Token, Opener, character, dot, property, class, opener, closer, bar, quantifier, capturing, ignoring}
use Rattle.rx_model.proofs.Inputs.Asked.{alone_asks, one_asked, one_flags}
use Rattle.rx_model.proofs.Properties.PropertyFlags.{category_flag}
use Rattle.rx_model.proofs.Reading.Fronts.{front_spelled}
use Rattle.rx_model.proofs.Refusals.Beyond.{Ends, passes, left_open, cause_ends}
use Rattle.rx_model.proofs.Refusals.FlagCauses.{cause_refuses}
use Rattle.rx_model.proofs.Refusals.Places.{same_place}
use Rattle.rx_model.proofs.Refusals.Refusals.{class_laws}
use Rattle.rx_model.proofs.Spelling.Backs.{units-append, values_literal}
use Rattle.rx_model.specs.declared.rules.Rules.{Rules}
use Rattle.rx_command.specs.Dialects.{both_rules}
use Rattle.rx_run.specs.Reply.{}
use Rattle.rx_run.specs.Generator.{unicode_literal, draw_of, next_state, pattern_text, piece, pieces_text}

-- Where the end of a text is reached with no group open no refusal holds at a place.
ended_refuses : (mode : Mode) (rules : Rules) (us : List CodePoint) (start added : ℕ) (ready : Bool) → IsReached mode rules us (length us) [] ready [] →
    (place : ℕ) (d : Diagnostic) → IsCauseAtPlace mode rules us start added place d → ⊥
ended_refuses mode rules us start added ready end place d c = by (cause_ends mode rules us start added (class_laws mode rules us start added) place d c)
  where
    in_group : (group : Opener) (open_groups : List Opener) (ready_in : Bool) (rest : List CodePoint) → IsReached mode rules us place (group ∷ open_groups) ready_in rest → place < length us
    in_group group open_groups ready_in [] r = let same = (same_place mode rules us r end (omega (arith, r.place_is))).open_is in cc same
    in_group group open_groups ready_in (u ∷ rest) r = omega (arith, r.place_is)

    by : Ends mode rules us place → ⊥
    by (passes k le less none) = none (length us) [] (record { open_groups = []; ready = ready; reached = end }) less
    by (left_open group open_groups ready_in rest r none) =
        none (length us) [] (record { open_groups = []; ready = ready; reached = end }) (in_group group open_groups ready_in rest r)

-- no piece begins with `?`
no_question : (number : ℕ) (rest : List ℕ) → front_is is_question rest ≡ false → front_is is_question (piece number ++ rest) ≡ false
no_question zero rest h = refl
no_question (suc zero) rest h = refl
no_question (suc (suc zero)) rest h = refl
no_question (suc (suc (suc zero))) rest h = refl
no_question (suc (suc (suc (suc zero)))) rest h = refl
no_question (suc (suc (suc (suc (suc zero))))) rest h = refl
no_question (suc (suc (suc (suc (suc (suc zero)))))) rest h = refl
no_question (suc (suc (suc (suc (suc (suc (suc zero))))))) rest h = refl
no_question (suc (suc (suc (suc (suc (suc (suc (suc number)))))))) rest h = h

no_question_next : (n x : ℕ) → front_is is_question (pieces_text n x) ≡ false
unfolding pieces_text
no_question_next zero x = refl
no_question_next (suc n) x = no_question (draw_of (next_state x)) (pieces_text n (next_state x)) (no_question_next n (next_state x))

module _ (groups : ℕ) (names : List (List ℕ)) (has_names : Bool) where
  abbrev here : Environment
  here = environment_with Unicode true groups has_names

  -- Tokens, each of n units, lead from some units to others, and each is early by itself.
  abbrev AreRead : List (Token × ℕ) → List CodePoint → List CodePoint → Type 0
  AreRead [] us rest = us ≡ rest
  AreRead (t ∷ ts) us rest = (front here us ≡ Some t) × Obeys groups names t.0 × AreRead ts (drop t.1 us) rest

  -- A piece before the rest of a text is tokens that leave no group open.
  record IsPiece (at : ℕ) (text : List ℕ) (rest : List CodePoint) : Type 0 where
    pub tokens : List (Token × ℕ)
    pub read : AreRead tokens (literal_units true at text ++ rest) rest
    pub accepted : (more : List Token) (ready : Bool) → (after : Bool) × (run Unicode (map (λ t. t.0) tokens ++ more) [] ready ≡ run Unicode more [] after)

  piece_read : (number at : ℕ) (rest : List CodePoint) → front_is is_question (values rest) ≡ false → IsPiece at (piece number) rest
  unfolding front backslash_front escape_at class_front class_token_at atom_at counts_at group_front property_front general_category_values
  piece_read zero at rest h = record {
    tokens = (character kind.Symbol 97, 1) ∷ [];
    read = (refl, omega arith, refl);
    accepted = λ more ready. (true, refl);
  }
  piece_read (suc zero) at rest h = record {
    tokens = (character kind.HexadecimalEscape 65, 4) ∷ [];
    read = (refl, omega arith, refl);
    accepted = λ more ready. (true, refl);
  }
  piece_read (suc (suc zero)) at rest h = record {
    tokens =
        (class (tree.class nowhere false false Union (member (range_member kind.Symbol 48 kind.Symbol 57) (member (atom_member (atom.character kind.Symbol 95)) no_member))), 6)
        ∷ (quantifier 1 None true, 1) ∷ [];
    read = (refl, (refl, refl, ((omega arith, omega arith, omega arith), (omega arith, tt))), (rw h refl, (omega arith, tt), refl));
    accepted = λ more ready. (false, refl);
  }
  piece_read (suc (suc (suc zero))) at rest h = record {
    tokens = (opener (ignoring None), 3) ∷ (character kind.Symbol 98, 1) ∷ (bar, 1) ∷ (character kind.Symbol 99, 1) ∷ (closer, 1) ∷ (quantifier 0 None true, 1) ∷ [];
    read = (refl, tt, (refl, omega arith, (refl, tt, (refl, omega arith, (refl, tt, (rw h refl, (omega arith, tt), refl))))));
    accepted = λ more ready. (false, refl);
  }
  piece_read (suc (suc (suc (suc zero)))) at rest h = record {
    tokens = (character kind.UnicodeEscape 0x1F600, 9) ∷ [];
    read = (refl, omega arith, refl);
    accepted = λ more ready. (true, refl);
  }
  piece_read (suc (suc (suc (suc (suc zero))))) at rest h = record {
    tokens = (opener (capturing None), 1) ∷ (character kind.Symbol 100, 1) ∷ (closer, 1) ∷ [];
    read = (refl, tt, (refl, omega arith, (refl, tt, refl)));
    accepted = λ more ready. (true, refl);
  }
  piece_read (suc (suc (suc (suc (suc (suc zero)))))) at rest h = record {
    tokens = (dot, 1) ∷ (quantifier 2 (Some 3) false, 6) ∷ [];
    read = (refl, tt, (refl, (omega arith, (omega arith, omega arith)), refl));
    accepted = λ more ready. (false, refl);
  }
  piece_read (suc (suc (suc (suc (suc (suc (suc zero))))))) at rest h = record {
    tokens = (property false false (codes "General_Category") (Some (codes "Lu")), 6) ∷ [];
    read = (refl, (category_flag, refl), refl);
    accepted = λ more ready. (true, refl);
  }
  piece_read (suc (suc (suc (suc (suc (suc (suc (suc number)))))))) at rest h = record {
    tokens = [];
    read = refl;
    accepted = λ more ready. (ready, refl);
  }

  -- The text from a place on is a row of tokens, each early by itself, that leave no group open.
  record IsRow (at : ℕ) (text : List ℕ) : Type 0 where
    pub tokens : List Token
    pub row : TokenRow here tokens (literal_units true at text) []
    pub accepted : (ready : Bool) → (after : Bool) × (run Unicode tokens [] ready ≡ Some ([], after))
    pub obey : All (Obeys groups names) tokens

  row_read : (ts : List (Token × ℕ)) (more : List Token) (us rest : List CodePoint) → AreRead ts us rest → TokenRow here more rest [] → TokenRow here (map (λ t. t.0) ts ++ more) us []
  row_read [] more us rest r row = subst (λ v. TokenRow here more v []) (sym r) row
  row_read (t ∷ ts) more us rest r row =
      let f = front_spelled here us t.0 t.1 r.0 in
      let left : drop t.1 us ≡ f.rest = ap (λ k. drop k us) (sym f.count) ∙ ap (drop (length f.w)) f.whole ∙ drop-append_seam f.w f.rest in
      (f.w, f.rest, f.whole, f.spells, subst (λ v. TokenRow here (map (λ t. t.0) ts ++ more) v []) left (row_read ts more (drop t.1 us) rest r.2 row))

  all_obey : (ts : List (Token × ℕ)) (more : List Token) (us rest : List CodePoint) → AreRead ts us rest → All (Obeys groups names) more → All (Obeys groups names) (map (λ t. t.0) ts ++ more)
  all_obey [] more us rest r h = h
  all_obey (t ∷ ts) more us rest r h = All-cons (Obeys groups names) t.0 (map (λ t. t.0) ts ++ more) r.1 (all_obey ts more (drop t.1 us) rest r.2 h)

  pieces_row : (n x at : ℕ) → IsRow at (pieces_text n x)
  unfolding pieces_text
  pieces_row zero x at = record {
    tokens = [];
    row = refl;
    accepted = λ ready. (ready, refl);
    obey = All-nil (Obeys groups names);
  }
  pieces_row (suc n) x at =
      let number : ℕ = draw_of (next_state x) in
      let rest : List ℕ = pieces_text n (next_state x) in
      let parted = units-append at (piece number) rest in
      let back : List CodePoint = literal_units true parted.0 rest in
      let p = piece_read number at back (ap (front_is is_question) (values_literal parted.0 rest) ∙ no_question_next n (next_state x)) in
      let r = pieces_row n (next_state x) parted.0 in
      let us : List CodePoint = literal_units true at (piece number) ++ back in
      record {
        tokens = map (λ t. t.0) p.tokens ++ r.tokens;
        row = subst (λ v. TokenRow here (map (λ t. t.0) p.tokens ++ r.tokens) v []) (sym parted.1) (row_read p.tokens r.tokens us back p.read r.row);
        accepted = λ ready. let a = p.accepted r.tokens ready in let b = r.accepted a.0 in (b.0, a.1 ∙ b.1);
        obey = all_obey p.tokens r.tokens us back p.read r.obey;
      }

-- a piece opens one group that captures at most, and none with a name
piece_marks : (number : ℕ) (rest : List ℕ) →
    (count (marks Unicode (piece number ++ rest)) ≤ 1 + count (marks Unicode rest)) × (mark.names Unicode (marks Unicode (piece number ++ rest)) ≡ mark.names Unicode (marks Unicode rest))
unfolding mark_front
piece_marks zero rest = (omega arith, refl)
piece_marks (suc zero) rest = (omega arith, refl)
piece_marks (suc (suc zero)) rest = (omega arith, refl)
piece_marks (suc (suc (suc zero))) rest = (omega arith, refl)
piece_marks (suc (suc (suc (suc zero)))) rest = (omega arith, refl)
piece_marks (suc (suc (suc (suc (suc zero))))) rest = (omega arith, refl)
piece_marks (suc (suc (suc (suc (suc (suc zero)))))) rest = (omega arith, refl)
piece_marks (suc (suc (suc (suc (suc (suc (suc zero))))))) rest = (omega arith, refl)
piece_marks (suc (suc (suc (suc (suc (suc (suc (suc number)))))))) rest = (omega arith, refl)

pieces_marks : (n x : ℕ) → (count (marks Unicode (pieces_text n x)) ≤ n) × (mark.names Unicode (marks Unicode (pieces_text n x)) ≡ [])
unfolding pieces_text
pieces_marks zero x = (omega arith, refl)
pieces_marks (suc n) x =
    let p = piece_marks (draw_of (next_state x)) (pieces_text n (next_state x)) in
    let more = pieces_marks n (next_state x) in
    (omega (arith, p.0, more.0), p.1 ∙ more.1)

-- where no mark has a name none at an index has
unnamed : (ms : List Mark) (i : ℕ) (name : List ℕ) → mark.names Unicode ms ≡ [] → mark_name Unicode (mark_at ms i) ≡ Some name → ⊥
unnamed [] i name none h = cc h
unnamed (m ∷ ms) zero name none h = let no : listed (Some name) ++ mark.names Unicode ms ≡ [] = ap (λ o. listed o ++ mark.names Unicode ms) (sym h) ∙ none in cc no
unnamed (m ∷ ms) (suc i) name none h = unnamed ms i name (tail (mark_name Unicode m) none) h
  where
    tail : (o : Option (List ℕ)) → listed o ++ mark.names Unicode ms ≡ [] → mark.names Unicode ms ≡ []
    tail None e = e
    tail (Some name) e = absurd (let no : ⊥ = cc e in no)

-- a text of some pieces is not empty
piece_some : (number : ℕ) (rest : List ℕ) → number < 8 → literal_text (piece number ++ rest) ≡ piece number ++ rest
piece_some zero rest h = refl
piece_some (suc zero) rest h = refl
piece_some (suc (suc zero)) rest h = refl
piece_some (suc (suc (suc zero))) rest h = refl
piece_some (suc (suc (suc (suc zero)))) rest h = refl
piece_some (suc (suc (suc (suc (suc zero))))) rest h = refl
piece_some (suc (suc (suc (suc (suc (suc zero)))))) rest h = refl
piece_some (suc (suc (suc (suc (suc (suc (suc zero))))))) rest h = refl
piece_some (suc (suc (suc (suc (suc (suc (suc (suc number)))))))) rest h = absurd (omega (arith, h))

pieces_some : (n x : ℕ) → literal_text (pieces_text (suc n) x) ≡ pieces_text (suc n) x
unfolding pieces_text
pieces_some n x = piece_some (draw_of (next_state x)) (pieces_text n (next_state x)) (omega arith)

-- Of one to eight pieces no text is refused.
module _ (n x : ℕ) (few : n < 8) where
  us : List CodePoint
  us = literal_units true 0 (pieces_text (suc n) x)

  units_are : values us ≡ pieces_text (suc n) x
  unfolding us
  units_are = values_literal 0 (pieces_text (suc n) x)

  no_clash : HasNoClash Unicode true us
  no_clash a b clash = unnamed (marks Unicode (values us)) a clash.name (ap (λ w. mark.names Unicode (marks Unicode w)) units_are ∙ (pieces_marks (suc n) x).1) clash.first

  few_groups : text_groups Unicode us ≤ most_groups
  unfolding text_groups
  few_groups = omega (arith, few, ap (λ w. count (marks Unicode w)) units_are, (pieces_marks (suc n) x).0)

  end_reached : (ready : Bool) × IsReached Unicode both_rules us (length us) [] ready []
  unfolding us
  end_reached =
      let r = pieces_row (text_groups Unicode us) (text_names Unicode us) (has_some (text_names Unicode us)) (suc n) x 0 in
      let after = r.accepted false in
      (after.0, record { tokens = r.tokens; row = r.row; place_is = omega arith; accepted = after.1; obey = r.obey })

  none_first : (added : ℕ) (refusal : Diagnostic) → IsFirst Unicode both_rules us 0 added refusal → ⊥
  none_first added refusal (of_groups cause amiss) = amiss no_clash few_groups
  none_first added refusal (of_places none few first) = ended_refuses Unicode both_rules us 0 added end_reached.0 end_reached.1 first.place refusal first.holds

  pieces_not_refused : {refusal : Diagnostic} → IsFirstRefusal (unicode_literal (pieces_text (suc n) x)) refusal → ⊥
  unfolding us
  pieces_not_refused {refusal} (no_flags_text e none) = none _ of_literal
  pieces_not_refused {refusal} (of_flags {flags} are cause) =
      let right = one_flags false Literal (Some (117 ∷ [])) (literal_units true 0 (117 ∷ [])) flags (some_flags of_literal) are in
      let no : true ≡ false = ap (λ flags. flags_ok (values flags)) right ∙ cause_refuses flags 0 0 refusal cause in
      cc no
  pieces_not_refused {refusal} (no_text asks none) = none _ of_literal
  pieces_not_refused {refusal} (of_text {mode} {us = asked_units} asks first) =
      let text = pieces_text (suc n) x in
      let one = one_asked (unicode_literal text) mode Unicode asked_units (literal_units true 0 (literal_text text)) asks (alone_asks text Unicode both_rules false) in
      none_first 0 refusal (subst (λ w. IsFirst Unicode both_rules (literal_units true 0 w) 0 0 refusal) (pieces_some n x)
      (subst (λ vs. IsFirst Unicode both_rules vs 0 0 refusal) one.1 (subst (λ m. IsFirst m both_rules asked_units 0 0 refusal) one.0 first)))

-- no pattern of `gen` is refused
pub not_refused : (x : ℕ) {refusal : Diagnostic} → IsFirstRefusal (unicode_literal (pattern_text x)) refusal → ⊥
not_refused x {refusal} r =
    let number : ℕ = draw_of (next_state x) in
    let more : 1 + number ≡ suc number = omega arith in
    pieces_not_refused number (next_state x) (omega arith) (subst (λ n. IsFirstRefusal (unicode_literal (pieces_text n (next_state x))) refusal) more r)
