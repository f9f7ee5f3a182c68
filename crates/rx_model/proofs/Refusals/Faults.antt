-- What is refused at a place that is reached, by a function of what stands there.
use Rattle.std.proofs.Common.{◌≡◌, ◌⊎◌, refl, ap, sym, ◌∙◌, subst, ℕ, ◌+◌, ◌*◌, ◌==◌, ◌||◌, ◌&&◌, not, Bool, true, false, cond, Option, Some, None, List, [], ◌∷◌, ◌++◌, length, drop, codes, arith, inl, inr}
use Rattle.std.proofs.Math.Seq.{drop-append_seam}
use Rattle.std.proofs.lemmas.Bool.{cond-true, cond-false, eqb-true, or_cases}
use Rattle.std.proofs.lemmas.List.{map-append}
use Rattle.std.proofs.lemmas.Option.{option_and_then_some}
use Rattle.std.proofs.lemmas.Bool.Decides.{nat_tests}
use Rattle.rx_base.specs.Characters.{is_within, is_one_of}
use Rattle.rx_base.specs.declared.diagnostic.Diagnostic.{Diagnostic}
use Rattle.rx_base.specs.declared.diagnostic.Diagnostic.TheVariants.{UnterminatedPattern, InvalidExtendedAtomEscape, InvalidSurrogatePair, InvalidIndexedReference, EmptyGroupSpecifier, InvalidNamedReference, TooLargeNumberDigits, InvalidUnicodeEscapeSequence, DuplicatedModifiers, InvalidModifiers, EmptyModifiers, UnknownModifiers}
use Rattle.rx_base.specs.declared.diagnostic.kinds.DigitsKind.TheVariants as digits_kind
use Rattle.rx_base.specs.declared.diagnostic.kinds.Unterminated.TheVariants as what
use Rattle.rx_base.specs.declared.span.Span.{Span}
use Rattle.rx_tables.specs.Characters.{is_decimal_digit}
use Rattle.rx_units.specs.declared.code_point.CodePoint.{CodePoint}
use Rattle.rx_units.specs.Units.{values}
use Rattle.rx_units.specs.Digits.{front_is, PassesHex}
use Rattle.rx_units.proofs.Digits.{nonzero_digit}
use Rattle.rx_model.specs.declared.mode.Mode.{Mode}
use Rattle.rx_model.specs.Refusals.Causes.{BeginsWithPair, LeadNowhere}
use Rattle.rx_model.specs.Characters.Decoding.{Decoded, value, invalid, overflow, decoding_of}
use Rattle.rx_model.specs.Inputs.Environment.{Environment, is_unicode}
use Rattle.rx_model.specs.Refusals.EscapeCauses as escape
use Rattle.rx_model.specs.Refusals.EscapeCauses.{IsEscapeCause}
use Rattle.rx_model.specs.Reading.Fronts.{front, named_token, backslash_front}
use Rattle.rx_model.specs.Groups.GroupFronts.{SidesRead, sides, sides_at, reference_front}
use Rattle.rx_model.specs.Groups.GroupNameReading.{NameRow, row, name_at}
use Rattle.rx_model.specs.Groups.GroupNames.{IsNameRow, no_name, some_name}
use Rattle.rx_model.specs.Groups.NameFronts.{begins_pair}
use Rattle.rx_model.specs.Groups.Groups.{BeginsName, of_group, of_reference, EndsName, is_mark}
use Rattle.rx_model.specs.FirstPass.Marks.{starts}
use Rattle.rx_model.specs.Groups.Modifiers.{AreSides, has_twice, share_some}
use Rattle.rx_model.specs.Properties.PropertyForms.{begins_property}
use Rattle.rx_model.specs.Quantifiers.Quantifiers.{BeginsWithBraces, SpellsCounts, star, plus, optional, braces, lazy_mark, PassesLimit, decimal_after, decimal_digit_value}
use Rattle.rx_model.specs.Refusals.Reached.{span_between, text_environment, text_groups, text_names}
use Rattle.rx_model.specs.Reading.Rows.{Spells}
use Rattle.rx_model.specs.Refusals.Stops.{IsStop, at_end, at_closer, at_bracket, at_brace, after_backslash, begins_escape}
use Rattle.rx_model.specs.Trees.Token.{Token, indexed, named, quantifier}
use Rattle.rx_model.specs.Characters.UnicodeEscapes.{Decodes}
use Rattle.rx_model.specs.declared.rules.Rules.{Rules}
use Rattle.rx_model.proofs.Quantifiers.DecimalDigits.{digit_there}
use Rattle.rx_model.proofs.Quantifiers.BlockedCounts.{brace_first}
use Rattle.rx_model.proofs.Refusals.BlockedFronts.{backslash_k, no_name_begins, no_name_front, sides_lead}
use Rattle.rx_model.proofs.Characters.Decoding.{overflow_read, read_overflow, value_law}
use Rattle.rx_model.proofs.Reading.Fronts.{front_by_values, spelled_front}
use Rattle.rx_model.proofs.Groups.GroupNames.{lead_not_backslash, lead_seen, name_read, no_name_law, trail_seen}
use Rattle.rx_model.proofs.Groups.Modifiers.{modifiers_begin, not_mark, sides_read}
use Rattle.rx_model.proofs.Refusals.Stops.{no_beginning, stop_front}

-- What is answered of a place: a refusal or none; what tells property escapes, quantifiers and ends of terms has relations of its own.
pub data Answer : Type 0 where
  told : Option Diagnostic → Answer
  by_property : Answer
  by_quantifier : Answer
  stopping : Answer

-- how many units the row of a name's characters has
abbrev row_units : NameRow → ℕ
row_units (row cs n) = n

units_are : (m : Bool) (following : List ℕ) (count : ℕ) → IsNameRow m following count → count ≡ row_units (name_at m following)
units_are m following _ (no_name none) = ap row_units (sym ((no_name_law m following).1 (no_name_begins m following none)))
units_are m following count (some_name {name} b) = ap row_units (sym (name_read m following name count b))

letter_cases : (c : ℕ) → begins_property c ≡ true → ((c == 117) ≡ false) × ((c == 107) ≡ false)
letter_cases c h = (grind (arith, nat_tests), grind (arith, nat_tests))

digit_cases : (c : ℕ) → is_within 49 57 c ≡ true → ((c == 117) ≡ false) × ((c == 107) ≡ false) × (begins_property c ≡ false)
digit_cases c h = (grind (arith, nat_tests), grind (arith, nat_tests), grind (arith, nat_tests))

escape_cases : (c : ℕ) → is_one_of (codes "upPkbBdDsSwWfnrtv") c ≡ false → ((c == 117) ≡ false) × ((c == 107) ≡ false) × (begins_property c ≡ false)
escape_cases c h = (grind (arith, nat_tests), grind (arith, nat_tests), grind (arith, nat_tests))

first_digit : (c : ℕ) (ds : List ℕ) (n : ℕ) → decimal_after 0 (c ∷ ds) ≡ Some n → is_decimal_digit c ≡ true
first_digit c ds n h = option_and_then_some (λ d. decimal_after (10 * 0 + d) ds) (decimal_digit_value c) n h (λ d e f. (digit_there c d e).0)

module _ (mode : Mode) (rules : Rules) (us : List CodePoint) (start added : ℕ) where
  abbrev here : Environment
  here = text_environment mode rules us

  abbrev pub span : ℕ → ℕ → Span
  span a b = span_between us start added a b

  -- after a backslash and `u`
  abbrev escape_fault : ℕ → Decoded → Option Diagnostic
  escape_fault f (value v n) = None
  escape_fault f (overflow n) = Some (TooLargeNumberDigits (span (f + 3) (f + 3 + n)) digits_kind.Hex)
  escape_fault f invalid = Some (InvalidUnicodeEscapeSequence (span (f + 1) (f + 2)))

  -- in a name, after a backslash and n units
  abbrev in_name : ℕ → ℕ → Decoded → List ℕ → Option Diagnostic
  in_name f count (value v n) w = Some (InvalidUnicodeEscapeSequence (span (f + 3 + count) (f + 4 + count + n)))
  in_name f count (overflow n) w = Some (TooLargeNumberDigits (span (f + 6 + count) (f + 6 + count + n)) digits_kind.Hex)
  in_name f count invalid w =
      cond (is_unicode mode && starts 117 w) (Some (InvalidUnicodeEscapeSequence (span (f + 4 + count) (f + 5 + count)))) (Some (InvalidUnicodeEscapeSequence (span (f + 3 + count) (f + 4 + count))))

  abbrev unterminated_name : ℕ → ℕ → Option Diagnostic
  unterminated_name f count = Some (UnterminatedPattern (span (f + 2) (f + 3 + count)) what.GroupName)

  abbrev misplaced_pair : ℕ → ℕ → Option Diagnostic
  misplaced_pair f count = Some (InvalidSurrogatePair (span (f + 3 + count) (f + 5 + count)))

  abbrev pub after_name : ℕ → ℕ → List ℕ → Option Diagnostic
  after_name f count [] = unterminated_name f count
  after_name f count (c ∷ w) =
      cond (c == 92) (in_name f count (decoding_of true w) w) (cond (not (is_unicode mode) && begins_pair (c ∷ w)) (misplaced_pair f count) (unterminated_name f count))

  abbrev name_fault : ℕ → List ℕ → Option Diagnostic
  name_fault f w = after_name f (row_units (name_at (is_unicode mode) w)) (drop (row_units (name_at (is_unicode mode) w)) w)

  abbrev index_fault : ℕ → Option (Token × ℕ) → Option Diagnostic
  index_fault f None = None
  index_fault f (Some t) = Some (InvalidIndexedReference (span f (f + t.1)) (text_groups mode us))

  -- after `\k<`
  abbrev angle_fault : ℕ → Option (Token × ℕ) → List ℕ → Option Diagnostic
  angle_fault f None w = name_fault f w
  angle_fault f (Some t) w = Some (InvalidNamedReference (span f (f + t.1)) (text_names mode us))

  abbrev reference_fault : ℕ → Option (Token × ℕ) → List ℕ → Option Diagnostic
  reference_fault f t w = cond (starts 60 w) (angle_fault f t (drop 1 w)) (Some (EmptyGroupSpecifier (span f (f + 2))))

  -- after `(?`
  abbrev modifiers_fault : ℕ → SidesRead → List ℕ → Option Diagnostic
  modifiers_fault f (sides w v n) all =
      cond (starts 58 (drop n all))
      (cond (has_twice w || has_twice v) (Some (DuplicatedModifiers (span (f + 2) (f + 2 + n))))
      (cond (share_some w v) (Some (InvalidModifiers (span (f + 2) (f + 2 + n)))) (Some (EmptyModifiers (span (f + 2) (f + 3))))))
      (Some (UnknownModifiers (span (f + 2) (f + 2 + n))))

  abbrev at_backslash : ℕ → Option (Token × ℕ) → List ℕ → Answer
  at_backslash f t [] = cond (is_unicode mode) stopping (told (Some (InvalidExtendedAtomEscape (span f (f + 1)))))
  at_backslash f t (c ∷ w) =
      cond (c == 117) (told (escape_fault f (decoding_of true (117 ∷ w))))
      (cond (c == 107) (told (reference_fault f t w))
      (cond (begins_property c) by_property
      (cond (is_within 49 57 c) (told (index_fault f t)) stopping)))

  abbrev at_opener : ℕ → List ℕ → Answer
  at_opener f [] = stopping
  at_opener f (c ∷ w) = cond (c == 63) (told (cond (starts 60 w) (name_fault f (drop 1 w)) (modifiers_fault f (sides_at w) w))) stopping

  abbrev repeats : ℕ → Bool
  repeats c = c == 42 || c == 43 || c == 63 || c == 123

  abbrev answer_by : ℕ → Option (Token × ℕ) → List ℕ → Answer
  answer_by f t [] = stopping
  answer_by f t (c ∷ w) = cond (c == 92) (at_backslash f t w) (cond (c == 40) (at_opener f w) (cond (repeats c) by_quantifier stopping))

  abbrev pub answer : ℕ → List CodePoint → Answer
  answer f rest = answer_by f (front here rest) (values rest)

  escape_told : (f : ℕ) (w : List ℕ) (d : Diagnostic) (r : Decoded) → decoding_of true w ≡ r → ((v n : ℕ) → Decodes true w v n → ⊥) → ((count : ℕ) → PassesHex w count → ⊥) → escape_fault f (decoding_of true w) ≡ Some (InvalidUnicodeEscapeSequence (span (f + 1) (f + 2)))
  escape_told f w d (value v n) h no_value no_limit = absurd (no_value v n ((value_law true w v n).0 h))
  escape_told f w d (overflow n) h no_value no_limit = absurd (no_limit n (read_overflow true w n h).1)
  escape_told f w d invalid h no_value no_limit = ap (escape_fault f) h

  pub escape_is : (f : ℕ) (rest : List CodePoint) (d : Diagnostic) → IsEscapeCause mode us start added f rest d → answer f rest ≡ told (Some d)
  escape_is f rest _ (escape.too_many_hex_digits count following m h p) =
      ap (answer_by f (front here rest)) (h ∙ ap (λ w. 92 ∷ w) p.whole)
      ∙ ap (λ w. told (escape_fault f (decoding_of true w))) (sym p.whole)
      ∙ ap (λ r. told (escape_fault f r)) (overflow_read following count p)
  escape_is f rest d (escape.invalid_escape following m h no_value no_limit) =
      ap (answer_by f (front here rest)) h ∙ ap told (escape_told f (117 ∷ following) d (decoding_of true (117 ∷ following)) refl no_value no_limit)

  -- the same of names
  name_there : (f count : ℕ) (following : List ℕ) (d : Option Diagnostic) → IsNameRow (is_unicode mode) following count → after_name f count (drop count following) ≡ d → name_fault f following ≡ d
  name_there f count following d h e = subst (λ n. after_name f n (drop n following) ≡ d) (units_are (is_unicode mode) following count h) e

  name_by : (f count : ℕ) (rest : List CodePoint) (w following : List ℕ) (d : Option Diagnostic) → values rest ≡ w → BeginsName here w following → IsNameRow (is_unicode mode) following count → (starts 62 (drop count following) ≡ true → count ≡ 0) →
      after_name f count (drop count following) ≡ d → answer f rest ≡ told d
  unfolding reference_front backslash_front
  name_by f count rest _ following d h (of_group look) longest ends e = ap (answer_by f (front here rest)) h ∙ ap told (name_there f count following d longest e)
  name_by f count rest _ following d h (of_reference there) longest ends e =
      let none : front here rest ≡ None = front_by_values here rest 92 (107 ∷ 60 ∷ following) refl h ∙ backslash_k mode rules us there (60 ∷ following) ∙ ap named_token (no_name_front (is_unicode mode) following count longest ends) in
      ap (answer_by f (front here rest)) h ∙ ap (λ t. told (angle_fault f t following)) none ∙ ap told (name_there f count following d longest e)

  pub name_is : (f count : ℕ) (rest : List CodePoint) (following : List ℕ) (d : Option Diagnostic) → EndsName here (values rest) count following → (starts 62 following ≡ true → count ≡ 0) → after_name f count following ≡ d → answer f rest ≡ told d
  name_is f count rest following d n ends e =
      name_by f count rest (values rest) n.following d refl n.begins n.longest (λ t. ends (ap (starts 62) n.rest_is ∙ t)) (ap (after_name f count) (sym n.rest_is) ∙ e)

  pub unterminated_is : (f count : ℕ) (following : List ℕ) → starts 92 following ≡ false → (not (is_unicode mode) && begins_pair following) ≡ false → after_name f count following ≡ unterminated_name f count
  unterminated_is f count [] h none = refl
  unterminated_is f count (c ∷ w) h none = cond-false (c == 92) _ _ h ∙ cond-false (not (is_unicode mode) && begins_pair (c ∷ w)) _ _ none

  pub pair_is : (f count : ℕ) (following : List ℕ) → is_unicode mode ≡ false → BeginsWithPair following → after_name f count following ≡ misplaced_pair f count
  pair_is f count following m p =
      ap (after_name f count) p.whole ∙ cond-false (p.lead == 92) _ _ (lead_not_backslash p.lead p.is_lead)
      ∙ cond-true (not (is_unicode mode) && begins_pair (p.lead ∷ p.trail ∷ p.rest)) _ _ (rw (m, lead_seen p.lead p.is_lead, trail_seen p.trail p.is_trail) refl)

  pub invalid_is : (f count : ℕ) (w : List ℕ) (b : Bool) (r : Decoded) → decoding_of true w ≡ r → ((v n : ℕ) → Decodes true w v n → ⊥) → ((many : ℕ) → PassesHex w many → ⊥) → (is_unicode mode && starts 117 w) ≡ b →
      after_name f count (92 ∷ w) ≡ cond b (Some (InvalidUnicodeEscapeSequence (span (f + 4 + count) (f + 5 + count)))) (Some (InvalidUnicodeEscapeSequence (span (f + 3 + count) (f + 4 + count))))
  invalid_is f count w b (value v n) h no_value no_limit s = absurd (no_value v n ((value_law true w v n).0 h))
  invalid_is f count w b (overflow n) h no_value no_limit s = absurd (no_limit n (read_overflow true w n h).1)
  invalid_is f count w b invalid h no_value no_limit s =
      ap (λ r. in_name f count r w) h ∙ ap (λ b. cond b (Some (InvalidUnicodeEscapeSequence (span (f + 4 + count) (f + 5 + count)))) (Some (InvalidUnicodeEscapeSequence (span (f + 3 + count) (f + 4 + count))))) s

  pub index_is : (f n : ℕ) (w more : List CodePoint) → Spells here (indexed n) w more → answer f (w ++ more) ≡ told (Some (InvalidIndexedReference (span f (f + length w)) (text_groups mode us)))
  index_is f n w more s =
      let d = s.number in
      let text : values (w ++ more) ≡ 92 ∷ d.first ∷ (d.more ++ values more) = map-append (λ (u : CodePoint). u.value) w more ∙ ap (λ v. v ++ values more) (s.whole ∙ ap (λ ds. 92 ∷ ds) d.some) in
      let is = nonzero_digit d.first (first_digit d.first d.more n (ap (decimal_after 0) (sym d.some) ∙ d.number)) (ap (starts 48) (sym d.some) ∙ s.not_zero) in
      let c = digit_cases d.first is in
      ap (answer_by f (front here (w ++ more))) text ∙ rw (c.0, c.1, c.2, is) (ap (λ t. told (index_fault f t)) (spelled_front here (indexed n) w more s))

  pub reference_is : (f : ℕ) (rest : List CodePoint) (following : List ℕ) → values rest ≡ 92 ∷ 107 ∷ following → starts 60 following ≡ false → answer f rest ≡ told (Some (EmptyGroupSpecifier (span f (f + 2))))
  reference_is f rest following h other = ap (answer_by f (front here rest)) h ∙ ap told (cond-false (starts 60 following) _ _ other)

  pub named_is : (f : ℕ) (name : List ℕ) (w more : List CodePoint) → Spells here (named name) w more → answer f (w ++ more) ≡ told (Some (InvalidNamedReference (span f (f + length w)) (text_names mode us)))
  named_is f name w more s =
      let text : values (w ++ more) ≡ 92 ∷ 107 ∷ 60 ∷ ((s.spelled ++ (62 ∷ [])) ++ values more) = map-append (λ (u : CodePoint). u.value) w more ∙ ap (λ v. v ++ values more) s.whole in
      ap (answer_by f (front here (w ++ more))) text ∙ ap (λ t. told (angle_fault f t ((s.spelled ++ (62 ∷ [])) ++ values more))) (spelled_front here (named name) w more s)

  -- after `(?` modifiers, and no `<`
  modifiers_there : (f : ℕ) (rest : List CodePoint) (all : List ℕ) → values rest ≡ 40 ∷ 63 ∷ all → starts 60 all ≡ false → answer f rest ≡ told (modifiers_fault f (sides_at all) all)
  modifiers_there f rest all h other = ap (answer_by f (front here rest)) h ∙ ap told (cond-false (starts 60 all) _ _ other)

  no_angle : (w v text back : List ℕ) → AreSides w v text → (text ≡ [] → starts 60 back ≡ false) → starts 60 (text ++ back) ≡ false
  no_angle w v [] back s h = h refl
  no_angle w v (c ∷ text) back s h = no_mark_angle c (not_mark c (modifiers_begin w v (c ∷ text) s (λ e. cc e)))
    where
      no_mark_angle : (c : ℕ) → is_mark c ≡ false → (c == 60) ≡ false
      no_mark_angle c h = grind (arith, nat_tests)

  front_no_angle : (back : List ℕ) → front_is is_mark back ≡ false → starts 60 back ≡ false
  front_no_angle [] h = refl
  front_no_angle (c ∷ w) h = grind (arith, nat_tests)

  pub unknown_is : (f : ℕ) (rest : List CodePoint) (text following : List ℕ) → values rest ≡ 40 ∷ 63 ∷ (text ++ following) → LeadNowhere text following → answer f rest ≡ told (Some (UnknownModifiers (span (f + 2) (f + 2 + length text))))
  unknown_is f rest text following h l =
      modifiers_there f rest (text ++ following) h (no_angle l.enabled l.disabled text following l.sides (λ e. front_no_angle following (l.no_mark e)))
      ∙ ap (λ r. told (modifiers_fault f r (text ++ following))) (sides_lead l.enabled l.disabled text following l.sides l.no_letter l.no_dash)
      ∙ ap told (cond-false (starts 58 (drop (length text) (text ++ following))) _ _ (ap (starts 58) (drop-append_seam text following) ∙ l.no_colon))

  -- modifiers before a `:`
  closed_is : (f : ℕ) (rest : List CodePoint) (w v text following : List ℕ) → values rest ≡ 40 ∷ 63 ∷ (text ++ (58 ∷ following)) → AreSides w v text →
      answer f rest ≡ told (cond (has_twice w || has_twice v) (Some (DuplicatedModifiers (span (f + 2) (f + 2 + length text))))
      (cond (share_some w v) (Some (InvalidModifiers (span (f + 2) (f + 2 + length text)))) (Some (EmptyModifiers (span (f + 2) (f + 3))))))
  closed_is f rest w v text following h s =
      modifiers_there f rest (text ++ (58 ∷ following)) h (no_angle w v text (58 ∷ following) s (λ e. refl))
      ∙ ap (λ r. told (modifiers_fault f r (text ++ (58 ∷ following)))) (sides_read w v text following s)
      ∙ ap told (cond-true (starts 58 (drop (length text) (text ++ (58 ∷ following)))) _ _ (ap (starts 58) (drop-append_seam text (58 ∷ following))))

  pub duplicated_is : (f : ℕ) (rest : List CodePoint) (w v text following : List ℕ) → values rest ≡ 40 ∷ 63 ∷ (text ++ (58 ∷ following)) → AreSides w v text → (has_twice w || has_twice v) ≡ true →
      answer f rest ≡ told (Some (DuplicatedModifiers (span (f + 2) (f + 2 + length text))))
  duplicated_is f rest w v text following h s twice = closed_is f rest w v text following h s ∙ ap told (cond-true (has_twice w || has_twice v) _ _ twice)

  pub shared_is : (f : ℕ) (rest : List CodePoint) (w v text following : List ℕ) → values rest ≡ 40 ∷ 63 ∷ (text ++ (58 ∷ following)) → AreSides w v text → (has_twice w || has_twice v) ≡ false → share_some w v ≡ true →
      answer f rest ≡ told (Some (InvalidModifiers (span (f + 2) (f + 2 + length text))))
  shared_is f rest w v text following h s once share =
      closed_is f rest w v text following h s ∙ ap told (cond-false (has_twice w || has_twice v) _ _ once) ∙ ap told (cond-true (share_some w v) _ _ share)

  pub empty_is : (f : ℕ) (rest : List CodePoint) (following : List ℕ) → values rest ≡ 40 ∷ 63 ∷ 45 ∷ 58 ∷ following → answer f rest ≡ told (Some (EmptyModifiers (span (f + 2) (f + 3))))
  empty_is f rest following h = closed_is f rest [] [] (45 ∷ []) following h (AreSides.two_sides [] [] refl refl)

  pub property_is : (f : ℕ) (rest : List CodePoint) (letter : ℕ) (w : List ℕ) → values rest ≡ 92 ∷ letter ∷ w → begins_property letter ≡ true → answer f rest ≡ by_property
  property_is f rest letter w h is =
      let c = letter_cases letter is in
      ap (answer_by f (front here rest)) h ∙ rw (c.0, c.1, is) refl

  -- What does not stand where terms end at a brace.
  pub record NoBraces (rest : List CodePoint) : Type 0 where
    pub none : BeginsWithBraces (values rest) → ⊥
    pub in_limit : (from count : ℕ) → PassesLimit (values rest) from count → ⊥
    pub no_token : front here rest ≡ None

  pub stop_is : (f i : ℕ) (rest : List CodePoint) → IsStop here rest i → (answer f rest ≡ stopping) ⊎ ((answer f rest ≡ by_quantifier) × NoBraces rest)
  stop_is f _ _ at_end = inl refl
  stop_is f _ _ (at_closer {u} {us = rest} h) = inl (ap (λ c. answer_by f (front here (u ∷ rest)) (c ∷ values rest)) h)
  stop_is f _ _ (at_bracket {u} {us = rest} m h) = elim (or_cases (u.value == 93) (u.value == 125) h) [
    | inl p ↦ inl (ap (λ c. answer_by f (front here (u ∷ rest)) (c ∷ values rest)) (eqb-true u.value 93 p))
    | inr p ↦ inl (ap (λ c. answer_by f (front here (u ∷ rest)) (c ∷ values rest)) (eqb-true u.value 125 p))
  ]
  stop_is f _ _ (at_brace {u} {us = rest} m h none limit) =
      inr (ap (λ c. answer_by f (front here (u ∷ rest)) (c ∷ values rest)) h, record { none = none; in_limit = limit; no_token = stop_front here (u ∷ rest) 0 (at_brace m h none limit) (ap (λ c. c == 41) h) })
  stop_is f _ _ (after_backslash {u} {us = rest} m h none) =
      inl (ap (λ c. answer_by f (front here (u ∷ rest)) (c ∷ values rest)) h ∙ go (values rest) none)
    where
      go : (w : List ℕ) → begins_escape here w ≡ false → at_backslash f (front here (u ∷ rest)) w ≡ stopping
      go [] k = cond-true (is_unicode mode) _ _ m
      go (c ∷ w) k =
          let b = no_beginning here c w k in
          let e = escape_cases c b.no_letters in
          rw (e.0, e.1, e.2, b.no_digit) refl

  -- where reading stands
  pub stop_units : (i : ℕ) (rest : List CodePoint) → IsStop here rest i → i ≡ cond (starts 92 (values rest)) 1 0
  stop_units _ _ at_end = refl
  stop_units _ _ (at_closer {u} {us = rest} h) = rw h refl
  stop_units _ _ (at_bracket {u} {us = rest} m h) = elim (or_cases (u.value == 93) (u.value == 125) h) [
    | inl p ↦ rw (eqb-true u.value 93 p) refl
    | inr p ↦ rw (eqb-true u.value 125 p) refl
  ]
  stop_units _ _ (at_brace {u} {us = rest} m h none limit) = rw h refl
  stop_units _ _ (after_backslash {u} {us = rest} m h none) = rw h refl

  -- With neither `u` nor `v` a backslash ends the text.
  pub last_is : (f : ℕ) (backslash : CodePoint) → is_unicode mode ≡ false → backslash.value ≡ 92 → answer f (backslash ∷ []) ≡ told (Some (InvalidExtendedAtomEscape (span f (f + 1))))
  last_is f backslash m h = ap (λ c. answer_by f (front here (backslash ∷ [])) (c ∷ [])) h ∙ cond-false (is_unicode mode) _ _ m

  -- A `[` ends no terms, and no refusal outside classes stands there.
  pub bracket_is : (f : ℕ) (rest : List CodePoint) (w : List ℕ) → values rest ≡ 91 ∷ w → answer f rest ≡ stopping
  bracket_is f rest w h = ap (answer_by f (front here rest)) h

  pub no_stop : (i : ℕ) (rest : List CodePoint) (w : List ℕ) → values rest ≡ 91 ∷ w → IsStop here rest i → ⊥
  no_stop _ _ w h at_end = cc h
  no_stop _ _ w h (at_closer {u} {us = rest} k) = let is : u.value ≡ 91 = cc h in omega (arith, is, k)
  no_stop _ _ w h (at_bracket {u} {us = rest} m k) =
      let is : u.value ≡ 91 = cc h in
      let no : (91 == 93 || 91 == 125) ≡ true = subst (λ c. (c == 93 || c == 125) ≡ true) is k in
      cc no
  no_stop _ _ w h (at_brace {u} {us = rest} m k none limit) = let is : u.value ≡ 91 = cc h in omega (arith, is, k)
  no_stop _ _ w h (after_backslash {u} {us = rest} m k none) = let is : u.value ≡ 91 = cc h in omega (arith, is, k)

  pub overflow_is : (f count many : ℕ) (w : List ℕ) → PassesHex w many → after_name f count (92 ∷ w) ≡ Some (TooLargeNumberDigits (span (f + 6 + count) (f + 6 + count + many)) digits_kind.Hex)
  overflow_is f count many w p = ap (λ r. in_name f count r w) (overflow_read w many p)

  pub misplaced_is : (f count v n : ℕ) (w : List ℕ) → Decodes true w v n → after_name f count (92 ∷ w) ≡ Some (InvalidUnicodeEscapeSequence (span (f + 3 + count) (f + 4 + count + n)))
  misplaced_is f count v n w d = ap (λ r. in_name f count r w) ((value_law true w v n).1 d)

  pub brace_is : (f : ℕ) (rest : List CodePoint) (w : List ℕ) → values rest ≡ 123 ∷ w → answer f rest ≡ by_quantifier
  brace_is f rest w h = ap (answer_by f (front here rest)) h

  -- what the counts of a quantifier begin with
  record Repeat (prefix : List ℕ) : Type 0 where
    c : ℕ
    more : List ℕ
    whole : prefix ≡ c ∷ more
    reads : (f : ℕ) (t : Option (Token × ℕ)) (w : List ℕ) → answer_by f t (c ∷ w) ≡ by_quantifier

  repeat_is : (min : ℕ) (max : Option ℕ) (prefix : List ℕ) → SpellsCounts min max prefix → Repeat prefix
  repeat_is _ _ _ star = record { c = 42; more = []; whole = refl; reads = λ f t w. refl }
  repeat_is _ _ _ plus = record { c = 43; more = []; whole = refl; reads = λ f t w. refl }
  repeat_is _ _ _ optional = record { c = 63; more = []; whole = refl; reads = λ f t w. refl }
  repeat_is min max prefix (braces s) = let b = brace_first min max prefix s in record { c = 123; more = b.0; whole = b.1; reads = λ f t w. refl }

  pub quantifier_is : (f min : ℕ) (max : Option ℕ) (greedy : Bool) (w more : List CodePoint) → Spells here (quantifier min max greedy) w more → answer f (w ++ more) ≡ by_quantifier
  quantifier_is f min max greedy w more s =
      let r = repeat_is min max s.prefix s.counts in
      ap (answer_by f (front here (w ++ more)))
      (map-append (λ (u : CodePoint). u.value) w more ∙ ap (λ v. v ++ values more) (s.whole ∙ ap (λ v. v ++ lazy_mark greedy) r.whole))
      ∙ r.reads f (front here (w ++ more)) ((r.more ++ lazy_mark greedy) ++ values more)
