-- What stands after a backslash in a class, and what is answered of it.
use Rattle.std.proofs.Common.{◌≡◌, ◌≢◌, refl, sym, ap, ◌∙◌, subst, ℕ, suc, ◌+◌, ◌-◌, ◌<◌, ◌≤◌, ◌==◌, nat_le, Bool, true, false, not, ◌&&◌, Option, Some, None, Ok, Err, All, List, [], ◌∷◌, ◌++◌, length, drop, min, codes, arith, inl, inr, length-append}
use Rattle.rx_class.proofs.Common.{cases_Bool, eqb-true, false_from_ne_true, not-true, true≢false, nat_tests, le-leb, length-map, All-head, is_one_of, Diagnostic, Fault, Span, control_escape_value}
use Rattle.rx_class.proofs.Common.{hex_digit_value, is_decimal_digit, Character, CharacterClassEscapeKind, CharacterKind, UnicodePropertyEscape, CodePoint, Cursor, move_on, offset_of, rest}
use Rattle.rx_class.proofs.Common.{values, front_is, is_hex_digit, IsAtomPlace, atom_obeys, character, class_escape_text, Environment, is_sets, is_unicode, begins_property, span_between}
use Rattle.rx_class.proofs.Common.{class_environment, both, chosen, ClassAtom, GivesClassEscape, IsAfterBackslash, from_backslash, span_to, GivesAtom, StandsItem, IsOfText, alone_in_class}
use Rattle.rx_class.proofs.Common.{atom_of, atom_span, back, AnswersFound, class_escape_front, any_there, class_letter, unicode_alone, and-false}
use Rattle.rx_base.specs.declared.diagnostic.Diagnostic.TheVariants.{InvalidClassAtom}
use Rattle.rx_base.specs.declared.fault.Fault.TheVariants as fault
use Rattle.rx_tables.specs.Characters.{control_letter_value}
use Rattle.rx_units.specs.Cursor.{front_kind}
use Rattle.rx_units.specs.declared.code_point.EscapeKind.{EscapeKind}
use Rattle.rx_ast.specs.declared.leaf.CharacterClassEscape.{CharacterClassEscape}
use Rattle.rx_ast.specs.declared.leaf.CharacterKind.TheVariants as kinds
use Rattle.rx_model.specs.Refusals.ClassCauses.{escape_in_class as cause_of_escape, invalid_atom, property_in_class}
use Rattle.rx_model.specs.Classes.ClassRows.{SpellsAtom, SpellsClassCharacter, SpellsInClassAlone}
use Rattle.rx_model.specs.Classes.ClassRows as row
use Rattle.rx_model.specs.Characters.EscapeFronts.{EscapeRead, any_escape_at, class_escape_at, escaped, nothing}
use Rattle.rx_model.specs.Characters.EscapeFronts.{escape_at}
use Rattle.rx_model.specs.Characters.Escapes.{SpellsEscape, control, hexadecimal, identity, is_identity_escape, letter, null}
use Rattle.rx_model.specs.Refusals.Stops.{begins_class_escape, is_hyphen_escaped, is_letter, two_hex_digits}
use Rattle.rx_class.specs.declared.classes.atom.ClassAtom.TheVariants as atom
use Rattle.rx_class.specs.EscapeReading.Answers as given
use Rattle.rx_class.specs.ClassReading.Items.{BeginsNone, IsCommonAtom, StandsOneUnit, kind_in_class}
use Rattle.rx_class.specs.ClassReading.Items as answer
use Rattle.rx_class.specs.EscapeReading.Found as found
use Rattle.rx_class.specs.PropertyReading.Answers.{GivesProperty}
use Rattle.rx_class.specs.PropertyReading.Answers as given_property
use Rattle.rx_class.proofs.Keeping.{keeps_placed, stays_keeps}
use Rattle.rx_class.proofs.PropertyReading.Spans.{cut_off, next_span}
use Rattle.rx_model.specs.Classes.ClassFronts.{atom_at, atom_read}
use Rattle.rx_model.proofs.Classes.ClassFronts.{AtomFront, atom_found, atom_is_read}
use Rattle.rx_class.specs.declared.classes.atom.CommonAtom.{CommonAtom}
use Rattle.rx_class.specs.declared.classes.atom.OneUnit.{OneUnit}
use Rattle.rx_class.specs.declared.escapes.common.CommonEscape.{CommonEscape}
use Rattle.rx_class.specs.EscapeReading.CommonEscapes.{IsCommonEscape}
use Rattle.rx_model.proofs.Characters.Escapes.{escape_nothing}
use Rattle.rx_model.proofs.Characters.LegacyEscapes.{IsCharacterOrNothing, any_in_unicode, any_read, any_refused, any_spelled}
use Rattle.rx_model.proofs.Refusals.Stops.{some_there, two_number}
use Rattle.rx_class.proofs.EscapeReading.Gives.{StandsAfter, stands, stands_within, class_gives, nothing_in_legacy, refusal_cause, refusal_keeps}
use Rattle.rx_class.proofs.ClassReading.Places.{property_place}
use Rattle.rx_class.proofs.Modes.{hyphen_without_sets, raw_without_sets}

not_alone : (unicode : Bool) (c : ℕ) (w : List ℕ) → alone_in_class unicode (c ∷ w) ≡ None → ((c == 98) ≡ false) × ((unicode && c == 45) ≡ false)
not_alone unicode c w h = (grind (arith, nat_tests), grind (arith, nat_tests))

none_there : {A : Type 0} (o : Option A) → ((it : A) → o ≡ Some it → ⊥) → o ≡ None
none_there None h = refl
none_there (Some it) h = absurd (h it refl)

-- a class escape is one unit after its backslash
one_unit : (kind : CharacterClassEscapeKind) (w : List CodePoint) → 92 ∷ values w ≡ class_escape_text kind → 1 ≡ length w
one_unit kind w h = let letter = class_letter kind in omega (arith, ap length (h ∙ letter.text), length-map w (λ (u : CodePoint). u.value))

no_letter_begins : (c : ℕ) → (c == 117) ≡ false → begins_property c ≡ false → (c == 98) ≡ false → class_escape_at c ≡ None → control_escape_value c ≡ None → is_one_of (codes "upPbdDsSwWfnrtv") c ≡ false
no_letter_begins c u p b d f = grind (arith, nat_tests)

-- no escape is spelled after a backslash
abbrev SpellsNone : Environment → List ℕ → Type 0
SpellsNone e us = (kind : CharacterKind) (v : ℕ) (w more : List ℕ) → us ≡ w ++ more → SpellsEscape e kind v w more → ⊥

-- Where nothing stands after a backslash, no escape of a class begins.
module _ (e : Environment) (unicode : is_unicode e.mode ≡ true) where
  no_control_letter : (w : List ℕ) → SpellsNone e (99 ∷ w) → front_is is_letter w ≡ true → ⊥
  no_control_letter [] none h = cc h
  no_control_letter (c ∷ w) none h = let v = some_there (control_letter_value c) h in none kinds.ControlLetter v.0 (99 ∷ c ∷ []) w refl (letter v.1)

  no_digits : (w : List ℕ) → SpellsNone e (120 ∷ w) → two_hex_digits w ≡ true → ⊥
  no_digits [] none h = cc h
  no_digits (a ∷ []) none h = let f = (both (is_hex_digit a) false h).1 in cc f
  no_digits (a ∷ b ∷ w) none h =
      let p = both (is_hex_digit a) (is_hex_digit b) h in
      let i = some_there (hex_digit_value a) p.0 in
      let j = some_there (hex_digit_value b) p.1 in
      none kinds.HexadecimalEscape _ (120 ∷ a ∷ b ∷ []) w refl (hexadecimal (two_number a b i.0 j.0 i.1 j.1))

  with_first : (c d : ℕ) (w : List ℕ) → (c == d) ≡ true → SpellsNone e (c ∷ w) → SpellsNone e (d ∷ w)
  with_first c d w h none = subst (λ c. SpellsNone e (c ∷ w)) (eqb-true c d h) none

  begins_nothing : (us : List ℕ) → BeginsNone e us → front_is (λ c. c == 117) us ≡ false → SpellsNone e us → begins_class_escape e us ≡ false
  begins_nothing [] b u none = refl
  begins_nothing (c ∷ w) b u none =
      let out = not_alone (is_unicode e.mode) c w b.no_alone in
      let hyphen : (c == 45) ≡ false = ap (λ u. u && c == 45) (sym unicode) ∙ out.1 in
      let no_class : class_escape_at c ≡ None = b.no_class in
      let no_control = none_there (control_escape_value c) (λ v h. none kinds.SingleEscape v (c ∷ []) w refl (control h)) in
      let no_identity = false_from_ne_true (is_identity_escape c) (λ t. none kinds.Identifier c (c ∷ []) w refl (identity unicode t)) in
      let no_c = false_from_ne_true (c == 99 && front_is is_letter w) (λ t. let p = both (c == 99) (front_is is_letter w) t in no_control_letter w (with_first c 99 w p.0 none) p.1) in
      let no_null = false_from_ne_true (c == 48 && not (front_is is_decimal_digit w)) (λ t.
      let p = both (c == 48) (not (front_is is_decimal_digit w)) t in with_first c 48 w p.0 none kinds.Null 0 (48 ∷ []) w refl (null (not-true _ p.1))) in
      let no_x = false_from_ne_true (c == 120 && two_hex_digits w) (λ t. let p = both (c == 120) (two_hex_digits w) t in no_digits w (with_first c 120 w p.0 none) p.1) in
      rw (no_letter_begins c u (b.no_letter unicode) out.0 no_class no_control, no_identity, hyphen, no_c, no_null, no_x, unicode, and-false (is_hyphen_escaped e.mode)) refl

-- the same in every mode, by what is read
module _ (e : Environment) where
  spells_none : (us : List ℕ) → any_escape_at true e us ≡ nothing → SpellsNone e us
  spells_none us h kind v w more whole s = let no : nothing ≡ escaped kind v (length w) = sym h ∙ ap (any_escape_at true e) whole ∙ any_read true e kind v w more s in cc no

  nothing_begins : (us : List ℕ) → BeginsNone e us → any_escape_at true e us ≡ nothing → begins_class_escape e us ≡ false
  nothing_begins [] b h = refl
  nothing_begins (c ∷ w) b h = elim (cases_Bool (is_unicode e.mode)) [
    | inl m ↦ begins_nothing e m (c ∷ w) b (escape_nothing (c ∷ w) (ap (λ u. escape_at u (c ∷ w)) (sym m) ∙ sym (any_in_unicode true e (c ∷ w) m) ∙ h)) (spells_none (c ∷ w) h)
    | inr m ↦
        let no_class : class_escape_at c ≡ None = b.no_class in
        let k = both (c == 107) e.named (nothing_in_legacy e c w m (not_alone (is_unicode e.mode) c w b.no_alone).0 no_class h) in
        rw (eqb-true c 107 k.0, k.1, m, and-false (is_hyphen_escaped e.mode)) refl
  ]

-- what is answered where one is refused
refusal_refuses : {added start : ℕ} {old new : Cursor} {read : EscapeRead} {d : Diagnostic} → AnswersFound added start old new read (Err d) → IsCharacterOrNothing read → ⊥
refusal_refuses (found.many_digits keeps) h = h
refusal_refuses (found.no_escape_of_u keeps) h = h

-- What is answered after a backslash is answered from the backslash on.
module _ (e : Environment) (no_sets : is_sets e.mode ≡ false) (added start : ℕ) (old : Cursor) (is : IsAfterBackslash old start) where
  b : StandsAfter old
  b = stands old start is

  gives : (it : ClassAtom) (new : Cursor) (b : CodePoint) (w more : List CodePoint) → from_backslash old ≡ b ∷ (w ++ more) → SpellsAtom e (atom_of it) (b ∷ w) more → atom_obeys (atom_of it) ≡ true
      → atom_span it ≡ span_to added start new → new ≡ move_on (length w) old → GivesAtom e added (back old) new (Ok it)
  gives it new b w more whole spells obeys covers moves = answer.some (b ∷ w) more whole spells obeys span (moves ∙ ap placed at)
    where
      placed : ℕ → Cursor
      placed place = record old { place = min place (length old.units) }

      at : old.place + length w ≡ old.place - 1 + suc (length w)
      at = omega (arith, is.following)

      span : atom_span it ≡ span_between old.units old.first added (old.place - 1) (old.place - 1 + suc (length w))
      span = cut_off old new (length w) added start (atom_span it) is.following is.start moves covers
          ∙ ap (span_between old.units old.first added (old.place - 1)) (let k : old.place - 1 + 1 + length w ≡ old.place - 1 + suc (length w) = omega arith in k)

  -- a character that stands after a backslash in classes alone
  alone_spelled : (c v : ℕ) (w : List ℕ) → alone_in_class (is_unicode e.mode) (c ∷ w) ≡ Some v → SpellsInClassAlone e.mode kinds.SingleEscape v (c ∷ []) × (nat_le v 0x10FFFF ≡ true)
  alone_spelled c v w h = elim (chosen (c == 98) h) [
    | inl p ↦ let eight : v ≡ 8 = cc p.1 in rw (eqb-true c 98 p.0, eight) (row.backspace, refl)
    | inr p ↦ elim (chosen (is_unicode e.mode && c == 45) p.1) [
      | inl q ↦ let both_are = both (is_unicode e.mode) (c == 45) q.0 in
          let itself : v ≡ 45 = cc q.1 in rw (eqb-true c 45 both_are.1, itself) (row.hyphen (unicode_alone e.mode no_sets both_are.0), refl)
      | inr q ↦ absurd (let no : ⊥ = cc q.1 in no)
    ]
  ]

  pub alone_gives : (v : ℕ) (span : Span) (new : Cursor) → alone_in_class (is_unicode e.mode) (values (rest old)) ≡ Some v → span ≡ span_to added start new → new ≡ move_on 1 old
      → GivesAtom e added (back old) new (Ok (atom.Character (record { span = span; kind = kinds.SingleEscape; value = v })))
  alone_gives v span new h covers moves = go (rest old) refl h
    where
      go : (us : List CodePoint) → rest old ≡ us → alone_in_class (is_unicode e.mode) (values us) ≡ Some v → GivesAtom e added (back old) new (Ok (atom.Character (record { span = span; kind = kinds.SingleEscape; value = v })))
      go [] whole h = absurd (let no : ⊥ = cc h in no)
      go (u ∷ us) whole h =
          let s = alone_spelled u.value v (values us) h in
          gives _ new b.backslash (u ∷ []) us (b.whole ∙ ap (λ us. b.backslash ∷ us) whole) (row.escaped_in_class b.backslash (u ∷ []) b.value_is s.0) s.1 covers moves

  class_escape_atom : (it : CharacterClassEscape) (new : Cursor) → GivesClassEscape added start old new (Some it) → GivesAtom e added (back old) new (Ok (atom.Escape it))
  class_escape_atom it new (given.some w more text whole covers moves) =
      gives (atom.Escape it) new b.backslash w more (b.whole ∙ ap (λ us. b.backslash ∷ us) whole) (ap (λ c. c ∷ values w) b.value_is ∙ text) refl covers
      (moves ∙ ap (λ n. move_on n old) (one_unit it.kind w text))

  -- what the three readers of escapes answer
  pub class_escape_gives : {us : List CodePoint} (it : CharacterClassEscape) (new : Cursor) → us ≡ rest old → class_escape_front (values us) ≡ Some it.kind → it.span ≡ span_to added start new → new ≡ move_on 1 old
      → GivesAtom e added (back old) new (Ok (atom.Escape it))
  class_escape_gives it new same read covers moves = class_escape_atom it new (class_gives added start old it new (ap (λ us. class_escape_front (values us)) (sym same) ∙ read) moves covers)

  pub property_gives : (it : UnicodePropertyEscape) (new : Cursor) → GivesProperty e added start old new (Ok (Some it)) → GivesAtom e added (back old) new (Ok (atom.Property it))
  property_gives it new (given_property.some backslash w more whole spells obeys covers moves) = gives (atom.Property it) new backslash w more whole spells (ap not obeys) covers moves

  pub character_gives : (found : EscapeRead) (it : Character) (new : Cursor) → any_escape_at true e (values (rest old)) ≡ found → AnswersFound added start old new found (Ok (Some it))
      → GivesAtom e added (back old) new (Ok (atom.Character it))
  character_gives _ it new read (found.some {count = n} small covers moves) =
      let f = any_there e (character it.kind it.value) (n + 1) b.backslash (rest old) it.kind it.value n b.value_is (any_spelled true e it.kind it.value n (values (rest old)) read) refl in
      go f.w f.rest f.whole f.spelled f.count
    where
      go : (w more : List CodePoint) → b.backslash ∷ rest old ≡ w ++ more → SpellsAtom e (character it.kind it.value) w more → length w ≡ n + 1 → GivesAtom e added (back old) new (Ok (atom.Character it))
      go [] more whole spells count = absurd (omega (arith, count))
      go (u ∷ w) more whole spells count =
          gives (atom.Character it) new u w more (b.whole ∙ whole) spells (grind (arith, nat_tests)) covers
          (moves ∙ ap (λ n. move_on n old) (let k : n ≡ length w = omega (arith, count) in k))

  -- What they refuse is refused in the class.
  in_text : IsOfText e old → (from : ℕ) (at_class us : List CodePoint) → IsAtomPlace e from at_class (old.place - 1) us → IsAtomPlace (class_environment e.mode old.units) from at_class (old.place - 1) us
  in_text same from at_class us place = subst (λ t. IsAtomPlace t from at_class (old.place - 1) us) same place

  pub property_refused : (f : Fault) (new : Cursor) → GivesProperty e added start old new (Err f) → GivesAtom e added (back old) new (Err f)
  property_refused _ new (given_property.refused cause first none keeps) =
      answer.refused (λ same from at_class place. property_in_class (old.place - 1) (from_backslash old) (property_place no_sets (in_text same from at_class _ place)) cause) (keeps_placed (old.place - 1) old new keeps)
  property_refused _ new (given_property.no_memory keeps) = answer.no_memory (keeps_placed (old.place - 1) old new keeps)

  pub character_refused : (read : EscapeRead) (d : Diagnostic) (new : Cursor) → any_escape_at true e (values (rest old)) ≡ read → AnswersFound added start old new read (Err d)
      → GivesAtom e added (back old) new (Err (fault.Diagnostic d))
  character_refused read d new here answers =
      let r = any_refused true e (values (rest old)) read here (refusal_refuses answers) in
      let cause = refusal_cause e added start old new is read d r.0 r.1 answers in
      answer.refused (λ same from at_class place. cause_of_escape (old.place - 1) (from_backslash old) (in_text same from at_class _ place) cause)
      (keeps_placed (old.place - 1) old new (refusal_keeps e added start old new is read d answers))

  -- Where nothing stands that a class may hold, the backslash is refused.
  pub nothing_refused : (read : EscapeRead) (span : Span) (new : Cursor) → any_escape_at true e (values (rest old)) ≡ read → BeginsNone e (values (rest old)) → AnswersFound added start old new read (Ok None)
      → span ≡ span_to added start new
      → GivesAtom e added (back old) new (Err (fault.Diagnostic (InvalidClassAtom span)))
  nothing_refused _ span new here no_others (found.none stays) covers =
      answer.refused (λ same from at_class place.
      rw at_backslash (invalid_atom (old.place - 1) b.backslash (rest old) no_sets (subst (IsAtomPlace _ from at_class (old.place - 1)) b.whole (in_text same from at_class _ place)) b.value_is
      (subst (λ t. begins_class_escape t (values (rest old)) ≡ false) same (nothing_begins e (values (rest old)) no_others here))))
      (keeps_placed (old.place - 1) old new (stays_keeps old new (stands_within old start is) stays))
    where
      at_backslash : span ≡ span_between old.units old.first added (old.place - 1) (old.place - 1 + 1)
      at_backslash =
          covers
          ∙ ap (span_to added start) stays
          ∙ ap (λ n. record { start = n + added; end = offset_of old + added }) is.start
          ∙ ap (span_between old.units old.first added (old.place - 1)) (let k : old.place ≡ old.place - 1 + 1 = omega (arith, is.following) in k)

no_property_there : {e : Environment} {added start : ℕ} {old new : Cursor} → GivesProperty e added start old new (Ok None)
    → (new ≡ old) × (is_unicode e.mode ≡ true → front_is begins_property (values (rest old)) ≡ false)
no_property_there (given_property.none stays (inl never)) = (stays, λ u. absurd (true≢false (sym u ∙ never)))
no_property_there (given_property.none stays (inr never)) = (stays, λ u. never)

-- What was found of the units at the place is so of what is left.
pub one_unit_stands : {unicode mode : Bool} {us left : List CodePoint} (found : Option OneUnit) → unicode ≡ mode → us ≡ left → StandsOneUnit unicode (values us) found → StandsOneUnit mode (values left) found
one_unit_stands {unicode} {left = left} found same whole stands = subst (λ unicode. StandsOneUnit unicode (values left) found) same (subst (λ us. StandsOneUnit unicode (values us) found) whole stands)

-- After the backslash stands no escape that was asked for so far.
pub nothing_so_far : {e : Environment} {added start : ℕ} {old new : Cursor} {us vs : List CodePoint} {o : Option UnicodePropertyEscape} → us ≡ rest old → vs ≡ rest old
    → None ≡ alone_in_class (is_unicode e.mode) (values us) → None ≡ class_escape_front (values vs) → GivesProperty e added start old new (Ok o) → o ≡ None → (new ≡ old) × BeginsNone e (values (rest old))
nothing_so_far {e} {added} {start} {old} {new} whole still alone class_gone property_gone is_none =
    let p = no_property_there (subst (λ o. GivesProperty e added start old new (Ok o)) is_none property_gone) in (
      p.0,
      record {
        no_alone = ap (λ us. alone_in_class (is_unicode e.mode) (values us)) (sym whole) ∙ sym alone;
        no_class = ap (λ us. class_escape_front (values us)) (sym still) ∙ sym class_gone;
        no_letter = p.1;
      },
    )

-- Where an item stands a unit does.
pub stands_some : {us : List CodePoint} → StandsItem us → 0 < length us
stands_some {us = []} stands = absurd (stands.some refl)
stands_some {us = u ∷ us} stands = omega arith

-- A unit that is no backslash stands for itself, and a `-` is a symbol.
module _ (e : Environment) (no_sets : is_sets e.mode ≡ false) where
  itself : (u : CodePoint) (more : List CodePoint) → (u.value == 92) ≡ false → (u.value == 93) ≡ false → (b : Bool) → (u.value == 45) ≡ b → SpellsClassCharacter e (kind_in_class u) u.value (u ∷ []) more
  itself u more k l true h =
      let value = eqb-true u.value 45 h in rw h (subst (λ v. SpellsClassCharacter e kinds.Symbol v (u ∷ []) more) (sym value) (row.hyphen u (hyphen_without_sets e.mode no_sets) value))
  itself u more k l false h = rw h (row.raw u (raw_without_sets e.mode u.value (values more) no_sets ∙ rw (h, k, l) refl))

  pub unit_common : (us : List CodePoint) (it : CommonAtom) {v : ℕ} {w : List ℕ} {k : EscapeKind} → StandsItem us → All (λ u. u.value ≤ 0x10FFFF) us → values us ≡ v ∷ w → k ≡ front_kind us → v ≢ 92
      → ((u : CodePoint) → u.value ≡ v → u.escape_kind ≡ k → it.kind ≡ kind_in_class u) → it.value ≡ v → it.length ≡ 1 → IsCommonAtom e us it
  unit_common [] it stands small here written no_backslash kind is n = absurd (stands.some refl)
  unit_common (u ∷ us) it {v} stands small here written no_backslash kind is n =
      let same : u.value ≡ v = cc here in
      let other = false_from_ne_true (u.value == 92) (λ t. no_backslash (sym same ∙ eqb-true u.value 92 t)) in
      record {
        read = rw (kind u same (sym written), is, sym same, n) (atom_is_read e (character (kind_in_class u) u.value) (u ∷ []) us (itself u us other stands.no_closer (u.value == 45) refl));
        code_point = rw (is, sym same) (All-head (λ u. u.value ≤ 0x10FFFF) u us small);
      }

-- A backslash and an escape that most are stand for the same in a class.
pub escape_common : (e : Environment) (us : List CodePoint) (it : CommonEscape) {unicode : Bool} {v : ℕ} {w : List ℕ} → StandsItem us → values us ≡ v ∷ w → v ≡ 92 → is_unicode e.mode ≡ unicode
    → IsCommonEscape unicode (drop 1 us) it → IsCommonAtom e us (record { kind = it.kind; value = it.value; length = it.length + 1 })
escape_common e [] it stands here backslash same common = absurd (stands.some refl)
escape_common e (u ∷ us) it stands here backslash same common =
    let f = any_there e (character it.kind it.value) (it.length + 1) u us it.kind it.value it.length (let first : u.value ≡ 92 = cc (here, backslash) in first) (any_spelled true e it.kind it.value it.length (values us) (common.read true e same)) refl in
    record {
      read = ap (atom_at e) f.whole ∙ atom_is_read e (character it.kind it.value) f.w f.rest f.spelled ∙ ap (atom_read (character it.kind it.value)) f.count;
      code_point = common.small;
    }

module _ {e : Environment} {us : List CodePoint} {it : CommonAtom} (common : IsCommonAtom e us it) where
  front_of : AtomFront e (character it.kind it.value) it.length us
  front_of = atom_found e (character it.kind it.value) it.length us common.read

  -- Its units are there.
  pub common_within : it.length ≤ length us
  common_within = omega (arith, front_of.count, ap length front_of.whole, length-append front_of.w front_of.rest)

  -- What is moved over is answered.
  pub common_gives : (added start : ℕ) (old new : Cursor) (span : Span) → us ≡ rest old → start ≡ offset_of old → new ≡ move_on it.length old → span ≡ span_to added start new
      → GivesAtom e added old new (Ok (atom.Character (record { span = span; kind = it.kind; value = it.value })))
  common_gives added start old new span here starts moves covers =
      answer.some front_of.w front_of.rest (sym here ∙ front_of.whole) front_of.spelled (le-leb it.value 0x10FFFF common.code_point)
      (next_span old new it.length added start span starts moves covers ∙ ap (λ n. span_between old.units old.first added old.place (old.place + n)) (sym front_of.count))
      (moves ∙ ap (λ n. move_on n old) (sym front_of.count))
