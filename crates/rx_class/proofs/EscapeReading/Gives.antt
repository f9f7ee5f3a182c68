-- What is read after a backslash is what is answered.
use Rattle.std.proofs.Common.{◌≡◌, ℕ, ◌+◌, ◌-◌, ◌≤◌, List, [], ◌∷◌, Some, length, drop, refl, sym, ap, ◌∙◌, arith, length-drop, ◌++◌, None, ◌==◌, ◌&&◌, Bool, true, false, cond, Option, Result, Err, inl, inr, ap₂, subst}
use Rattle.rx_class.proofs.Common.{drop-drop, length-map, cases_Bool, cond-false, eqb-true, and-false, Diagnostic, TooLargeNumberDigits, InvalidUnicodeEscapeSequence, Hex, Span}
use Rattle.rx_class.proofs.Common.{CharacterClassEscapeKind, class_escape_text, Character, CharacterKind, CodePoint, Cursor, front, rest, move_on, values, front_is, chosen, class_found}
use Rattle.rx_class.proofs.Common.{class_letter, Environment, is_unicode, IsEscapeCause, invalid_escape, too_many_hex_digits, span_between, split_values, escape_is_first, IsAfterBackslash}
use Rattle.rx_class.proofs.Common.{from_backslash, GivesClassEscape, span_to, class_escape_front, AnswersFound, many_digits, no_escape_of_u, KeepsUnits}
use Rattle.rx_ast.specs.declared.leaf.CharacterClassEscape.{CharacterClassEscape}
use Rattle.rx_model.specs.Refusals.Firsts.{of_character}
use Rattle.rx_model.specs.Refusals.Stops.{is_hyphen_escaped}
use Rattle.rx_model.specs.Reading.Fronts.{EscapeRead, any_escape_at, class_escape_at, escape_at, escaped, escape_if, letter_at, nothing, no_unicode, too_many}
use Rattle.rx_model.proofs.Characters.Escapes.{escape_no_unicode, escape_nothing, escape_spelled, escape_too_many, spelled_escape}
use Rattle.rx_model.proofs.Characters.LegacyEscapes.{IsCharacterOrNothing, any_in_unicode, any_legacy_read, any_read, any_refused, any_spelled}
use Rattle.rx_model.proofs.Refusals.LegacyStops.{atom_after_backslash}
use Rattle.rx_class.specs.EscapeReading.Answers.{BeginsNoEscape, GivesCharacter, SpellsCharacter, in_each_mode, in_legacy_mode}
use Rattle.rx_class.specs.EscapeReading.Found.{none, shared_escape_at, some}
use Rattle.rx_class.specs.EscapeReading.Answers as given

-- the backslash before the reader's place
pub record StandsAfter (r : Cursor) : Type 0 where
  pub backslash : CodePoint
  pub whole : from_backslash r ≡ backslash ∷ rest r
  pub value_is : backslash.value ≡ 92

pub stands : (r : Cursor) (start : ℕ) → IsAfterBackslash r start → StandsAfter r
stands r start is = go (from_backslash r) refl is.backslash
  where
    go : (us : List CodePoint) → from_backslash r ≡ us → front us ≡ Some 92 → StandsAfter r
    go [] whole h = absurd (let no : ⊥ = cc h in no)
    go (u ∷ us) whole h =
        let on : r.place - 1 + 1 ≡ r.place = omega (arith, is.following) in
        let left : us ≡ rest r = ap (drop 1) (sym whole) ∙ drop-drop 1 (r.place - 1) r.units ∙ ap (λ place. drop place r.units) on in
        record { backslash = u; whole = whole ∙ ap (λ us. u ∷ us) left; value_is = cc h }

-- So the units after it are those of the rest.
pub from_backslash_values : (r : Cursor) (start : ℕ) → IsAfterBackslash r start → values (from_backslash r) ≡ 92 ∷ values (rest r)
from_backslash_values r start is = let b = stands r start is in ap values b.whole ∙ ap (λ c. c ∷ values (rest r)) b.value_is

-- The reader stands within its units.
pub stands_within : (r : Cursor) (start : ℕ) → IsAfterBackslash r start → r.place ≤ length r.units
stands_within r start is = let b = stands r start is in omega (arith, is.following, ap length b.whole, length-drop (r.place - 1) r.units)

front_of : (kind : CharacterClassEscapeKind) (w more : List ℕ) → 92 ∷ w ≡ class_escape_text kind → class_escape_front (w ++ more) ≡ Some kind
front_of kind w more h =
    let letter = class_letter kind in
    let k : 92 ∷ w ≡ 92 ∷ letter.letter ∷ [] = h ∙ letter.text in
    ap (λ w. class_escape_front (w ++ more)) (let e : w ≡ letter.letter ∷ [] = cc k in e) ∙ letter.found

module _ (added start : ℕ) (old : Cursor) where
  some_at : (us : List CodePoint) (it : CharacterClassEscape) (new : Cursor) → rest old ≡ us → class_escape_front (values us) ≡ Some it.kind
      → new ≡ move_on 1 old → it.span ≡ span_to added start new → GivesClassEscape added start old new (Some it)
  some_at [] it new whole read is span = absurd (let no : ⊥ = cc read in no)
  some_at (u ∷ us) it new whole read is span = given.some (u ∷ []) us (class_found it.kind u.value read) whole span is

  pub class_gives : (it : CharacterClassEscape) (new : Cursor) → class_escape_front (values (rest old)) ≡ Some it.kind
      → new ≡ move_on 1 old → it.span ≡ span_to added start new → GivesClassEscape added start old new (Some it)
  class_gives it new read is span = some_at (rest old) it new refl read is span

  pub no_class_gives : class_escape_front (values (rest old)) ≡ None → GivesClassEscape added start old old None
  no_class_gives read = given.none refl (λ kind w more text whole.
      let found = ap class_escape_front whole ∙ front_of kind w more text in
      let no : None ≡ Some kind = sym read ∙ found in
      cc no)

pub invalid_answered : (added start : ℕ) (old new : Cursor) (span : Span) → span ≡ span_between old.units old.first added (old.place + 0) (old.place + 0 + 1) → KeepsUnits old new
    → AnswersFound added start old new no_unicode (Err (InvalidUnicodeEscapeSequence span))
invalid_answered added start old new span covers keeps =
    let here : old.place + 0 ≡ old.place = omega arith in
    rw (covers, here) (no_escape_of_u keeps)

either : {x y z : EscapeRead} (b : Bool) → x ≡ z → y ≡ z → cond b x y ≡ z
either true p q = p
either false p q = q

letter_no_refusal : (kind : CharacterKind) (count : ℕ) (o : Option ℕ) → IsCharacterOrNothing (escape_if kind count o)
letter_no_refusal kind count None = tt
letter_no_refusal kind count (Some v) = tt

-- of `c` no escape is refused
c_no_refusal : (unicode : Bool) (w : List ℕ) → front_is (λ c. c == 99) w ≡ true → IsCharacterOrNothing (escape_at unicode w)
unfolding escape_at
c_no_refusal unicode [] h = absurd (let no : ⊥ = cc h in no)
c_no_refusal unicode (c ∷ w) h = subst (λ c. IsCharacterOrNothing (escape_at unicode (c ∷ w))) (sym (eqb-true c 99 h)) (letter_no_refusal _ 2 (letter_at w))

module _ (e : Environment) where
  -- With neither `u` nor `v` nothing is found before `k` alone, where it begins a reference.
  pub nothing_in_legacy : (c : ℕ) (w : List ℕ) → is_unicode e.mode ≡ false → (c == 98) ≡ false → class_escape_at c ≡ None → any_escape_at true e (c ∷ w) ≡ nothing → (c == 107 && e.named) ≡ true
  nothing_in_legacy c w m b d h = elim (cases_Bool (c == 107 && e.named)) [
    | inl k ↦ k
    | inr k ↦ let t = atom_after_backslash e m c w k in let no : ⊥ = grind (arith, m, b, d, h, t.2, and-false (is_hyphen_escaped e.mode)) in absurd no
  ]

  u_begins_one : (w : List ℕ) → any_escape_at true e (117 ∷ w) ≡ nothing → ⊥
  u_begins_one w h = elim (cases_Bool (is_unicode e.mode)) [
    | inl m ↦ let k = escape_nothing (117 ∷ w) (ap (λ u. escape_at u (117 ∷ w)) (sym m) ∙ sym (any_in_unicode true e (117 ∷ w) m) ∙ h) in cc k
    | inr m ↦ let k = nothing_in_legacy 117 w m refl refl h in cc k
  ]

  -- Where nothing is read no `u` stands.
  no_u_there : (w : List ℕ) → shared_escape_at e w ≡ nothing → front_is (λ c. c == 117) w ≡ false
  no_u_there [] h = refl
  no_u_there (c ∷ w) h = elim (cases_Bool (c == 117)) [
    | inl u ↦ absurd (u_begins_one w (subst (λ c. shared_escape_at e (c ∷ w) ≡ nothing) (eqb-true c 117 u) h))
    | inr u ↦ u
  ]

  -- what is spelled is read, and
  shared_read : (kind : CharacterKind) (v : ℕ) (w more : List ℕ) → SpellsCharacter e kind v w more → shared_escape_at e (w ++ more) ≡ escaped kind v (length w)
  shared_read kind v w more (in_each_mode s) = either (front_is (λ c. c == 99) (w ++ more)) (spelled_escape e kind v w more s) (any_read true e kind v w more s)
  shared_read kind v w more (in_legacy_mode m c s) = cond-false (front_is (λ c. c == 99) (w ++ more)) _ _ c ∙ any_legacy_read true e kind v w more m s

  -- what is read is spelled.
  shared_spelled : (kind : CharacterKind) (v n : ℕ) (w : List ℕ) → shared_escape_at e w ≡ escaped kind v n
      → (spelled : List ℕ) × (more : List ℕ) × SpellsCharacter e kind v spelled more × (w ≡ spelled ++ more) × (length spelled ≡ n)
  shared_spelled kind v n w h = elim (chosen (front_is (λ c. c == 99) w) h) [
    | inl p ↦ let f = escape_spelled e kind v n w p.1 in (f.spelled, f.rest, in_each_mode f.spells, f.whole, f.count)
    | inr p ↦ elim (any_spelled true e kind v n w p.1) [
      | inl f ↦ (f.spelled, f.rest, in_each_mode f.spells, f.whole, f.count)
      | inr (m, f) ↦ (f.spelled, f.rest, in_legacy_mode m (ap (front_is (λ c. c == 99)) (sym f.whole) ∙ p.0) f.spells, f.whole, f.count)
    ]
  ]

  shared_refused : (w : List ℕ) (r : EscapeRead) → shared_escape_at e w ≡ r → (IsCharacterOrNothing r → ⊥) → (is_unicode e.mode ≡ true) × (escape_at true w ≡ r)
  shared_refused w r h never = elim (chosen (front_is (λ c. c == 99) w) h) [
    | inl p ↦ absurd (never (subst IsCharacterOrNothing p.1 (c_no_refusal (is_unicode e.mode) w p.0)))
    | inr p ↦ any_refused true e w r p.1 never
  ]

  module _ (added start : ℕ) (old new : Cursor) (is : IsAfterBackslash old start) where
    abbrev IsCauseHere : Diagnostic → Type 0
    IsCauseHere = IsEscapeCause e.mode old.units old.first added (old.place - 1) (from_backslash old)

    -- What is refused with `u` or `v` is refused for a cause.
    pub refusal_cause : (read : EscapeRead) (d : Diagnostic) → is_unicode e.mode ≡ true → escape_at true (values (rest old)) ≡ read → AnswersFound added start old new read (Err d) → IsCauseHere d
    refusal_cause _ _ unicode read (many_digits {count} keeps) =
        subst (λ place. IsCauseHere (TooLargeNumberDigits (span_between old.units old.first added place (place + count)) Hex)) (let k : old.place - 1 + 3 ≡ old.place + 2 = omega (arith, is.following) in k)
        (too_many_hex_digits count (values (rest old)) unicode (from_backslash_values old start is) (escape_too_many (values (rest old)) count read))
    refusal_cause _ _ unicode read (no_escape_of_u keeps) =
        let no = escape_no_unicode (values (rest old)) read in
        let at = ap₂ (span_between old.units old.first added) (let k : old.place - 1 + 1 ≡ old.place = omega (arith, is.following) in k) (let k : old.place - 1 + 2 ≡ old.place + 1 = omega (arith, is.following) in k) in
        subst (λ span. IsCauseHere (InvalidUnicodeEscapeSequence span)) at
        (invalid_escape no.following unicode (from_backslash_values old start is ∙ ap (λ us. 92 ∷ us) no.whole) (rw no.whole at no.no_value) (rw no.whole at no.no_limit))

    pub refusal_keeps : (read : EscapeRead) (d : Diagnostic) → AnswersFound added start old new read (Err d) → KeepsUnits old new
    refusal_keeps _ _ (many_digits keeps) = keeps
    refusal_keeps _ _ (no_escape_of_u keeps) = keeps

    none_spelled : (read : EscapeRead) → shared_escape_at e (values (rest old)) ≡ read → ((kind : CharacterKind) (v n : ℕ) → read ≡ escaped kind v n → ⊥) → BeginsNoEscape e (values (rest old))
    none_spelled read here never kind v w more whole spells = never kind v (length w) (sym here ∙ ap (shared_escape_at e) whole ∙ shared_read kind v w more spells)

    refusal_gives : (read : EscapeRead) (d : Diagnostic) → shared_escape_at e (values (rest old)) ≡ read → (IsCharacterOrNothing read → ⊥) → AnswersFound added start old new read (Err d)
        → GivesCharacter e added start old new (Err d)
    refusal_gives read d here never answers =
        let r = shared_refused (values (rest old)) read here never in
        let cause = refusal_cause read d r.0 r.1 answers in
        given.refused cause (escape_is_first e.mode old.units old.first added (old.place - 1) (from_backslash old) (old.place - 1) d (of_character cause))
        (none_spelled read here (λ kind v n is. never (subst IsCharacterOrNothing (sym is) tt))) (refusal_keeps read d answers)

    gives : (read : EscapeRead) (r : Result (Option Character) Diagnostic) → shared_escape_at e (values (rest old)) ≡ read → AnswersFound added start old new read r → GivesCharacter e added start old new r
    gives _ _ here (some {it} {count} small covers moves) =
        let f = shared_spelled it.kind it.value count (values (rest old)) here in
        let split = split_values (rest old) f.0 f.1 f.3 in
        let n : count ≡ length split.front = omega (arith, f.4, ap length split.front_is, length-map split.front (λ (u : CodePoint). u.value)) in
        given.some split.front split.back split.whole (rw (split.front_is, split.back_is) f.2) small covers (moves ∙ ap (λ n. move_on n old) n)
    gives _ _ here (none stays) = given.none stays (none_spelled nothing here (λ kind v n h. let no : nothing ≡ escaped kind v n = h in cc no)) (no_u_there (values (rest old)) here)
    gives _ _ here (many_digits {count} keeps) = refusal_gives (too_many count) _ here (λ no. no) (many_digits keeps)
    gives _ _ here (no_escape_of_u keeps) = refusal_gives no_unicode _ here (λ no. no) (no_escape_of_u keeps)

    -- What is found in the units that are left is answered.
    pub character_gives : (us : List CodePoint) (found : EscapeRead) {r : Result (Option Character) Diagnostic} → us ≡ rest old → found ≡ shared_escape_at e (values us)
        → AnswersFound added start old new found r → GivesCharacter e added start old new r
    character_gives us found {r} same read answers = gives found r (sym (read ∙ ap (λ us. shared_escape_at e (values us)) same)) answers
