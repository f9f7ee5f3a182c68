-- Characters and ends of ranges in a class with `v`: what is spelled is read, what is read is spelled, and what is answered.
use Rattle.std.proofs.Common.{◌≡◌, ◌≢◌, refl, sym, ap, ap₂, ◌∙◌, subst, ℕ, ◌+◌, ◌≤◌, ◌==◌, true, false, cond, not, All, Ok, Err, List, [], ◌∷◌, ◌++◌, length, drop, arith, inl, inr, length-append}
use Rattle.rx_class.proofs.Common.{eqb-true, cond-true, cond-false, cond_both, false_from_ne_true, nat_tests, length-map, map-append, All-head, Diagnostic, InvalidUnicodeEscapeSequence}
use Rattle.rx_class.proofs.Common.{TooLargeNumberDigits, Hex, Span, Character, CharacterKind, CodePoint, Cursor, move_on, offset_of, rest, values, chosen, Unicode, Sets, character}
use Rattle.rx_class.proofs.Common.{Environment, is_sets, is_unicode, IsEscapeCause, invalid_escape, too_many_hex_digits, span_between, any_there, atom_some, sets_is, escape_first, differs, starts}
use Rattle.rx_class.proofs.Common.{SetCharacter, span_to, KeepsUnits, GivesSetCharacter, seen_character}
use Rattle.std.proofs.lemmas.Bool.{ne_eqb}
use Rattle.rx_tables.specs.Characters.{is_reserved_punctuator}
use Rattle.rx_ast.specs.declared.leaf.CharacterKind.TheVariants as kinds
use Rattle.rx_units.specs.Cursor.{front_kind}
use Rattle.rx_units.specs.Digits.{PassesHex}
use Rattle.rx_units.specs.declared.code_point.EscapeKind.{EscapeKind}
use Rattle.rx_model.specs.Characters.Decoding.{Decoded, value, decoding_of}
use Rattle.rx_model.specs.Characters.EscapeFronts.{EscapeRead, escaped, nothing, too_many, no_unicode, escape_at, unicode_read}
use Rattle.rx_model.specs.Characters.Escapes.{SpellsEscape}
use Rattle.rx_model.specs.Characters.UnitKinds.{unit_kind}
use Rattle.rx_model.specs.Classes.ClassRows.{SpellsClassCharacter, SpellsInClassAlone, has_hyphen, is_dashed, stands_raw_in_class}
use Rattle.rx_model.specs.Classes.ClassRows as row
use Rattle.rx_model.proofs.Characters.Backslashes.{begins}
use Rattle.rx_model.proofs.Characters.Escapes.{NoUnicode, escape_no_unicode, escape_too_many, escape_u, spelled_escape, spelled_small}
use Rattle.rx_model.proofs.Characters.LegacyEscapes.{any_in_unicode, any_spelled}
use Rattle.rx_model.proofs.Classes.ClassFronts.{AtomFront, punctuator_no_b}
use Rattle.rx_class.specs.declared.sets.character.SetCharacter.TheVariants as found
use Rattle.rx_class.specs.SetReading.Answers.{refused, some}
use Rattle.rx_class.specs.SetReading.Fronts.{after_backslash, range_end_at, set_character_at, set_escape_at}
use Rattle.rx_class.proofs.Keeping.{moved_keeps, passes_moved}

-- some environment with `v`
abbrev pub with_v : Environment
with_v = record { mode = Sets; groups = 0; named = true; buffer_boundaries = true }

-- by the values of the units, and how the first was written
abbrev pub character_by : EscapeKind → List ℕ → EscapeRead
character_by kind [] = nothing
character_by kind (c ∷ w) = cond (c == 92) (after_backslash (set_escape_at w)) (cond (stands_raw_in_class Sets c w) (escaped (unit_kind kind) c 1) nothing)

pub set_character_is : (us : List CodePoint) → set_character_at us ≡ character_by (front_kind us) (values us)
unfolding set_character_at
set_character_is [] = refl
set_character_is (u ∷ us) = refl

pub set_character_after : (us : List CodePoint) {w : List ℕ} → values us ≡ 92 ∷ w → set_character_at us ≡ after_backslash (set_escape_at w)
set_character_after us h = set_character_is us ∙ ap (character_by (front_kind us)) h

pub nothing_read : (us : List CodePoint) {c : ℕ} {w : List ℕ} → values us ≡ c ∷ w → c ≢ 92 → stands_raw_in_class Sets c w ≡ false → nothing ≡ set_character_at us
nothing_read us {c} {w} h no_backslash no_raw =
    sym (set_character_is us ∙ ap (character_by (front_kind us)) h ∙ cond-false (c == 92) _ _ (ne_eqb c 92 no_backslash) ∙ cond-false (stands_raw_in_class Sets c w) _ _ no_raw)

-- A backslash and `u` are read as something.
pub u_is_read : (us : List CodePoint) (w : List ℕ) → values us ≡ 92 ∷ 117 ∷ w → set_character_at us ≢ nothing
u_is_read us w h none = reads (decoding_of true (117 ∷ w)) (ap after_backslash (sym (escape_u w)) ∙ sym (set_character_after us h) ∙ none)
  where
    reads : (d : Decoded) → after_backslash (unicode_read d) ≢ nothing
    reads (value v n) h = cc h
    reads other h = cc h

module _ (e : Environment) (sets : is_sets e.mode ≡ true) where
  mode_is : e.mode ≡ Sets
  mode_is = sets_is e.mode sets

  pub unicode_is : is_unicode e.mode ≡ true
  unicode_is = ap is_unicode mode_is

  -- Characters, spelled → read.
  escape_read : (k : CharacterKind) (v : ℕ) (w rest : List ℕ) → SpellsEscape e k v w rest → set_escape_at (w ++ rest) ≡ escaped k v (length w)
  escape_read k v w rest s =
      let b = begins e k v w rest s in
      ap (λ w. set_escape_at (w ++ rest)) b.whole
      ∙ cond-false (b.first == 98) _ _ b.no_b
      ∙ cond-false (is_reserved_punctuator b.first) _ _ b.no_reserved
      ∙ ap (λ w. escape_at true (w ++ rest)) (sym b.whole)
      ∙ ap (λ u. escape_at u (w ++ rest)) (sym unicode_is)
      ∙ spelled_escape e k v w rest s

  alone_read : (k : CharacterKind) (v : ℕ) (w rest : List ℕ) → SpellsInClassAlone e.mode k v w → set_escape_at (w ++ rest) ≡ escaped k v (length w)
  alone_read _ _ _ rest row.backspace = refl
  alone_read _ _ _ rest (row.hyphen m) = absurd (let no : Sets ≡ Unicode = sym mode_is ∙ m in let k : ⊥ = cc no in k)
  alone_read _ _ _ rest (row.reserved c m h) = cond-false (c == 98) _ _ (punctuator_no_b c h) ∙ cond-true (is_reserved_punctuator c) _ _ h

  after_read : (k : CharacterKind) (v : ℕ) (backslash : CodePoint) (following rest : List CodePoint) → backslash.value ≡ 92
      → set_escape_at (values following ++ values rest) ≡ escaped k v (length (values following)) → set_character_at (backslash ∷ (following ++ rest)) ≡ escaped k v (length (backslash ∷ following))
  after_read k v backslash following rest h read =
      set_character_after (backslash ∷ (following ++ rest)) (ap₂ ◌∷◌ h (map-append (λ (u : CodePoint). u.value) following rest))
      ∙ ap after_backslash read
      ∙ ap (escaped k v) (omega (arith, length-map following (λ (u : CodePoint). u.value)))

  raw_in_sets : (c : ℕ) (w : List ℕ) → stands_raw_in_class e.mode c w ≡ stands_raw_in_class Sets c w
  raw_in_sets c w = ap (λ mode. stands_raw_in_class mode c w) mode_is

  pub spelled_set_character : (k : CharacterKind) (v : ℕ) (w rest : List CodePoint) → SpellsClassCharacter e k v w rest → set_character_at (w ++ rest) ≡ escaped k v (length w)
  unfolding set_character_at
  spelled_set_character _ _ _ rest (row.raw unit h) =
      let raw_is = sym (raw_in_sets unit.value (values rest)) ∙ h in
      cond-false (unit.value == 92) _ _ (differs (λ c. stands_raw_in_class Sets c (values rest)) unit.value 92 refl raw_is)
      ∙ cond-true (stands_raw_in_class Sets unit.value (values rest)) _ _ raw_is
  spelled_set_character _ _ _ rest (row.hyphen unit there h) =
      absurd (let no : false ≡ true = ap has_hyphen (sym mode_is) ∙ there in let k : ⊥ = cc no in k)
  spelled_set_character k v _ rest (row.escaped backslash following h s) = after_read k v backslash following rest h (escape_read k v (values following) (values rest) s)
  spelled_set_character k v _ rest (row.escaped_in_class backslash following h s) = after_read k v backslash following rest h (alone_read k v (values following) (values rest) s)
  spelled_set_character k v _ rest (row.escaped_in_legacy backslash following h m s) =
      absurd (let no : true ≡ false = sym unicode_is ∙ m in let k : ⊥ = cc no in k)

  -- Characters, read → spelled.
  abbrev Says : List CodePoint → EscapeRead → Type 0
  Says us (escaped k v n) = AtomFront e (character k v) n us
  Says us nothing = Unit {0}
  Says us (too_many n) = (following : List ℕ) × (values us ≡ 92 ∷ following) × PassesHex following n
  Says us no_unicode = (following : List ℕ) × (values us ≡ 92 ∷ following) × NoUnicode following

  -- after a backslash
  module _ (u : CodePoint) (is : u.value ≡ 92) where
    escape_says : (us : List CodePoint) (r : EscapeRead) → escape_at true (values us) ≡ r → Says (u ∷ us) (after_backslash r)
    escape_says us (escaped k v n) h =
        any_there e (character k v) (n + 1) u us k v n is (any_spelled true e k v n (values us) (any_in_unicode true e (values us) unicode_is ∙ ap (λ u. escape_at u (values us)) unicode_is ∙ h)) refl
    escape_says us nothing h = tt
    escape_says us (too_many n) h = (values us, ap (λ c. c ∷ values us) is, escape_too_many (values us) n h)
    escape_says us no_unicode h = (values us, ap (λ c. c ∷ values us) is, escape_no_unicode (values us) h)

    alone_says : (k : CharacterKind) (v : ℕ) (unit : CodePoint) (us : List CodePoint) → SpellsInClassAlone e.mode k v (unit.value ∷ []) → AtomFront e (character k v) 2 (u ∷ unit ∷ us)
    alone_says k v unit us s = record { w = u ∷ unit ∷ []; rest = us; whole = refl; count = refl; spelled = row.escaped_in_class u (unit ∷ []) is s }

    after_says : (us : List CodePoint) → Says (u ∷ us) (after_backslash (set_escape_at (values us)))
    after_says [] = tt
    after_says (unit ∷ us) =
        cond_both (unit.value == 98) _ _ P (λ h. alone_says kinds.SingleEscape 8 unit us (rw (eqb-true unit.value 98 h) row.backspace))
        (λ no_b. cond_both (is_reserved_punctuator unit.value) _ _ P (λ h. alone_says kinds.Identifier unit.value unit us (row.reserved unit.value mode_is h)) (λ other. escape_says (unit ∷ us) _ refl))
      where
        P : EscapeRead → Type 0
        P r = Says (u ∷ unit ∷ us) (after_backslash r)

  set_character_says : (us : List CodePoint) → Says us (set_character_at us)
  unfolding set_character_at
  set_character_says [] = tt
  set_character_says (u ∷ us) =
      cond_both (u.value == 92) _ _ (Says (u ∷ us)) (λ h. after_says u (eqb-true u.value 92 h) us)
      (λ other. cond_both (stands_raw_in_class Sets u.value (values us)) _ _ (Says (u ∷ us))
      (λ h. record { w = u ∷ []; rest = us; whole = refl; count = refl; spelled = row.raw u (raw_in_sets u.value (values us) ∙ h) })
      (λ h. tt))

  pub set_character_spelled : (k : CharacterKind) (v n : ℕ) (us : List CodePoint) → set_character_at us ≡ escaped k v n → AtomFront e (character k v) n us
  set_character_spelled k v n us h = subst (Says us) h (set_character_says us)

  module _ (text : List CodePoint) (first added place : ℕ) (us : List CodePoint) where
    too_many_refused : (n : ℕ) → set_character_at us ≡ too_many n
        → IsEscapeCause e.mode text first added place us (TooLargeNumberDigits (span_between text first added (place + 3) (place + 3 + n)) Hex)
    too_many_refused n h = let s = subst (Says us) h (set_character_says us) in too_many_hex_digits n s.0 unicode_is s.1 s.2

    no_unicode_refused : set_character_at us ≡ no_unicode → IsEscapeCause e.mode text first added place us (InvalidUnicodeEscapeSequence (span_between text first added (place + 1) (place + 2)))
    no_unicode_refused h =
        let s = subst (Says us) h (set_character_says us) in
        let no = s.2 in
        invalid_escape no.following unicode_is (s.1 ∙ ap (λ w. 92 ∷ w) no.whole) (rw no.whole at no.no_value) (rw no.whole at no.no_limit)

  -- Where nothing is read no escape is refused.
  pub no_escape_refused : (us : List CodePoint) → set_character_at us ≡ nothing → (text : List CodePoint) (first added place : ℕ) (d : Diagnostic) → IsEscapeCause e.mode text first added place us d → ⊥
  no_escape_refused us none text first added place d c = let f = escape_first e text first added place us d c in u_is_read us f.0 f.1 none

  -- How many units a character takes, and which values it has.
  alone_small : (k : CharacterKind) (v : ℕ) (w : List ℕ) → SpellsInClassAlone e.mode k v w → v ≤ 0x10FFFF
  alone_small _ _ _ (row.reserved c m h) = grind (arith, nat_tests)
  alone_small _ _ _ it = omega arith

  spelled_code_point : (k : CharacterKind) (v : ℕ) (w rest : List CodePoint) → SpellsClassCharacter e k v w rest → All (λ unit. unit.value ≤ 0x10FFFF) (w ++ rest) → v ≤ 0x10FFFF
  spelled_code_point _ _ _ rest (row.raw unit h) small = All-head (λ unit. unit.value ≤ 0x10FFFF) unit rest small
  spelled_code_point _ _ _ rest (row.hyphen unit there h) small = omega arith
  spelled_code_point k v _ rest (row.escaped backslash following h s) small = spelled_small e k v (values following) (values rest) s
  spelled_code_point k v _ rest (row.escaped_in_class backslash following h s) small = alone_small k v (values following) s
  spelled_code_point k v _ rest (row.escaped_in_legacy backslash following h m s) small = absurd (let no : true ≡ false = sym unicode_is ∙ m in let k : ⊥ = cc no in k)

  pub set_too_many_within : (us : List CodePoint) (n : ℕ) → set_character_at us ≡ too_many n → n + 3 ≤ length us
  set_too_many_within us n h =
      let s = subst (Says us) h (set_character_says us) in
      let p = s.2 in
      omega (arith, p.count_is, length-append p.digits (p.next ∷ p.rest), ap length p.whole, ap length s.1, length-map us (λ (u : CodePoint). u.value))

-- The units of a character are there.
pub set_character_within : {k : CharacterKind} {v n : ℕ} (us : List CodePoint) → set_character_at us ≡ escaped k v n → n ≤ length us
set_character_within {k} {v} {n} us h = let f = set_character_spelled with_v refl k v n us h in omega (arith, f.count, ap length f.whole, length-append f.w f.rest)

-- What is read of a character is what is answered.
module _ (added : ℕ) (old new : Cursor) where
  pub character_gives : (k : CharacterKind) (v n start : ℕ) (span : Span) → set_character_at (rest old) ≡ escaped k v n → All (λ unit. unit.value ≤ 0x10FFFF) (rest old) → start ≡ offset_of old → new ≡ move_on n old → span ≡ span_to added start new
      → (e : Environment) → is_sets e.mode ≡ true → GivesSetCharacter e added old new (Ok (record { span = span; kind = k; value = v }))
  character_gives k v n start span read small start_is moves covers e sets =
      let f = set_character_spelled e sets k v n (rest old) read in
      let over = moves ∙ ap (λ n. move_on n old) (sym f.count) in
      let p = passes_moved old new f.w f.rest f.whole (atom_some e (character k v) f.w f.rest f.spelled) over in
      some f.w f.rest f.whole f.spelled (spelled_code_point e sets k v f.w f.rest f.spelled (subst (All (λ (unit : CodePoint). unit.value ≤ 0x10FFFF)) f.whole small))
      (covers ∙ ap (λ start. span_to added start new) start_is ∙ ap (span_to added (offset_of old)) p.0.moves) over

  pub too_many_gives : (n : ℕ) (span : Span) → set_character_at (rest old) ≡ too_many n → span ≡ span_between old.units old.first added (old.place + 3) (old.place + 3 + n) → KeepsUnits old new
      → (e : Environment) → is_sets e.mode ≡ true → GivesSetCharacter e added old new (Err (TooLargeNumberDigits span Hex))
  too_many_gives n span read covers keeps e sets = rw covers (refused (too_many_refused e sets old.units old.first added old.place (rest old) n read) keeps)

  pub no_unicode_gives : (span : Span) → set_character_at (rest old) ≡ no_unicode → span ≡ span_between old.units old.first added (old.place + 1) (old.place + 1 + 1) → KeepsUnits old new
      → (e : Environment) → is_sets e.mode ≡ true → GivesSetCharacter e added old new (Err (InvalidUnicodeEscapeSequence span))
  no_unicode_gives span read covers keeps e sets =
      let two : old.place + 1 + 1 ≡ old.place + 2 = omega arith in
      rw (covers, two) (refused (no_unicode_refused e sets old.units old.first added old.place (rest old) read) keeps)

pub character_keeps : {e : Environment} {added : ℕ} {old new : Cursor} {it : Character} → GivesSetCharacter e added old new (Ok it) → KeepsUnits old new
character_keeps {old = old} {new = new} (some w more whole spelled small span moves) = moved_keeps (length w) old new moves

-- What is read after a character as the end of a range is a `-` and a character, or one whose escape is refused.
pub record EndsRange (us : List CodePoint) (read : EscapeRead) : Type 0 where
  pub hyphen : CodePoint
  pub more : List CodePoint
  pub whole : us ≡ hyphen ∷ more
  pub following : set_character_at more ≡ read
  pub dashed : is_dashed (values us) ≡ true

-- What begins a character is no `]`.
is_before_dash : (us : List CodePoint) → set_character_at us ≢ nothing → is_dashed (45 ∷ values us) ≡ true
unfolding set_character_at
is_before_dash [] reads = absurd (reads refl)
is_before_dash (u ∷ us) reads = ap not (false_from_ne_true (u.value == 93) (λ h. reads (rw (eqb-true u.value 93 h) refl)))

pub range_end_is : (us : List CodePoint) (it : SetCharacter) → range_end_at us ≡ seen_character it → EndsRange us (seen_character it)
range_end_is us it h = by us (seen_character it) (is_seen it) h
  where
    is_seen : (it : SetCharacter) → seen_character it ≢ nothing
    is_seen (found.Character k v n) h = cc h
    is_seen it h = cc h

    by : (us : List CodePoint) (read : EscapeRead) → read ≢ nothing → range_end_at us ≡ read → EndsRange us read
    by [] read reads h = absurd (reads (sym h))
    by (u ∷ us) read reads h = elim (chosen (u.value == 45) h) [
      | inl p ↦
          let is = eqb-true u.value 45 p.0 in
          record { hyphen = u; more = us; whole = refl; following = p.1; dashed = ap (λ c. is_dashed (c ∷ values us)) is ∙ is_before_dash us (λ no. reads (sym p.1 ∙ no)) }
      | inr p ↦ absurd (reads (sym p.1))
    ]

-- Where none is, nothing is read after a `-`.
pub no_range_end : (us : List CodePoint) (hyphen : CodePoint) (more : List CodePoint) → range_end_at us ≡ nothing → us ≡ hyphen ∷ more → hyphen.value ≡ 45 → set_character_at more ≡ nothing
no_range_end us hyphen more none whole is = sym (cond-true (hyphen.value == 45) _ _ (ap (λ c. c == 45) is)) ∙ ap range_end_at (sym whole) ∙ none

-- The end of a range is what is read after a `-`, and there is none where no `-` stands.
pub range_end_after : (us : List CodePoint) {read : EscapeRead} → starts 45 (values us) ≡ true → set_character_at (drop 1 us) ≡ read → range_end_at us ≡ read
range_end_after [] h is = absurd (let no : ⊥ = cc h in no)
range_end_after (u ∷ us) h is = cond-true (u.value == 45) _ _ h ∙ is

pub no_end_without : (us : List CodePoint) → starts 45 (values us) ≡ false → range_end_at us ≡ nothing
no_end_without [] h = refl
no_end_without (u ∷ us) h = cond-false (u.value == 45) _ _ h
