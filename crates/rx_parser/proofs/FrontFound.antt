-- What is found at the front of a text, by what is read there.
use Rattle.std.proofs.Common.{All, ◌≡◌, refl, sym, ap, ap₂, ◌∙◌, subst, ℕ, ◌+◌, ◌-◌, ◌%◌, ◌≤◌, Bool, true, false, not, ◌==◌, ◌&&◌, ◌||◌, if◌then◌else◌, Some, None, List, [], ◌∷◌, ◌++◌, length, take, drop, get_or, arith, append_assoc, length-append}
use Rattle.rx_parser.proofs.Common.{take-append_seam, nat_tests, is_syntax_character, CodePoint, values, PassesHex, Mode, Legacy, Sets, Unicode, starts, BeginsName, of_group, of_reference, ModifiersHalt, Environment, is_unicode, are_counts, counts_at, front, is_raw_at, is_legacy_syntax, stands_raw}
use Rattle.rx_parser.proofs.Common.{Token, Opener, boundary, character, dot, class_escape, property, class, indexed, named, opener, closer, bar, quantifier, capturing, ignoring, looking, Front, front_spelled, legacy_syntax, HoldsName, IsFound, IsOpenerFound, found_front, found_halt, found_opener}
use Rattle.rx_parser.proofs.Common.{found_name_halt, unit_kind, IsNameRow, no_name, some_name, SpellsName, IsStop, at_end, at_closer, at_bracket, at_brace, after_backslash, bits_small, AreWrong, unknown, duplicated, empty, invalid, EscapeAfter, SaysNameHalt, Says, SaysHalt, front_said, halt_end}
use Rattle.std.proofs.lemmas.Bool.{and_from, cond-false, cond-true, false_from_ne_true, or_right, true≢false}
use Rattle.std.proofs.lemmas.List.{drop-map, length-drop, length-map, map-append, take-map}
use Rattle.rx_units.specs.Cursor as cursor
use Rattle.rx_model.specs.Groups.GroupNameReading.{name_of}
use Rattle.rx_model.specs.Groups.NameFronts.{NameHalt, unterminated, misplaced_pair, misplaced, no_escape, no_escape_of_u, many_digits}
use Rattle.rx_model.specs.Reading.FrontReading.{FrontHalt, ends_here, last_backslash, out_of_order, too_large, many_decimal_digits, many_hex_digits, no_unicode_escape, in_name, no_angle, no_such_group, in_modifiers, FrontRead, token_read, property_begins, class_begins, halted, front_read, backslash_read, syntax_read}
use Rattle.rx_model.proofs.Groups.GroupNames.{group_name_read, name_anywhere}
use Rattle.rx_model.proofs.Quantifiers.CountsReading.{limit_within}
use Rattle.rx_parser.specs.declared.found.Found.TheVariants as found
use Rattle.rx_parser.specs.declared.found.Leaf.TheVariants as leaf

-- The value of the first unit and what stands after it say what is read.
abbrev pub read_after : Environment → ℕ → List ℕ → FrontRead
read_after e c w = if c == 92 then backslash_read e w else (if c == 91 then class_begins else syntax_read e c w)

pub read_by_values : (e : Environment) (us : List CodePoint) (c : ℕ) (w : List ℕ) → values us ≡ c ∷ w
    → front_read e us ≡ (if is_raw_at e c w then token_read (character (unit_kind (cursor.front_kind us)) c) 1 else read_after e c w)
unfolding front_read
read_by_values e [] c w whole = absurd (let no : ⊥ = cc whole in no)
read_by_values e (u ∷ us) c w whole =
    let same : u.value ≡ c = cc whole in
    let following : values us ≡ w = cc whole in
    rw (same, following) refl

pub read_none : (e : Environment) (us : List CodePoint) → values us ≡ [] → front_read e us ≡ halted (ends_here 0)
unfolding front_read
read_none e [] none = refl
read_none e (u ∷ us) none = absurd (let no : ⊥ = cc none in no)

-- what the ExtendedPatternCharacter of B.1.2 leaves out stands for itself in no mode, whatever else is asked of it
never_raw : (mode : Mode) (c : ℕ) (other : Bool) → is_legacy_syntax c ≡ true → (stands_raw mode c && other) ≡ false
never_raw Legacy c other h = ap (λ syntax. not syntax && other) h
never_raw Unicode c other h = ap (λ syntax. not syntax && other) (legacy_syntax c h)
never_raw Sets c other h = ap (λ syntax. not syntax && other) (legacy_syntax c h)

pub read_by_first : (e : Environment) (us : List CodePoint) (c : ℕ) (w : List ℕ) → values us ≡ c ∷ w → is_legacy_syntax c ≡ true → front_read e us ≡ read_after e c w
read_by_first e us c w whole legacy =
    read_by_values e us c w whole ∙ cond-false (is_raw_at e c w) _ _ (never_raw e.mode c (is_unicode e.mode || not (are_counts (counts_at (c ∷ w)))) legacy)

-- What is no SyntaxCharacter stands for itself in every mode, whatever follows.
plain_stands : (mode : Mode) (c : ℕ) → is_syntax_character c ≡ false → stands_raw mode c ≡ true
plain_stands Legacy c h = ap not (false_from_ne_true (is_legacy_syntax c) (λ legacy. true≢false (sym (legacy_syntax c legacy) ∙ h)))
plain_stands Unicode c h = ap not h
plain_stands Sets c h = ap not h

plain_counts : (c : ℕ) → is_syntax_character c ≡ false → ((c == 42) ≡ false) × ((c == 43) ≡ false) × ((c == 63) ≡ false) × ((c == 123) ≡ false)
plain_counts c h = (grind (arith, nat_tests), grind (arith, nat_tests), grind (arith, nat_tests), grind (arith, nat_tests))

plain_begins_none : (c : ℕ) (w : List ℕ) → is_syntax_character c ≡ false → are_counts (counts_at (c ∷ w)) ≡ false
unfolding counts_at
plain_begins_none c w h = let no = plain_counts c h in rw (no.0, no.1, no.2, no.3) refl

plain_raw : (e : Environment) (c : ℕ) (w : List ℕ) → is_syntax_character c ≡ false → is_raw_at e c w ≡ true
plain_raw e c w h = and_from (stands_raw e.mode c) _ (plain_stands e.mode c h) (or_right (is_unicode e.mode) _ (ap not (plain_begins_none c w h)))

-- So a unit that is no SyntaxCharacter is read by itself.
plain_read : (e : Environment) (us : List CodePoint) (d : CodePoint) → 1 ≤ length us → is_syntax_character (get_or us 0 d).value ≡ false
    → front_read e us ≡ token_read (character (unit_kind (get_or us 0 d).escape_kind) (get_or us 0 d).value) 1
plain_read e [] d some plain = absurd (omega arith)
plain_read e (u ∷ us) d some plain = read_by_values e (u ∷ us) u.value (values us) refl ∙ cond-true (is_raw_at e u.value (values us)) _ _ (plain_raw e u.value (values us) plain)

-- a name between three units and `>`
named_units : (m : Bool) (a b c : ℕ) (us w rest : List CodePoint) (name spelled : List ℕ) (n : ℕ) → us ≡ w ++ rest → length w ≡ n → values w ≡ a ∷ b ∷ c ∷ (spelled ++ (62 ∷ []))
    → SpellsName m name spelled (62 ∷ values rest) → HoldsName m us name n
named_units m a b c us w rest name spelled n whole count is spells =
    let long : n ≡ 4 + length spelled = omega (arith, count, ap length is, length-map w (λ (u : CodePoint). u.value), length-append spelled (62 ∷ [])) in
    let k : n - 4 ≡ length spelled = omega (arith, long) in
    let following : drop 3 (values us) ≡ spelled ++ (62 ∷ values rest) =
    ap (λ us. drop 3 (values us)) whole ∙ ap (drop 3) (map-append (λ (u : CodePoint). u.value) w rest ∙ ap (λ v. v ++ values rest) is) ∙ append_assoc spelled (62 ∷ []) (values rest) in
    let units : values (take (n - 4) (drop 3 us)) ≡ spelled =
    sym (take-map (λ (u : CodePoint). u.value) (n - 4) (drop 3 us))
    ∙ ap (take (n - 4)) (sym (drop-map (λ (u : CodePoint). u.value) 3 us) ∙ following)
    ∙ ap (λ k. take k (spelled ++ (62 ∷ values rest))) k
    ∙ take-append_seam spelled (62 ∷ values rest) in record {
      long = omega (arith, long);
      within = omega (arith, ap length whole, length-append w rest, count);
      name_is = ap (name_of m) units ∙ group_name_read m spelled name (name_anywhere m name spelled (62 ∷ values rest) [] spells);
    }

module _ (e : Environment) (us : List CodePoint) where
  name_held : (name : List ℕ) (n : ℕ) → Front e (named name) n us → HoldsName (is_unicode e.mode) us name n
  name_held name n f = named_units (is_unicode e.mode) 92 107 60 us f.w f.rest name f.spells.spelled n f.whole f.count f.spells.whole f.spells.spells

  opener_held : (o : Opener) (n : ℕ) → Front e (opener o) n us → IsOpenerFound e us n o (found_opener o)
  opener_held (capturing None) n f = refl
  opener_held (capturing (Some name)) n f = (name, refl, named_units (is_unicode e.mode) 40 63 60 us f.w f.rest name f.spells.spelled n f.whole f.count f.spells.whole f.spells.spells)
  opener_held (ignoring None) n f = refl
  opener_held (ignoring (Some bits)) n f =
      let s = f.spells.spelled in
      let a = bits_small s.enabled in
      let b = bits_small s.disabled in (
        ap₂ (λ a b. ignoring (Some (a, b))) (let k : bits.0 ≡ bits.0 % 8 = omega (arith, a, s.enabling_is) in k) (let k : bits.1 ≡ bits.1 % 8 = omega (arith, b, s.disabling_is) in k),
        omega (arith, f.count, ap length f.spells.whole, length-map f.w (λ (u : CodePoint). u.value), length-append f.spells.text (58 ∷ [])),
      )
  opener_held (looking kind) n f = refl

-- A halt names places within the text.
row_within : (m : Bool) (w : List ℕ) (n : ℕ) → IsNameRow m w n → n ≤ length w
row_within m w _ (no_name none) = omega arith
row_within m w n (some_name b) = omega (arith, b.count_is, ap length b.whole, length-append b.spelled b.rest)

escape_within : (m : Bool) (w : List ℕ) (n : ℕ) (following : List ℕ) → EscapeAfter m w n following → n + 1 + length following ≤ length w
escape_within m w n following b = let l = row_within m w n b.row in omega (arith, l, ap length b.there, length-drop n w)

hex_within : (w : List ℕ) (many : ℕ) → PassesHex w many → many + 3 ≤ length w
hex_within w many p = omega (arith, p.count_is, ap length p.whole, length-append p.digits (p.next ∷ p.rest))

some_u : (m : Bool) (w : List ℕ) → (m && starts 117 w) ≡ true → 1 ≤ length w
some_u true (c ∷ w) h = omega arith
some_u true [] h = absurd (true≢false (sym h))
some_u false w h = absurd (true≢false (sym h))

name_within : (m : Bool) (w : List ℕ) (it : NameHalt) → SaysNameHalt m w it → halt_end (found_name_halt it) ≤ length w + 3
name_within m w (unterminated n) s = let l = row_within m w n s.0 in omega (arith, l)
name_within m w (misplaced_pair n) s = let l = row_within m w n s.0 in omega (arith, l, ap length s.2.whole, length-drop n w)
name_within m w (misplaced count n) s = let l = escape_within m w count s.0 s.1 in omega (arith, l, s.3.count, ap length s.3.whole, length-append s.3.spelled s.3.rest)
name_within m w (no_escape count) s = let l = escape_within m w count s.0 s.1 in omega (arith, l)
name_within m w (no_escape_of_u count) s = let l = escape_within m w count s.0 s.1 in let k = some_u m s.0 s.3 in omega (arith, l, k)
name_within m w (many_digits count many) s = let l = escape_within m w count s.0 s.1 in let k = hex_within s.0 many s.2 in omega (arith, l, k)

begins_within : (e : Environment) (w following : List ℕ) → BeginsName e w following → length w ≡ length following + 3
begins_within e _ _ (of_group h) = omega arith
begins_within e _ _ (of_reference h) = omega arith

wrong_within : (w : List ℕ) (n : ℕ) (it : ModifiersHalt) → AreWrong w n it → n ≤ length w
wrong_within _ _ _ (unknown text following l) = omega (arith, length-append text following)
wrong_within _ _ _ (duplicated text following s h) = omega (arith, length-append text (58 ∷ following))
wrong_within _ _ _ empty = omega arith
wrong_within _ _ _ (invalid text following s h k) = omega (arith, length-append text (58 ∷ following))

stop_within : (e : Environment) (us : List CodePoint) (n : ℕ) → IsStop e us n → n ≤ length us
stop_within e _ _ at_end = omega arith
stop_within e _ _ (at_closer h) = omega arith
stop_within e _ _ (at_bracket h k) = omega arith
stop_within e _ _ (at_brace h k l m) = omega arith
stop_within e _ _ (after_backslash h k l) = omega arith

module _ (e : Environment) (us : List CodePoint) where
  token_within : (t : Token) (n : ℕ) → front e us ≡ Some (t, n) → n ≤ length us
  token_within t n h = let f = front_spelled e us t n h in omega (arith, f.count, ap length f.whole, length-append f.w f.rest)

  units : length (values us) ≡ length us
  units = length-map us (λ (u : CodePoint). u.value)

  halt_within : (it : FrontHalt) → SaysHalt e us (front e us) it → halt_end (found_halt it) ≤ length us
  halt_within (ends_here n) s = stop_within e us n s.0
  halt_within last_backslash s = omega (arith, ap length s.2)
  halt_within (out_of_order n) s = omega (arith, units, s.2.count_is, ap length s.2.whole, length-append s.2.prefix s.2.following)
  halt_within (too_large n) s = omega (arith, units, s.2.count_is, ap length s.2.whole, length-append s.2.prefix s.2.following)
  halt_within (many_decimal_digits start many) s = let l = limit_within (values us) start many s.0 in omega (arith, units, l)
  halt_within (many_hex_digits many) s = let l = hex_within s.1 many s.3 in omega (arith, units, l, ap length s.2)
  halt_within no_unicode_escape s = omega (arith, units, ap length s.2, ap length s.3.whole)
  halt_within (in_name it) s = let l = name_within (is_unicode e.mode) s.0 it s.2 in let k = begins_within e (values us) s.0 s.1 in omega (arith, units, l, k)
  halt_within no_angle s = omega (arith, units, ap length s.1)
  halt_within (no_such_group n) s = token_within (indexed s.0) n s.1
  halt_within (in_modifiers it n) s = let l = wrong_within s.0 n it s.2 in omega (arith, units, ap length s.1, l)

  -- What is found at the front stands there.
  pub front_found : (is_unicode e.mode ≡ true → e.named ≡ true) → All (λ (u : CodePoint). u.value ≤ 0x10FFFF) us → IsFound e us (found_front (front_read e us))
  front_found allowed small = go (front_read e us) refl (front_said e allowed us)
    where
      one_unit : (c n : ℕ) (f : List CodePoint) → length f ≡ n → values f ≡ c ∷ [] → n ≡ 1
      one_unit c n f l h = omega (arith, l, ap length h, length-map f (λ (u : CodePoint). u.value))

      go : (r : FrontRead) → front_read e us ≡ r → Says e us (front e us) r → IsFound e us (found_front r)
      go (token_read (boundary kind) n) h s = (s.0, token_within (boundary kind) n s.0, s.1 small)
      go (token_read (character kind value) n) h s = (s.0, token_within (character kind value) n s.0, s.1 small)
      go (token_read dot n) h s = (s.0, token_within dot n s.0, s.1 small)
      go (token_read (class_escape kind) n) h s = (s.0, token_within (class_escape kind) n s.0, s.1 small)
      go (token_read (property negative strings name value) n) h s = absurd (s.1 small)
      go (token_read (class c) n) h s = absurd (s.1 small)
      go (token_read (indexed k) n) h s = (s.0, token_within (indexed k) n s.0, s.1 small)
      go (token_read (named name) n) h s = (name, s.0, name_held e us name n (front_spelled e us (named name) n s.0))
      go (token_read (opener o) n) h s = (o, (s.0, token_within (opener o) n s.0, s.1 small), opener_held e us o n (front_spelled e us (opener o) n s.0))
      go (token_read closer n) h s =
          let f = front_spelled e us closer n s.0 in
          let one = one_unit 41 n f.w f.count f.spells in
          (s.0 ∙ ap (λ n. Some (closer, n)) one, omega (arith, one, token_within closer n s.0), s.1 small)
      go (token_read bar n) h s =
          let f = front_spelled e us bar n s.0 in
          let one = one_unit 124 n f.w f.count f.spells in
          (s.0 ∙ ap (λ n. Some (bar, n)) one, omega (arith, one, token_within bar n s.0), s.1 small)
      go (token_read (quantifier min max greedy) n) h s = (s.0, token_within (quantifier min max greedy) n s.0, s.1 small)
      go property_begins h s = s
      go class_begins h s = s
      go (halted it) h s = ((it, h, refl), halt_within it s)

  -- A unit that is no SyntaxCharacter is found there.
  pub plain_found : (d : CodePoint) → (is_unicode e.mode ≡ true → e.named ≡ true) → All (λ (u : CodePoint). u.value ≤ 0x10FFFF) us → 1 ≤ length us → is_syntax_character (get_or us 0 d).value ≡ false
      → IsFound e us (found.Leaf (leaf.Character (unit_kind (get_or us 0 d).escape_kind) (get_or us 0 d).value) 1)
  plain_found d allowed small some plain = subst (IsFound e us) (ap found_front (plain_read e us d some plain)) (front_found allowed small)
