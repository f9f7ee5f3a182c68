-- Character escapes: what is spelled is read, and what is read is spelled.
use Rattle.std.proofs.Common.{◌≡◌, ℕ, ◌==◌, ◌<◌, ◌≤◌, Bool, true, false, cond, ◌&&◌, List, [], ◌∷◌, ◌++◌, length, Option, Some, None, refl, sym, ap, ◌∙◌, subst, arith, ◌⊎◌, inl, inr}
use Rattle.std.proofs.lemmas.Bool.{eqb-true, cond-true, cond-false, cond_both, cases_Bool, and_from}
use Rattle.std.proofs.lemmas.Bool.Decides.{nat_tests}
use Rattle.rx_tables.specs.Characters.{control_escape_value, control_letter_value, is_decimal_digit}
use Rattle.rx_ast.specs.declared.leaf.CharacterKind.{CharacterKind}
use Rattle.rx_units.specs.Digits.{front_is, hex_number, PassesHex}
use Rattle.rx_ast.specs.declared.leaf.CharacterKind.TheVariants as kinds
use Rattle.rx_units.proofs.Digits.{two_small}
use Rattle.rx_units.proofs.Choices.{chosen, both}
use Rattle.rx_model.specs.Characters.Decoding.{Decoded, value, invalid, overflow, decoding_of}
use Rattle.rx_model.specs.Inputs.Environment.{Environment, is_unicode}
use Rattle.rx_model.specs.Characters.Escapes.{is_identity_escape, SpellsEscape, control, letter, null, hexadecimal, unicode, identity}
use Rattle.rx_model.specs.Reading.Fronts.{EscapeRead, escaped, nothing, too_many, no_unicode, escape_if, unicode_read, letter_at, two_at, escape_after, escape_at}
use Rattle.rx_model.specs.Characters.UnicodeEscapes.{SpellsUnicode, code_unit, alone, pair, braced, Decodes}
use Rattle.rx_model.proofs.Characters.Decoding.{spelled_read, read_spelled, read_overflow, overflow_read, value_law, value_is_code_point, decoded_some}

-- no row above that of identity escapes begins with the character
record Others (c : ℕ) : Type 0 where
  no_control : control_escape_value c ≡ None
  no_c : (c == 99) ≡ false
  no_zero : (c == 48) ≡ false
  no_x : (c == 120) ≡ false
  no_u : (c == 117) ≡ false

others : (c : ℕ) → is_identity_escape c ≡ true → Others c
others c h = record {
  no_control = grind (arith, nat_tests);
  no_c = grind (arith, nat_tests);
  no_zero = grind (arith, nat_tests);
  no_x = grind (arith, nat_tests);
  no_u = grind (arith, nat_tests);
}

pub begins_with_u : {m : Bool} {v : ℕ} {w rest : List ℕ} → SpellsUnicode m v w rest → (t : List ℕ) × (w ≡ 117 ∷ t)
begins_with_u (code_unit h) = (_, refl)
begins_with_u (alone h k) = (_, refl)
begins_with_u (pair h k l m) = (_, refl)
begins_with_u (braced x xs h k) = (_, refl)

letter_small : (c v : ℕ) → control_letter_value c ≡ Some v → v ≤ 0x10FFFF
letter_small c v h = grind (arith, nat_tests)

pub escape_u : (w : List ℕ) → escape_at true (117 ∷ w) ≡ unicode_read (decoding_of true (117 ∷ w))
unfolding escape_at
escape_u w = refl

module _ (e : Environment) where
  -- spelled → read
  pub spelled_escape : (kind : CharacterKind) (v : ℕ) (w rest : List ℕ) → SpellsEscape e kind v w rest → escape_at (is_unicode e.mode) (w ++ rest) ≡ escaped kind v (length w)
  unfolding escape_at
  spelled_escape _ v _ rest (control {c} h) = ap (λ o. escape_after (is_unicode e.mode) o c rest) h
  spelled_escape _ v _ rest (letter {c} h) = ap (escape_if kinds.ControlLetter 2) h
  spelled_escape _ _ _ rest (null h) = ap (λ b. cond b nothing (escaped kinds.Null 0 1)) h
  spelled_escape _ v _ rest (hexadecimal {a} {b} h) = ap (escape_if kinds.HexadecimalEscape 3) h
  spelled_escape _ v w rest (unicode s) =
      let u = begins_with_u s in
      ap (λ w. escape_at (is_unicode e.mode) (w ++ rest)) u.1
      ∙ ap (λ w. unicode_read (decoding_of (is_unicode e.mode) (w ++ rest))) (sym u.1)
      ∙ ap unicode_read (spelled_read (is_unicode e.mode) v w rest s)
  spelled_escape _ _ _ rest (identity {c} u h) =
      let o = others c h in
      ap (λ x. escape_after (is_unicode e.mode) x c rest) o.no_control
      ∙ cond-false _ _ _ o.no_c ∙ cond-false _ _ _ o.no_zero ∙ cond-false _ _ _ o.no_x ∙ cond-false _ _ _ o.no_u
      ∙ cond-true _ _ _ (and_from (is_unicode e.mode) (is_identity_escape c) u h)

  -- an escape that stands at the front
  pub record EscapeFront (kind : CharacterKind) (v n : ℕ) (w : List ℕ) : Type 0 where
    pub spelled : List ℕ
    pub rest : List ℕ
    pub spells : SpellsEscape e kind v spelled rest
    pub whole : w ≡ spelled ++ rest
    pub count : length spelled ≡ n

  front_of : {k kind : CharacterKind} {x v m n : ℕ} (w rest : List ℕ) → SpellsEscape e k x w rest → length w ≡ m → escaped k x m ≡ escaped kind v n → EscapeFront kind v n (w ++ rest)
  front_of {k} {kind} {x} {v} {m} {n} w rest s l h =
      let same : k ≡ kind = cc h in
      let equal : x ≡ v = cc h in
      record {
        spelled = w;
        rest = rest;
        spells = subst (λ k. SpellsEscape e k v w rest) same (subst (λ x. SpellsEscape e k x w rest) equal s);
        whole = refl;
        count = l ∙ (let f : m ≡ n = cc h in f);
      }

  value_there : {k kind : CharacterKind} {v m n : ℕ} (o : Option ℕ) → escape_if k m o ≡ escaped kind v n → (x : ℕ) × (o ≡ Some x) × (escaped k x m ≡ escaped kind v n)
  value_there None h = absurd (let f : ⊥ = cc h in f)
  value_there (Some x) h = (x, refl, h)

  letter_found : (kind : CharacterKind) (v n : ℕ) (w : List ℕ) → escape_if kinds.ControlLetter 2 (letter_at w) ≡ escaped kind v n → EscapeFront kind v n (99 ∷ w)
  letter_found kind v n [] h = absurd (let f : ⊥ = cc h in f)
  letter_found kind v n (c ∷ w) h = let x = value_there (control_letter_value c) h in front_of (99 ∷ c ∷ []) w (letter x.1) refl x.2

  two_found : (kind : CharacterKind) (v n : ℕ) (w : List ℕ) → escape_if kinds.HexadecimalEscape 3 (two_at w) ≡ escaped kind v n → EscapeFront kind v n (120 ∷ w)
  two_found kind v n [] h = absurd (let f : ⊥ = cc h in f)
  two_found kind v n (a ∷ []) h = absurd (let f : ⊥ = cc h in f)
  two_found kind v n (a ∷ b ∷ w) h = let x = value_there (hex_number (a ∷ b ∷ [])) h in front_of (120 ∷ a ∷ b ∷ []) w (hexadecimal x.1) refl x.2

  unicode_found : (kind : CharacterKind) (v n : ℕ) (w : List ℕ) (d : Decoded) → decoding_of (is_unicode e.mode) w ≡ d → unicode_read d ≡ escaped kind v n → EscapeFront kind v n w
  unicode_found kind v n w (value x m) f h =
      let d = read_spelled (is_unicode e.mode) w x m f in
      rw d.whole (front_of d.spelled d.rest (unicode d.spells) d.count h)
  unicode_found kind v n w (overflow m) f h = absurd (let k : ⊥ = cc h in k)
  unicode_found kind v n w invalid f h = absurd (let k : ⊥ = cc h in k)

  null_found : (kind : CharacterKind) (v n : ℕ) (w : List ℕ) → cond (front_is is_decimal_digit w) nothing (escaped kinds.Null 0 1) ≡ escaped kind v n → EscapeFront kind v n (48 ∷ w)
  null_found kind v n w h = elim (chosen (front_is is_decimal_digit w) h) [
    | inl p ↦ absurd (let k : ⊥ = cc p.1 in k)
    | inr p ↦ front_of (48 ∷ []) w (null p.0) refl p.1
  ]

  identity_found : (kind : CharacterKind) (v n c : ℕ) (w : List ℕ) → cond (is_unicode e.mode && is_identity_escape c) (escaped kinds.Identifier c 1) nothing ≡ escaped kind v n → EscapeFront kind v n (c ∷ w)
  identity_found kind v n c w h = elim (chosen (is_unicode e.mode && is_identity_escape c) h) [
    | inl p ↦ let b = both (is_unicode e.mode) (is_identity_escape c) p.0 in front_of (c ∷ []) w (identity b.0 b.1) refl p.1
    | inr p ↦ absurd (let k : ⊥ = cc p.1 in k)
  ]

  after_found : (kind : CharacterKind) (v n c : ℕ) (w : List ℕ) (o : Option ℕ) → control_escape_value c ≡ o → escape_after (is_unicode e.mode) o c w ≡ escaped kind v n → EscapeFront kind v n (c ∷ w)
  after_found kind v n c w (Some x) f h = front_of (c ∷ []) w (control f) refl h
  after_found kind v n c w None f h = elim (chosen (c == 99) h) [
    | inl p ↦ rw (eqb-true c 99 p.0) (letter_found kind v n w p.1)
    | inr p ↦ elim (chosen (c == 48) p.1) [
      | inl q ↦ rw (eqb-true c 48 q.0) (null_found kind v n w q.1)
      | inr q ↦ elim (chosen (c == 120) q.1) [
        | inl r ↦ rw (eqb-true c 120 r.0) (two_found kind v n w r.1)
        | inr r ↦ elim (chosen (c == 117) r.1) [
          | inl s ↦ unicode_found kind v n (c ∷ w) (decoding_of (is_unicode e.mode) (c ∷ w)) refl s.1
          | inr s ↦ identity_found kind v n c w s.1
        ]
      ]
    ]
  ]

  -- read → spelled
  pub escape_spelled : (kind : CharacterKind) (v n : ℕ) (w : List ℕ) → escape_at (is_unicode e.mode) w ≡ escaped kind v n → EscapeFront kind v n w
  unfolding escape_at
  escape_spelled kind v n [] h = absurd (let k : ⊥ = cc h in k)
  escape_spelled kind v n (c ∷ w) h = after_found kind v n c w (control_escape_value c) refl h

  pub spelled_small : (kind : CharacterKind) (v : ℕ) (w rest : List ℕ) → SpellsEscape e kind v w rest → v ≤ 0x10FFFF
  spelled_small _ v _ rest (control {c} h) = grind (arith, nat_tests)
  spelled_small _ v _ rest (letter {c} h) = letter_small c v h
  spelled_small _ _ _ rest (null h) = omega arith
  spelled_small _ v _ rest (hexadecimal {a} {b} h) = omega (arith, two_small a b v h)
  spelled_small _ v w rest (unicode s) = value_is_code_point (is_unicode e.mode) (w ++ rest) v (length w) (spelled_read (is_unicode e.mode) v w rest s)
  spelled_small _ _ _ rest (identity {c} u h) = grind (arith, nat_tests)

  -- An escape has one character at least.
  pub escape_some : (kind : CharacterKind) (v : ℕ) (w rest : List ℕ) → SpellsEscape e kind v w rest → 0 < length w
  escape_some _ v _ rest (control h) = omega arith
  escape_some _ v _ rest (letter h) = omega arith
  escape_some _ _ _ rest (null h) = omega arith
  escape_some _ v _ rest (hexadecimal h) = omega arith
  escape_some _ v w rest (unicode s) = decoded_some (is_unicode e.mode) (w ++ rest) v (length w) (spelled_read (is_unicode e.mode) v w rest s)
  escape_some _ _ _ rest (identity u h) = omega arith

  pub escape_small : (kind : CharacterKind) (v n : ℕ) (w : List ℕ) → escape_at (is_unicode e.mode) w ≡ escaped kind v n → v ≤ 0x10FFFF
  escape_small kind v n w h = let f = escape_spelled kind v n w h in spelled_small kind v f.spelled f.rest f.spells

  pub escape_positive : (kind : CharacterKind) (v n : ℕ) (w : List ℕ) → escape_at (is_unicode e.mode) w ≡ escaped kind v n → 0 < n
  escape_positive kind v n w h = let f = escape_spelled kind v n w h in omega (arith, f.count, escape_some kind v f.spelled f.rest f.spells)

-- whether it is a character or nothing
abbrev is_plain : EscapeRead → Bool
is_plain (escaped k v n) = true
is_plain nothing = true
is_plain q = false

plain_if : (k : CharacterKind) (n : ℕ) (o : Option ℕ) → is_plain (escape_if k n o) ≡ true
plain_if k n None = refl
plain_if k n (Some v) = refl

plain_or : (b : Bool) (k : CharacterKind) (v n : ℕ) → is_plain (cond b (escaped k v n) nothing) ≡ true
plain_or true k v n = refl
plain_or false k v n = refl

plain_null : (b : Bool) → is_plain (cond b nothing (escaped kinds.Null 0 1)) ≡ true
plain_null true = refl
plain_null false = refl

plain_after : (u : Bool) (c : ℕ) (w : List ℕ) (o : Option ℕ) → (c == 117) ≡ false → is_plain (escape_after u o c w) ≡ true
plain_after u c w (Some v) h = refl
plain_after u c w None h =
    cond_both (c == 99) _ _ (λ r. is_plain r ≡ true) (λ _. plain_if kinds.ControlLetter 2 (letter_at w)) (λ _.
    cond_both (c == 48) _ _ (λ r. is_plain r ≡ true) (λ _. plain_null (front_is is_decimal_digit w)) (λ _.
    cond_both (c == 120) _ _ (λ r. is_plain r ≡ true) (λ _. plain_if kinds.HexadecimalEscape 3 (two_at w)) (λ _.
    ap is_plain (cond-false (c == 117) _ _ h) ∙ plain_or (u && is_identity_escape c) kinds.Identifier c 1)))

-- at `u` a unicode escape is read, and elsewhere a character or nothing
escape_ways : (u : Bool) (w : List ℕ) →
    ((t : List ℕ) × (w ≡ 117 ∷ t) × (escape_at u w ≡ unicode_read (decoding_of u w))) ⊎ ((front_is (λ c. c == 117) w ≡ false) × (is_plain (escape_at u w) ≡ true))
unfolding escape_at
escape_ways u [] = inr (refl, refl)
escape_ways u (c ∷ w) = elim (cases_Bool (c == 117)) [
  | inl h ↦ inl (w, ap (λ c. c ∷ w) (eqb-true c 117 h), rw (eqb-true c 117 h) refl)
  | inr h ↦ inr (h, plain_after u c w (control_escape_value c) h)
]

read_something : (d : Decoded) → unicode_read d ≡ nothing → ⊥
read_something (value v n) h = cc h
read_something invalid h = cc h
read_something (overflow n) h = cc h

pub escape_nothing : (w : List ℕ) → escape_at true w ≡ nothing → front_is (λ c. c == 117) w ≡ false
escape_nothing w h = elim (escape_ways true w) [
  | inl p ↦ absurd (read_something (decoding_of true w) (sym p.2 ∙ h))
  | inr p ↦ p.0
]

overflow_there : (d : Decoded) (n : ℕ) → unicode_read d ≡ too_many n → d ≡ overflow n
overflow_there (value v m) n h = absurd (let k : ⊥ = cc h in k)
overflow_there invalid n h = absurd (let k : ⊥ = cc h in k)
overflow_there (overflow m) n h = ap overflow (let k : m ≡ n = cc h in k)

-- Only a unicode escape passes the limit.
pub too_many_decoded : (u : Bool) (w : List ℕ) (n : ℕ) → escape_at u w ≡ too_many n → decoding_of u w ≡ overflow n
too_many_decoded u w n h = elim (escape_ways u w) [
  | inl p ↦ overflow_there (decoding_of u w) n (sym p.2 ∙ h)
  | inr p ↦ absurd (let k : ⊥ = cc (ap is_plain h, p.1) in k)
]

pub escape_too_many : (w : List ℕ) (n : ℕ) → escape_at true w ≡ too_many n → PassesHex w n
escape_too_many w n h = (read_overflow true w n (too_many_decoded true w n h)).1

-- With neither `u` nor `v` no digits pass a limit.
pub escape_no_limit : (w : List ℕ) (n : ℕ) → escape_at false w ≡ too_many n → ⊥
escape_no_limit w n h = let k = (read_overflow false w n (too_many_decoded false w n h)).0 in cc k

invalid_there : (d : Decoded) → unicode_read d ≡ no_unicode → d ≡ invalid
invalid_there (value v m) h = absurd (let k : ⊥ = cc h in k)
invalid_there invalid h = refl
invalid_there (overflow m) h = absurd (let k : ⊥ = cc h in k)

-- `u` stands at the front, and no unicode escape
pub record NoUnicode (w : List ℕ) : Type 0 where
  pub following : List ℕ
  pub whole : w ≡ 117 ∷ following
  pub no_value : (v n : ℕ) → Decodes true w v n → ⊥
  pub no_limit : (count : ℕ) → PassesHex w count → ⊥

no_unicode_there : (w t : List ℕ) → w ≡ 117 ∷ t → decoding_of true w ≡ invalid → NoUnicode w
no_unicode_there w t e h = record {
  following = t;
  whole = e;
  no_value = λ v n d. let f = (value_law true w v n).1 d in let k : ⊥ = cc (f, h) in k;
  no_limit = λ count p. let f = overflow_read w count p in let k : ⊥ = cc (f, h) in k;
}

pub escape_no_unicode : (w : List ℕ) → escape_at true w ≡ no_unicode → NoUnicode w
escape_no_unicode w h = elim (escape_ways true w) [
  | inl p ↦ no_unicode_there w p.0 p.1 (invalid_there (decoding_of true w) (sym p.2 ∙ h))
  | inr p ↦ absurd (let k : ⊥ = cc (ap is_plain h, p.1) in k)
]

-- Digits that pass the limit are read so.
pub too_many_escape : (w : List ℕ) (n : ℕ) → PassesHex w n → escape_at true w ≡ too_many n
too_many_escape w n p = elim (escape_ways true w) [
  | inl q ↦ q.2 ∙ ap unicode_read (overflow_read w n p)
  | inr q ↦ absurd (let k : ⊥ = cc (ap (front_is (λ c. c == 117)) p.whole, q.0) in k)
]
