-- The canonical text of known tokens is a row of them, but for the kinds of characters.
use Rattle.std.proofs.Common.{◌≡◌, ◌≢◌, ℕ, suc, zero, ◌+◌, ◌*◌, ◌-◌, ◌/◌, ◌%◌, ◌<◌, ◌≤◌, Bool, true, false, not, ◌==◌, ◌&&◌, ◌||◌, nat_lt, cond, Some, None, option_and_then, List, [], ◌∷◌, ◌++◌, refl, sym, ap, ◌∙◌, subst, arith, inl, inr}
use Rattle.std.specs.Char.{digit_value, len_utf8}
use Rattle.std.specs.Int.{IsInRange}
use Rattle.std.specs.Str.Parse.{AllDigits, digits_value_after}
use Rattle.std.proofs.lemmas.Bool.{cond_both, cond-true, true≢false}
use Rattle.std.proofs.lemmas.Bool.Decides.{nat_tests}
use Rattle.std.proofs.lemmas.Option.{option_and_then_some}
use Rattle.std.proofs.lemmas.Str.{digit_value_digit}
use Rattle.std.proofs.lemmas.Str.Parse.{digit_from_value}
use Rattle.rx_base.specs.Characters.{is_surrogate, is_within}
use Rattle.rx_base.specs.SurrogatePair.{IsLeadSurrogate}
use Rattle.rx_ast.specs.declared.leaf.CharacterKind.{CharacterKind}
use Rattle.rx_ast.specs.declared.leaf.CharacterKind.TheVariants as kinds
use Rattle.rx_tables.specs.Characters.{is_syntax_character, is_decimal_digit, hex_digit, hex_digit_value, control_escape_value}
use Rattle.rx_tables.proofs.Digits.{hex_digit_value-hex_digit}
use Rattle.rx_units.specs.declared.code_point.EscapeKind.TheVariants as escape
use Rattle.rx_units.specs.declared.code_point.CodePoint.{CodePoint}
use Rattle.rx_units.specs.Units.{unit, literal_units, values}
use Rattle.rx_units.specs.Digits.{hex_after, hex_number}
use Rattle.rx_units.proofs.Choices.{both}
use Rattle.rx_model.specs.declared.mode.Mode.{Mode}
use Rattle.rx_model.specs.declared.mode.Mode.TheVariants.{Legacy, Unicode, Sets}
use Rattle.rx_model.specs.Spelling.CharacterText.{control_letter, two_digits, four_digits, hex, in_braces_text, surrogate_text, greatest_raw, outside, character_text}
use Rattle.rx_model.specs.Inputs.Environment.{Environment, is_unicode}
use Rattle.rx_model.specs.Characters.Escapes.{SpellsEscape, control, hexadecimal, unicode, identity}
use Rattle.rx_model.specs.Characters.LegacyEscapes as legacy
use Rattle.rx_model.specs.Characters.LegacyEscapes.{IsIdentity}
use Rattle.rx_model.specs.Quantifiers.Quantifiers.{BeginsWithBraces, decimal_digit_value, decimal_after, AreDigits}
use Rattle.rx_model.specs.Reading.Rows.{Spells, is_legacy_syntax, stands_raw}
use Rattle.rx_model.specs.Trees.Token.{character}
use Rattle.rx_model.specs.Characters.UnicodeEscapes.{SpellsUnicode, code_unit, alone}
use Rattle.rx_model.specs.Characters.UnicodeEscapes as in_escape
use Rattle.rx_model.proofs.Characters.Choices.{choose_both}
use Rattle.rx_model.proofs.Spelling.SomeTexts.{some_after}
use Rattle.rx_model.proofs.Quantifiers.BlockedCounts.{brace_first}

pub values_literal : (at : ℕ) (text : List ℕ) → values (literal_units true at text) ≡ text
values_literal at [] = refl
values_literal at (c ∷ text) = ap (λ rest. c ∷ rest) (values_literal (at + len_utf8 c) text)

-- The units of two texts, one after the other.
pub units-append : (at : ℕ) (u v : List ℕ) → (between : ℕ) × (literal_units true at (u ++ v) ≡ literal_units true at u ++ literal_units true between v)
units-append at [] v = (at, refl)
units-append at (c ∷ u) v =
    let h = units-append (at + len_utf8 c) u v in
    (h.0, ap (λ rest. unit at (at + len_utf8 c) c escape.None ∷ rest) h.1)

-- one more digit
hex_push : (m : ℕ) (xs : List ℕ) (v d : ℕ) → hex_after m xs ≡ Some v → d < 16 → hex_after m (xs ++ (hex_digit d ∷ [])) ≡ Some (16 * v + d)
hex_push m [] v d h small = let same : m ≡ v = cc h in rw (hex_digit_value-hex_digit d small, same) refl
hex_push m (x ∷ xs) v d h small =
    option_and_then_some (λ i. hex_after (16 * m + i) xs) (hex_digit_value x) v h (λ i at_x rest.
    ap (option_and_then (λ i. hex_after (16 * m + i) (xs ++ (hex_digit d ∷ [])))) at_x ∙ hex_push (16 * m + i) xs v d rest small)

-- the first number with more than n hexadecimal digits
abbrev hex_bound : ℕ → ℕ
hex_bound zero = 1
hex_bound (suc k) = 16 * hex_bound k

hex_last : (n m : ℕ) (xs : List ℕ) → hex_number xs ≡ Some m → 16 * m + n % 16 ≡ n → hex_number (xs ++ (hex_digit (n % 16) ∷ [])) ≡ Some n
hex_last n m xs h e = hex_push 0 xs m (n % 16) h (omega arith) ∙ ap Some e

pub hex_read : (k n : ℕ) → n < hex_bound k → hex_number (hex k n) ≡ Some n
hex_read zero n h = ap Some (omega (arith, h))
hex_read (suc k) n h =
    cond_both (nat_lt n 16) [] (hex k (n / 16)) (λ text. hex_number (text ++ (hex_digit (n % 16) ∷ [])) ≡ Some n)
    (λ small. hex_last n 0 [] refl (let s : n < 16 = grind (arith, nat_tests) in omega (arith, s)))
    (λ _. hex_last n (n / 16) (hex k (n / 16)) (hex_read k (n / 16) (omega (arith, h))) (omega arith))

pub braced_from : (v : ℕ) (ds rest : List ℕ) → ds ≢ [] → hex_number ds ≡ Some v → v ≤ 0x10FFFF → SpellsUnicode true v (117 ∷ 123 ∷ (ds ++ (125 ∷ []))) rest
braced_from v [] rest some h low = absurd (some refl)
braced_from v (x ∷ xs) rest some h low = in_escape.braced x xs h low

pub two_read : (c : ℕ) → c < 256 → hex_number (hex_digit (c / 16 % 16) ∷ hex_digit (c % 16) ∷ []) ≡ Some c
two_read c h =
    hex_push 0 (hex_digit (c / 16 % 16) ∷ []) (c / 16) (c % 16)
    (hex_push 0 [] 0 (c / 16 % 16) refl (omega arith) ∙ ap Some (omega (arith, h))) (omega arith)
    ∙ ap Some (omega arith)

pub two_small : (c : ℕ) → (nat_lt c 32 || is_within 127 159 c) ≡ true → c < 256
two_small c h = grind (arith, nat_tests)

pub control_read : (c : ℕ) → is_within 9 13 c ≡ true → control_escape_value (control_letter c) ≡ Some c
control_read c h = grind (arith, nat_tests)

pub not_lead : (c : ℕ) → (c == 0x2028 || c == 0x2029) ≡ true → IsLeadSurrogate c → ⊥
not_lead c h l = grind (arith, nat_tests, l)

pub four_read : (c : ℕ) → (c == 0x2028 || c == 0x2029) ≡ true → hex_number (hex_digit (c / 4096 % 16) ∷ hex_digit (c / 256 % 16) ∷ hex_digit (c / 16 % 16) ∷ hex_digit (c % 16) ∷ []) ≡ Some c
four_read c h =
    let low : c < 65536 = grind (arith, nat_tests) in
    hex_push 0 (hex_digit (c / 4096 % 16) ∷ hex_digit (c / 256 % 16) ∷ hex_digit (c / 16 % 16) ∷ []) (c / 16) (c % 16)
    (hex_push 0 (hex_digit (c / 4096 % 16) ∷ hex_digit (c / 256 % 16) ∷ []) (c / 256) (c / 16 % 16)
    (hex_push 0 (hex_digit (c / 4096 % 16) ∷ []) (c / 4096) (c / 256 % 16)
    (hex_push 0 [] 0 (c / 4096 % 16) refl (omega arith) ∙ ap Some (omega (arith, low))) (omega arith) ∙ ap Some (omega arith)) (omega arith) ∙ ap Some (omega arith)) (omega arith)
    ∙ ap Some (omega arith)

-- `3` and a decimal digit are the hexadecimal digits of that digit's own value
digit_read : (c : ℕ) → is_decimal_digit c ≡ true → hex_number (51 ∷ c ∷ []) ≡ Some c
digit_read c h =
    let low : 48 ≤ c = grind (arith, nat_tests) in
    ap (option_and_then (λ d. hex_after (48 + d) [])) (cond-true (is_decimal_digit c) (Some (c - 48)) _ h) ∙ ap Some (omega (arith, low))

first_false : (a b : Bool) → (a || b) ≡ false → not a ≡ true
first_false true b h = absurd (let k : ⊥ = cc h in k)
first_false false b h = refl

-- the kind that the canonical spelling gives a character outside classes, by its value; the flag says whether an unquantified indexed reference stands right before
unfoldable pub spelled_kind : Mode → Bool → ℕ → CharacterKind
spelled_kind mode after_reference c =
    cond (is_within 9 13 c) kinds.SingleEscape
    (cond (nat_lt c 32 || is_within 127 159 c) kinds.HexadecimalEscape
    (cond (c == 0x2028 || c == 0x2029) kinds.UnicodeEscape
    (cond (is_surrogate c) kinds.UnicodeEscape
    (cond (nat_lt (greatest_raw mode) c) kinds.UnicodeEscape
    (cond (is_syntax_character c || c == 47) kinds.Identifier
    (cond (after_reference && is_decimal_digit c) kinds.HexadecimalEscape kinds.Symbol))))))

raw_legacy : (c : ℕ) → (is_syntax_character c || c == 47) ≡ false → is_legacy_syntax c ≡ false
raw_legacy c h = grind (arith, nat_tests)

raw_allowed : (mode : Mode) (c : ℕ) → (is_syntax_character c || c == 47) ≡ false → stands_raw mode c ≡ true
raw_allowed Legacy c h = ap not (raw_legacy c h)
raw_allowed mode c h = first_false (is_syntax_character c) (c == 47) h

only_brace : (c : ℕ) (w : List ℕ) → (is_syntax_character c || c == 47) ≡ false → BeginsWithBraces (c ∷ w) → ⊥
only_brace c w h b =
    let f = brace_first b.min b.max b.prefix b.spelled in
    let whole : c ∷ w ≡ 123 ∷ (f.0 ++ b.rest) = b.whole ∙ ap (λ v. v ++ b.rest) f.1 in
    let same : c ≡ 123 = cc whole in
    true≢false (ap (λ c. is_syntax_character c || c == 47) (sym same) ∙ h)

pub four_any : (c : ℕ) → c ≤ 0xFFFF → hex_number (hex_digit (c / 4096 % 16) ∷ hex_digit (c / 256 % 16) ∷ hex_digit (c / 16 % 16) ∷ hex_digit (c % 16) ∷ []) ≡ Some c
four_any c low =
    hex_push 0 (hex_digit (c / 4096 % 16) ∷ hex_digit (c / 256 % 16) ∷ hex_digit (c / 16 % 16) ∷ []) (c / 16) (c % 16)
    (hex_push 0 (hex_digit (c / 4096 % 16) ∷ hex_digit (c / 256 % 16) ∷ []) (c / 256) (c / 16 % 16)
    (hex_push 0 (hex_digit (c / 4096 % 16) ∷ []) (c / 4096) (c / 256 % 16)
    (hex_push 0 [] 0 (c / 4096 % 16) refl (omega arith) ∙ ap Some (omega (arith, low))) (omega arith) ∙ ap Some (omega arith)) (omega arith) ∙ ap Some (omega arith)) (omega arith)
    ∙ ap Some (omega arith)

-- what the text of a unicode escape spells, by the mode
pub four_text : (mode : Mode) (c : ℕ) (rest : List ℕ) → (c == 0x2028 || c == 0x2029) ≡ true →
    SpellsUnicode (is_unicode mode) c (117 ∷ hex_digit (c / 4096 % 16) ∷ hex_digit (c / 256 % 16) ∷ hex_digit (c / 16 % 16) ∷ hex_digit (c % 16) ∷ []) rest
four_text Legacy c rest h = code_unit (four_read c h)
four_text mode c rest h = alone (four_read c h) (λ lead _. not_lead c h lead)

pub too_great : (mode : Mode) (c : ℕ) → c ≤ 0x10FFFF → (mode ≡ Legacy → c ≤ 0xFFFF) → nat_lt (greatest_raw mode) c ≡ true → ⊥
too_great Legacy c low fits h = let k = fits refl in grind (arith, nat_tests)
too_great mode c low fits h = grind (arith, nat_tests)

-- an escaped character that is a SyntaxCharacter or `/`
pub syntax_identity : (inside : Bool) (e : Environment) (c : ℕ) (rest : List ℕ) → (is_syntax_character c || c == 47) ≡ true → IsIdentity inside e c rest
syntax_identity inside e c rest h = record {
  no_letter = grind (arith, nat_tests);
  no_octal = grind (arith, nat_tests);
  no_k = grind (arith, nat_tests);
  no_boundary = grind (arith, nat_tests);
  no_reference = grind (arith, nat_tests);
  no_x = grind (arith, nat_tests);
  no_u = grind (arith, nat_tests);
}

module _ (e : Environment) (mode : Mode) (m : e.mode ≡ mode) where
  -- The text spells a character of this kind before anything.
  abbrev SpellsCharacter : ℕ → CharacterKind → List ℕ → Type 0
  SpellsCharacter c kind text = (at : ℕ) (more : List CodePoint) → Spells e (character kind c) (literal_units true at text) more

  backslash : (c : ℕ) (kind : CharacterKind) (text : List ℕ) → ((rest : List ℕ) → SpellsEscape e kind c text rest) → SpellsCharacter c kind (92 ∷ text)
  backslash c kind text s at more =
      inr (inl (record {
        backslash = unit at (at + len_utf8 92) 92 escape.None;
        following = literal_units true (at + len_utf8 92) text;
        whole = refl;
        backslash_is = refl;
        spelled = subst (λ w. SpellsEscape e kind c w (values more)) (sym (values_literal (at + len_utf8 92) text)) (s (values more));
      }))

  unicode_escape : (c : ℕ) (text : List ℕ) → ((rest : List ℕ) → SpellsUnicode (is_unicode mode) c text rest) → SpellsCharacter c kinds.UnicodeEscape (92 ∷ text)
  unicode_escape c text s = backslash c kinds.UnicodeEscape text (λ rest. unicode (subst (λ mode. SpellsUnicode (is_unicode mode) c text rest) (sym m) (s rest)))

  raw_spelled : (c : ℕ) → (is_syntax_character c || c == 47) ≡ false → SpellsCharacter c kinds.Symbol (c ∷ [])
  raw_spelled c h at more =
      inl (record {
        unit = unit at (at + len_utf8 c) c escape.None;
        alone = refl;
        kind_is = refl;
        value_is = refl;
        allowed = raw_allowed e.mode c h;
        no_quantifier = λ _ b. only_brace c (values more) h b;
      })

  two_spelled : (c : ℕ) → c < 256 → SpellsCharacter c kinds.HexadecimalEscape (two_digits c)
  unfolding two_digits
  two_spelled c h = backslash c kinds.HexadecimalEscape (120 ∷ hex_digit (c / 16 % 16) ∷ hex_digit (c % 16) ∷ []) (λ rest. hexadecimal (two_read c h))

  four_spelled : (c : ℕ) → (c == 0x2028 || c == 0x2029) ≡ true → SpellsCharacter c kinds.UnicodeEscape (four_digits c)
  unfolding four_digits
  four_spelled c h =
      unicode_escape c (117 ∷ hex_digit (c / 4096 % 16) ∷ hex_digit (c / 256 % 16) ∷ hex_digit (c / 16 % 16) ∷ hex_digit (c % 16) ∷ []) (λ rest. four_text mode c rest h)

  identity_spelled : (md : Mode) → e.mode ≡ md → (c : ℕ) → (is_syntax_character c || c == 47) ≡ true → SpellsCharacter c kinds.Identifier (92 ∷ c ∷ [])
  identity_spelled Legacy l c h at more =
      inr (inr (record {
        backslash = unit at (at + len_utf8 92) 92 escape.None;
        following = literal_units true (at + len_utf8 92) (c ∷ []);
        whole = refl;
        backslash_is = refl;
        legacy = ap is_unicode l;
        spelled = legacy.identity (syntax_identity false e c (values more) h);
      }))
  identity_spelled Unicode l c h at more = backslash c kinds.Identifier (c ∷ []) (λ rest. identity (ap is_unicode l) h) at more
  identity_spelled Sets l c h at more = backslash c kinds.Identifier (c ∷ []) (λ rest. identity (ap is_unicode l) h) at more

  braced_spelled : {md : Mode} → mode ≡ md → is_unicode md ≡ true → (c : ℕ) → c ≤ 0x10FFFF → SpellsCharacter c kinds.UnicodeEscape (in_braces_text c)
  unfolding in_braces_text
  braced_spelled l u c low =
      unicode_escape c (117 ∷ 123 ∷ (hex 8 c ++ (125 ∷ [])))
      (λ rest. subst (λ b. SpellsUnicode b c (117 ∷ 123 ∷ (hex 8 c ++ (125 ∷ []))) rest) (sym (ap is_unicode l ∙ u))
      (braced_from c (hex 8 c) rest (some_after (cond (nat_lt c 16) [] (hex 7 (c / 16))) (hex_digit (c % 16)) []) (hex_read 8 c (omega (arith, low))) low))

  surrogate_spelled : (md : Mode) → mode ≡ md → (c : ℕ) → c ≤ 0x10FFFF → is_surrogate c ≡ true → SpellsCharacter c kinds.UnicodeEscape (surrogate_text md c)
  unfolding four_digits
  surrogate_spelled Legacy l c low h =
      unicode_escape c (117 ∷ hex_digit (c / 4096 % 16) ∷ hex_digit (c / 256 % 16) ∷ hex_digit (c / 16 % 16) ∷ hex_digit (c % 16) ∷ [])
      (λ rest. subst (λ mode. SpellsUnicode (is_unicode mode) c (117 ∷ hex_digit (c / 4096 % 16) ∷ hex_digit (c / 256 % 16) ∷ hex_digit (c / 16 % 16) ∷ hex_digit (c % 16) ∷ []) rest) (sym l)
      (code_unit (four_any c (let k : c ≤ 0xFFFF = grind (arith, nat_tests) in k))))
  surrogate_spelled Unicode l c low h = braced_spelled l refl c low
  surrogate_spelled Sets l c low h = braced_spelled l refl c low

  pub character_spelled : (after_reference : Bool) (c : ℕ) → c ≤ 0x10FFFF → (mode ≡ Legacy → c ≤ 0xFFFF) →
      SpellsCharacter c (spelled_kind mode after_reference c) (character_text mode (outside after_reference) c)
  unfolding spelled_kind character_text
  character_spelled after_reference c low fits =
      let P : CharacterKind → List ℕ → Type 0 = SpellsCharacter c in
      choose_both P (is_within 9 13 c) _ _ _ _ (λ within. backslash c kinds.SingleEscape (control_letter c ∷ []) (λ rest. control (control_read c within)))
      (λ _. choose_both P (nat_lt c 32 || is_within 127 159 c) _ _ _ _ (λ small. two_spelled c (two_small c small))
      (λ _. choose_both P (c == 0x2028 || c == 0x2029) _ _ _ _ (λ separator. four_spelled c separator)
      (λ _. choose_both P (is_surrogate c) _ _ _ _ (λ surrogate. surrogate_spelled mode refl c low surrogate)
      (λ _. choose_both P (nat_lt (greatest_raw mode) c) _ _ _ _ (λ great. absurd (too_great mode c low fits great))
      (λ _. choose_both P (is_syntax_character c || c == 47) _ _ _ _ (λ syntax. identity_spelled e.mode refl c syntax)
      (λ raw. choose_both P (after_reference && is_decimal_digit c) _ _ _ _
      (λ digit. backslash c kinds.HexadecimalEscape (120 ∷ 51 ∷ c ∷ []) (λ rest. hexadecimal (digit_read c (both after_reference (is_decimal_digit c) digit).1)))
      (λ _. raw_spelled c raw)))))))

digit_there : (c : ℕ) → digit_value c < 10 → decimal_digit_value c ≡ Some (digit_value c)
digit_there c h =
    let r : IsInRange 48 57 c = digit_from_value c h in
    let v : digit_value c + 48 ≡ c = digit_value_digit c r in
    cond-true (is_decimal_digit c) (Some (c - 48)) None (grind (arith, nat_tests, r)) ∙ ap Some (omega (arith, v))

digits_read_back : (n : ℕ) (ds : List ℕ) → AllDigits 10 ds → decimal_after n ds ≡ Some (digits_value_after 10 n ds)
digits_read_back n [] h = refl
digits_read_back n (d ∷ ds) h =
    ap (option_and_then (λ i. decimal_after (10 * n + i) ds)) (digit_there d h.0)
    ∙ ap (λ k. decimal_after k ds) (omega arith) ∙ digits_read_back (n * 10 + digit_value d) ds h.1

pub are_digits : (n : ℕ) (ds : List ℕ) → AllDigits 10 ds → ds ≢ [] → digits_value_after 10 0 ds ≡ n → AreDigits n ds
are_digits n [] h some v = absurd (some refl)
are_digits n (d ∷ ds) h some v = record { first = d; more = ds; some = refl; number = digits_read_back 0 (d ∷ ds) h ∙ ap Some v }
