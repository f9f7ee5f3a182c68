-- What may be read of an escape after `x` and `u`, and of a digit after a backslash. What holds of each such answer holds of what is read.
use Rattle.std.proofs.Common.{◌≡◌, ℕ, ◌+◌, ◌*◌, ◌^◌, ◌==◌, ◌&&◌, ◌||◌, true, false, not, cond, List, [], ◌∷◌, Option, Some, None, nat_lt, nat_le}
use Rattle.rx_units.proofs.Common.{is_within, hex_digit_value, is_octal_digit, Writing, Element, written, EscapeRead, escaped, no_hex, no_unicode, passes, Front, element, nothing, front_digit, hex_pair, hex_at, digit_step, digits_at, unicode_after, octal_at, legacy_at, digit_after}
use Rattle.rx_units.proofs.Common.{digit_at, octal, either_way, cond_both, eqb-true, front_is, is_decimal_digit, is_line_terminator, is_open_brace, digit, four_at, line_after, escape_after, escape_at, closer, substitution, string_escape, string_front, template_escape, template_front, raw_line}
use Rattle.rx_units.specs.declared.quoted_text.element.Writing.TheVariants as writing
use Rattle.rx_units.specs.declared.string_literal_parser.LegacyKind.TheVariants as legacy_kind

module _ (P : EscapeRead → Type 0) (spelled : (v : ℕ) (k : Writing) (n : ℕ) → P (escaped v k n)) where
  pair_read : ((n : ℕ) → P (no_hex n)) → (o p : Option ℕ) → P (hex_pair o p)
  pair_read none None p = none 2
  pair_read none (Some i) None = none 3
  pair_read none (Some i) (Some j) = spelled (16 * i + j) writing.Hexadecimal 4

  pub hex_read : ((n : ℕ) → P (no_hex n)) → (w : List ℕ) → P (hex_at w)
  hex_read none [] = none 2
  hex_read none (a ∷ w) = pair_read none (hex_digit_value a) (front_digit w)

  module _ (none : (n : ℕ) → P (no_unicode n)) (large : (n : ℕ) → P (passes n)) where
    step_read : (o : Option ℕ) (n count x : ℕ) (xs : List ℕ) → ((m : ℕ) → P (digits_at m (count + 1) xs)) → P (digit_step o n count x (λ m. digits_at m (count + 1) xs))
    step_read (Some d) n count x xs again = either_way P (nat_lt (16 * n + d) (2 ^ 32)) (digits_at (16 * n + d) (count + 1) xs) (passes (count + 3)) (again (16 * n + d)) (large (count + 3))
    step_read None n count x xs again =
        either_way P ((x == 125) && (nat_lt 0 count && nat_le n 0x10FFFF)) (escaped n writing.Unicode (count + 4)) (no_unicode (count + 3)) (spelled n writing.Unicode (count + 4)) (none (count + 3))

    digits_read : (n count : ℕ) (w : List ℕ) → P (digits_at n count w)
    digits_read n count [] = none (count + 3)
    digits_read n count (x ∷ xs) = step_read (hex_digit_value x) n count x xs (λ m. digits_read m (count + 1) xs)

    pub unicode_read : (o : Option ℕ) (w : List ℕ) → P (unicode_after o w)
    unicode_read (Some v) w = spelled v writing.Unicode 6
    unicode_read None [] = none 2
    unicode_read None (x ∷ xs) = either_way P (x == 123) (digits_at 0 0 xs) (no_unicode 2) (digits_read 0 0 xs) (none 2)

module _ (P : Front → Type 0) (spelled : (e : Element) (n : ℕ) → P (element e n)) where
  octal_read : (c : ℕ) (w : List ℕ) → P (octal_at c w)
  octal_read c [] = spelled (written (octal c) (writing.Legacy legacy_kind.Octal)) 2
  octal_read c (d ∷ []) =
      let one = element (written (octal c) (writing.Legacy legacy_kind.Octal)) 2 in
      let two = element (written (8 * octal c + octal d) (writing.Legacy legacy_kind.Octal)) 3 in
      either_way P (is_octal_digit d) two one (spelled (written (8 * octal c + octal d) (writing.Legacy legacy_kind.Octal)) 3) (spelled (written (octal c) (writing.Legacy legacy_kind.Octal)) 2)
  octal_read c (d ∷ f ∷ w) =
      let one = element (written (octal c) (writing.Legacy legacy_kind.Octal)) 2 in
      let two = element (written (8 * octal c + octal d) (writing.Legacy legacy_kind.Octal)) 3 in
      let three = element (written (64 * octal c + 8 * octal d + octal f) (writing.Legacy legacy_kind.Octal)) 4 in
      either_way P (is_octal_digit d) (cond (is_within 48 51 c && is_octal_digit f) three two) one
      (either_way P (is_within 48 51 c && is_octal_digit f) three two (spelled (written (64 * octal c + 8 * octal d + octal f) (writing.Legacy legacy_kind.Octal)) 4) (spelled (written (8 * octal c + octal d) (writing.Legacy legacy_kind.Octal)) 3))
      (spelled (written (octal c) (writing.Legacy legacy_kind.Octal)) 2)

  -- in a string
  pub legacy_read : P (nothing 0) → (w : List ℕ) → P (legacy_at w)
  legacy_read none [] = none
  legacy_read none (c ∷ w) = either_way P (is_octal_digit c) (octal_at c w) (element (written c (writing.Legacy legacy_kind.NonOctalDecimal)) 2) (octal_read c w) (spelled (written c (writing.Legacy legacy_kind.NonOctalDecimal)) 2)

  -- in a template
  pub digit_after_read : (c : ℕ) (w : List ℕ) → P (digit_after c w)
  digit_after_read c [] = spelled (written c writing.NotEscape) 2
  digit_after_read c (d ∷ w) = either_way P (c == 48) (element (written d writing.NotEscape) 3) (element (written c writing.NotEscape) 2) (spelled (written d writing.NotEscape) 3) (spelled (written c writing.NotEscape) 2)

  pub digit_read : P (nothing 0) → (w : List ℕ) → P (digit_at w)
  digit_read none [] = none
  digit_read none (c ∷ w) = digit_after_read c w

-- What holds of each row holds of what is read: of an escape that is no SingleEscapeCharacter,
pub escape_rows : (P : EscapeRead → Type 0) (c : ℕ) (w : List ℕ) → ((c == 48 && not (front_is is_decimal_digit w)) ≡ true → P (escaped 0 writing.Plain 2))
    → (is_decimal_digit c ≡ true → (c == 48 && not (front_is is_decimal_digit w)) ≡ false → P digit)
    → (c ≡ 120 → P (hex_at w)) → (c ≡ 117 → P (unicode_after (four_at w) w)) → (is_line_terminator c ≡ true → P (line_after c w))
    → (is_decimal_digit c ≡ false → (c == 120) ≡ false → (c == 117) ≡ false → is_line_terminator c ≡ false → P (escaped c writing.Plain 2)) → P (escape_after None c w)
escape_rows P c w null number hex unicode line other =
    let last = cond (is_line_terminator c) (line_after c w) (escaped c writing.Plain 2) in
    let by_u = cond (c == 117) (unicode_after (four_at w) w) last in
    cond_both (is_decimal_digit c) (cond (c == 48 && not (front_is is_decimal_digit w)) (escaped 0 writing.Plain 2) digit) (cond (c == 120) (hex_at w) by_u) P
    (λ d. cond_both (c == 48 && not (front_is is_decimal_digit w)) (escaped 0 writing.Plain 2) digit P null (number d))
    (λ d. cond_both (c == 120) (hex_at w) by_u P (λ x. hex (eqb-true c 120 x))
    (λ x. cond_both (c == 117) (unicode_after (four_at w) w) last P (λ u. unicode (eqb-true c 117 u))
    (λ u. cond_both (is_line_terminator c) (line_after c w) (escaped c writing.Plain 2) P line (other d x u))))

-- of a string,
pub string_rows : (P : Front → Type 0) (quote c : ℕ) (w : List ℕ) → (c ≡ quote → P closer) → (c ≡ 92 → P (string_escape (escape_at w) w)) → ((c == 13 || c == 10) ≡ true → P (nothing 0))
    → ((c == quote) ≡ false → (c == 92) ≡ false → (c == 13 || c == 10) ≡ false → P (element (written c writing.Plain) 1)) → P (string_front quote (c ∷ w))
string_rows P quote c w closes backslash line other =
    let last = cond (c == 13 || c == 10) (nothing 0) (element (written c writing.Plain) 1) in
    cond_both (c == quote) closer (cond (c == 92) (string_escape (escape_at w) w) last) P (λ q. closes (eqb-true c quote q))
    (λ q. cond_both (c == 92) (string_escape (escape_at w) w) last P (λ b. backslash (eqb-true c 92 b))
    (λ b. cond_both (c == 13 || c == 10) (nothing 0) (element (written c writing.Plain) 1) P line (other q b)))

-- and of a template.
pub template_rows : (P : Front → Type 0) (c : ℕ) (w : List ℕ) → (c ≡ 96 → P closer) → (c ≡ 92 → P (template_escape (escape_at w) w))
    → (c ≡ 36 → front_is is_open_brace w ≡ true → P substitution) → (c ≡ 36 → front_is is_open_brace w ≡ false → P (element (written c writing.Plain) 1)) → (is_line_terminator c ≡ true → P (raw_line c w))
    → ((c == 96) ≡ false → (c == 92) ≡ false → (c == 36) ≡ false → is_line_terminator c ≡ false → P (element (written c writing.Plain) 1)) → P (template_front (c ∷ w))
template_rows P c w closes backslash hole dollar line other =
    let own = element (written c writing.Plain) 1 in
    let last = cond (is_line_terminator c) (raw_line c w) own in
    let by_dollar = cond (c == 36) (cond (front_is is_open_brace w) substitution own) last in
    cond_both (c == 96) closer (cond (c == 92) (template_escape (escape_at w) w) by_dollar) P (λ q. closes (eqb-true c 96 q))
    (λ q. cond_both (c == 92) (template_escape (escape_at w) w) by_dollar P (λ b. backslash (eqb-true c 92 b))
    (λ b. cond_both (c == 36) (cond (front_is is_open_brace w) substitution own) last P
    (λ d. let at = eqb-true c 36 d in cond_both (front_is is_open_brace w) substitution own P (hole at) (dollar at))
    (λ d. cond_both (is_line_terminator c) (raw_line c w) own P line (other q b d))))
