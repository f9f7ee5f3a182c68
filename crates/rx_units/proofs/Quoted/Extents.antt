-- What is read at a place lies within the text.
use Rattle.std.proofs.Common.{◌≡◌, ℕ, suc, ◌+◌, ◌*◌, ◌^◌, ◌<◌, ◌≤◌, ◌==◌, true, cond, not, ◌&&◌, ◌||◌, List, [], ◌∷◌, length, Option, Some, None, refl, subst, arith, nat_lt, nat_le}
use Rattle.rx_units.proofs.Common.{cond_both, hex_digit_value, is_decimal_digit, is_line_terminator, Literal, Stop, is_line_feed, single_escape_value, written, is_open_brace, seen_front, EscapeRead, escaped, digit, unended, no_hex, no_unicode, passes, Front, element, closer, nothing}
use Rattle.rx_units.proofs.Common.{substitution, invalid_hex, invalid_unicode, hex_pair, hex_at, four_at, digit_step, digits_at, braces_at, unicode_after, line_after, escape_after, escape_at, string_escape, string_front, template_escape, raw_line, template_front, front, byte_count}
use Rattle.rx_units.proofs.Common.{front_is, either_way, both}
use Rattle.rx_units.specs.declared.quoted_text.element.Writing.TheVariants as writing
use Rattle.rx_units.specs.declared.quoted_text.found.Found.{Found}
use Rattle.rx_units.specs.declared.quoted_text.literal.Literal.TheVariants as literals
use Rattle.rx_units.specs.declared.string_literal_parser.StringLiteralKind.TheVariants as quotes
use Rattle.rx_units.specs.Quoted.Fronts.{too_large}
use Rattle.rx_units.proofs.Quoted.ReadForms.{legacy_read, digit_read, escape_rows, string_rows, template_rows}
use Rattle.rx_units.proofs.Quoted.Widths.{length_le_bytes}

abbrev read_extent : EscapeRead → ℕ
read_extent (escaped v k n) = n
read_extent digit = 0
read_extent unended = 1
read_extent (no_hex n) = n
read_extent (no_unicode n) = n
read_extent (passes n) = n

abbrev ReadWithin : ℕ → EscapeRead → Type 0
ReadWithin m r = read_extent r ≤ m

hex_one : (o : Option ℕ) → read_extent (hex_pair o None) ≤ 3
hex_one None = omega arith
hex_one (Some i) = omega arith

hex_two : (o p : Option ℕ) → read_extent (hex_pair o p) ≤ 4
hex_two (Some i) None = omega arith
hex_two o p = omega arith

hex_extent : (w : List ℕ) → read_extent (hex_at w) ≤ length w + 2
hex_extent [] = omega arith
hex_extent (a ∷ []) = let h = hex_one (hex_digit_value a) in omega arith
hex_extent (a ∷ b ∷ w) = let h = hex_two (hex_digit_value a) (hex_digit_value b) in omega arith

step_extent : (o : Option ℕ) (n count x : ℕ) (xs : List ℕ) → ((m : ℕ) → read_extent (digits_at m (count + 1) xs) ≤ count + 4 + length xs) → read_extent (digit_step o n count x (λ m. digits_at m (count + 1) xs)) ≤ count + 4 + length xs
step_extent (Some d) n count x xs again = either_way (ReadWithin (count + 4 + length xs)) (nat_lt (16 * n + d) (2 ^ 32)) (digits_at (16 * n + d) (count + 1) xs) (passes (count + 3)) (again (16 * n + d)) (omega arith)
step_extent None n count x xs again = either_way (ReadWithin (count + 4 + length xs)) ((x == 125) && (nat_lt 0 count && nat_le n 0x10FFFF)) (escaped n writing.Unicode (count + 4)) (no_unicode (count + 3)) (omega arith) (omega arith)

digits_extent : (n count : ℕ) (w : List ℕ) → read_extent (digits_at n count w) ≤ count + 3 + length w
digits_extent n count [] = omega arith
digits_extent n count (x ∷ xs) =
    let h = step_extent (hex_digit_value x) n count x xs (λ m. let i = digits_extent m (count + 1) xs in omega arith) in
    omega arith

braces_extent : (w : List ℕ) → read_extent (braces_at w) ≤ length w + 2
braces_extent [] = omega arith
braces_extent (x ∷ xs) = let h = digits_extent 0 0 xs in either_way (ReadWithin (suc (length xs) + 2)) (x == 123) (digits_at 0 0 xs) (no_unicode 2) (omega arith) (omega arith)

unicode_extent : (w : List ℕ) (o : Option ℕ) → four_at w ≡ o → read_extent (unicode_after o w) ≤ length w + 2
unicode_extent (a ∷ b ∷ c ∷ d ∷ w) (Some v) e = omega arith
unicode_extent w None e = braces_extent w
unicode_extent w (Some v) e = absurd (let no : ⊥ = cc e in no)

feed_some : (w : List ℕ) → front_is is_line_feed w ≡ true → 1 ≤ length w
feed_some [] h = absurd (let no : ⊥ = cc h in no)
feed_some (c ∷ w) h = omega arith

line_extent : (c : ℕ) (w : List ℕ) → read_extent (line_after c w) ≤ length w + 2
line_extent c w =
    cond_both (c == 13 && front_is is_line_feed w) (escaped 10 writing.LineContinuation 3) (escaped c writing.LineContinuation 2) (ReadWithin (length w + 2))
    (λ h. let k = feed_some w (both (c == 13) _ h).1 in omega arith) (λ h. omega arith)

after_extent : (c : ℕ) (w : List ℕ) (o : Option ℕ) → read_extent (escape_after o c w) ≤ length w + 2
after_extent c w (Some v) = omega arith
after_extent c w None =
    escape_rows (ReadWithin (length w + 2)) c w (λ z. omega arith) (λ d z. omega arith) (λ x. hex_extent w) (λ u. unicode_extent w (four_at w) refl) (λ l. line_extent c w) (λ d x u l. omega arith)

escape_extent : (w : List ℕ) → read_extent (escape_at w) ≤ length w + 1
unfolding escape_at
escape_extent [] = omega arith
escape_extent (c ∷ w) = let h = after_extent c w (single_escape_value c) in omega arith

-- how many characters a place's fault covers
abbrev pub extent : Front → ℕ
extent (element e n) = 0
extent closer = 1
extent (nothing n) = n
extent substitution = 0
extent (invalid_hex n) = n
extent (invalid_unicode n) = n
extent (too_large n) = n

abbrev Within : ℕ → Front → Type 0
Within m r = extent r ≤ m

string_escape_extent : (r : EscapeRead) (w : List ℕ) → read_extent r ≤ length w + 1 → extent (string_escape r w) ≤ length w + 1
string_escape_extent digit w h = legacy_read (Within (length w + 1)) (λ e n. omega arith) (omega arith) w
string_escape_extent (passes n) w h = h
string_escape_extent r w h = omega arith

string_extent : (quote : ℕ) (us : List ℕ) → extent (string_front quote us) ≤ length us
string_extent quote [] = omega arith
string_extent quote (c ∷ w) =
    let e = string_escape_extent (escape_at w) w (escape_extent w) in
    string_rows (Within (suc (length w))) quote c w (λ q. omega arith) (λ b. omega arith) (λ l. omega arith) (λ q b l. omega arith)

template_escape_extent : (r : EscapeRead) (w : List ℕ) → read_extent r ≤ length w + 1 → extent (template_escape r w) ≤ length w + 1
template_escape_extent (escaped v k n) w h = omega arith
template_escape_extent digit w h = digit_read (Within (length w + 1)) (λ e n. omega arith) (omega arith) w
template_escape_extent unended w h = omega arith
template_escape_extent r w h = h

template_extent : (us : List ℕ) → extent (template_front us) ≤ length us
template_extent [] = omega arith
template_extent (c ∷ w) =
    let e = template_escape_extent (escape_at w) w (escape_extent w) in
    template_rows (Within (suc (length w))) c w (λ q. omega arith) (λ b. omega arith) (λ d o. omega arith) (λ d o. omega arith)
    (λ l. either_way (Within (suc (length w))) (c == 13 && front_is is_line_feed w) (element (written 10 writing.LineTerminator) 2) (element (written c writing.LineTerminator) 1) (omega arith) (omega arith)) (λ q b d l. omega arith)

pub front_extent : (l : Literal) (us : List ℕ) → extent (front l us) ≤ length us
unfolding front
front_extent (literals.String quotes.Double) us = string_extent 34 us
front_extent (literals.String quotes.Single) us = string_extent 39 us
front_extent literals.Template us = template_extent us

-- so its bytes are those of the text
pub found_extent : (l : Literal) (us : List ℕ) (f : Front) → f ≡ front l us → extent f ≤ byte_count us
found_extent l us f h = let e = front_extent l us in let b = length_le_bytes us in rw h (omega arith)

-- and the place after them has an offset
pub fault_fits : (l : Literal) (stop : Stop) (f : Found) → seen_front stop.found ≡ front l stop.rest.now → stop.found ≡ f → stop.offset + byte_count stop.rest.now < 2 ^ 32 → stop.offset + extent (seen_front f) < 2 ^ 32
fault_fits l stop f h is fits =
    let e = found_extent l stop.rest.now (seen_front stop.found) h in
    let k = subst (λ (f : Found). extent (seen_front f) ≤ byte_count stop.rest.now) is e in
    omega (arith, k, fits)
