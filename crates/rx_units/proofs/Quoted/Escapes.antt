-- Escapes of strings and templates: what is spelled is read, and what is read is spelled.
use Rattle.std.proofs.Common.{◌≡◌, ℕ, ◌+◌, ◌*◌, ◌==◌, Bool, true, false, cond, not, ◌&&◌, ◌||◌, List, [], ◌∷◌, ◌++◌, length, Option, Some, None, refl, sym, ap, ◌∙◌, subst, arith, inl, inr, lit<, append_assoc, length-append}
use Rattle.rx_units.proofs.Common.{nat_tests, eqb-true, cond-true, cond-false, not-true, option_and_then_some, hex_digit_value, is_decimal_digit, is_line_terminator, is_non_escape_character, is_single_escape_character, Element, Writing, is_line_feed, single_escape_value, SpellsTerminator}
use Rattle.rx_units.proofs.Common.{alone, carriage_return, carriage_return_line_feed, SpellsEscape, single, non_escape, null, hexadecimal, four_digits, braced, continuation, EscapeRead, escaped, digit, passes, hex_pair, hex_at, four_at, digits_at, braces_at, unicode_after, line_after}
use Rattle.rx_units.proofs.Common.{escape_after, escape_at, element, front_is, hex_number, PassesHex, chosen, either_way, both, told_apart}
use Rattle.rx_units.specs.declared.quoted_text.element.Writing.TheVariants as writing
use Rattle.rx_units.proofs.Quoted.HexDigits.{Run, run_found, run_again, run_over, run_over_again}
use Rattle.rx_units.proofs.Quoted.ReadForms.{escape_rows, hex_read}

-- no row above that of other characters begins with the character
record Others (c : ℕ) : Type 0 where
  no_single : single_escape_value c ≡ None
  no_digit : is_decimal_digit c ≡ false
  no_x : (c == 120) ≡ false
  no_u : (c == 117) ≡ false
  no_line : is_line_terminator c ≡ false

others : (c : ℕ) → is_non_escape_character c ≡ true → Others c
others c h = record {
  no_single = grind (arith, nat_tests);
  no_digit = grind (arith, nat_tests);
  no_x = grind (arith, nat_tests);
  no_u = grind (arith, nat_tests);
  no_line = grind (arith, nat_tests);
}

no_single_character : (c : ℕ) → single_escape_value c ≡ None → is_single_escape_character c ≡ false
no_single_character c h = grind (arith, nat_tests)

is_other : (c : ℕ) → single_escape_value c ≡ None → is_decimal_digit c ≡ false → (c == 120) ≡ false → (c == 117) ≡ false → is_line_terminator c ≡ false → is_non_escape_character c ≡ true
is_other c h d x u l = let s = no_single_character c h in grind (arith, nat_tests)

-- a line terminator that is no CR
pub record Lines (c : ℕ) : Type 0 where
  pub no_single : single_escape_value c ≡ None
  pub no_digit : is_decimal_digit c ≡ false
  pub no_x : (c == 120) ≡ false
  pub no_u : (c == 117) ≡ false
  pub line : is_line_terminator c ≡ true
  pub no_return : (c == 13) ≡ false

pub lines : (c : ℕ) → (c == 10 || (c == 0x2028 || c == 0x2029)) ≡ true → Lines c
lines c h = record {
  no_single = grind (arith, nat_tests);
  no_digit = grind (arith, nat_tests);
  no_x = grind (arith, nat_tests);
  no_u = grind (arith, nat_tests);
  line = grind (arith, nat_tests);
  no_return = grind (arith, nat_tests);
}

pub is_lone_line : (c : ℕ) → is_line_terminator c ≡ true → (c == 13) ≡ false → (c == 10 || (c == 0x2028 || c == 0x2029)) ≡ true
is_lone_line c h k = grind (arith, nat_tests)

pub brace_no_four : (w : List ℕ) → four_at (123 ∷ w) ≡ None
brace_no_four (a ∷ b ∷ c ∷ w) = refl
brace_no_four w = refl

pair_read : (a b v : ℕ) → hex_number (a ∷ b ∷ []) ≡ Some v → hex_pair (hex_digit_value a) (hex_digit_value b) ≡ escaped v writing.Hexadecimal 4
pair_read a b v h =
    option_and_then_some _ (hex_digit_value a) v h (λ i ia h.
    option_and_then_some _ (hex_digit_value b) v h (λ j jb h.
    let same : 16 * (16 * 0 + i) + j ≡ v = cc h in
    ap (λ o. hex_pair o (hex_digit_value b)) ia ∙ ap (λ o. hex_pair (Some i) o) jb ∙ ap (λ (n : ℕ). escaped n writing.Hexadecimal 4) (omega arith)))

terminator_read : (c : ℕ) (w rest : List ℕ) → SpellsTerminator c w rest → escape_at (w ++ rest) ≡ escaped c writing.LineContinuation (length w + 1)
unfolding escape_at
terminator_read c _ rest (alone h) =
    let l = lines c h in
    ap (λ o. escape_after o c rest) l.no_single
    ∙ cond-false _ _ _ l.no_digit ∙ cond-false _ _ _ l.no_x ∙ cond-false _ _ _ l.no_u ∙ cond-true _ _ _ l.line
    ∙ ap (λ b. cond (b && front_is is_line_feed rest) (escaped 10 writing.LineContinuation 3) (escaped c writing.LineContinuation 2)) l.no_return
terminator_read _ _ rest (carriage_return h) = ap (λ b. cond b (escaped 10 writing.LineContinuation 3) (escaped 13 writing.LineContinuation 2)) h
terminator_read _ _ rest carriage_return_line_feed = refl

-- spelled → read
pub spelled_escape : (v : ℕ) (k : Writing) (w rest : List ℕ) → SpellsEscape v k w rest → escape_at (w ++ rest) ≡ escaped v k (length w + 1)
unfolding escape_at
spelled_escape v _ _ rest (single {c} h) = ap (λ o. escape_after o c rest) h
spelled_escape c _ _ rest (non_escape h) =
    let o = others c h in
    ap (λ x. escape_after x c rest) o.no_single
    ∙ cond-false _ _ _ o.no_digit ∙ cond-false _ _ _ o.no_x ∙ cond-false _ _ _ o.no_u ∙ cond-false _ _ _ o.no_line
spelled_escape _ _ _ rest (null h) = ap (λ b. cond (not b) (escaped 0 writing.Plain 2) digit) h
spelled_escape v _ _ rest (hexadecimal {a} {b} h) = pair_read a b v h
spelled_escape v _ _ rest (four_digits {a} {b} {c} {d} h) = ap (λ o. unicode_after o (a ∷ b ∷ c ∷ d ∷ rest)) h
spelled_escape v _ _ rest (braced x xs h top) =
    ap (λ o. unicode_after o (123 ∷ x ∷ (xs ++ 125 ∷ [] ++ rest))) (brace_no_four (x ∷ (xs ++ 125 ∷ [] ++ rest)))
    ∙ ap (λ w. digits_at 0 0 (x ∷ w)) (append_assoc xs (125 ∷ []) rest)
    ∙ run_again 0 0 (x ∷ xs) rest v h top (omega arith)
    ∙ ap (escaped v writing.Unicode) (omega (arith, length-append xs (125 ∷ [])))
spelled_escape c _ w rest (continuation t) = terminator_read c w rest t

-- an escape that stands at the front, in n characters with its backslash
pub record EscapeFront (v : ℕ) (k : Writing) (n : ℕ) (w : List ℕ) : Type 0 where
  pub spelled : List ℕ
  pub rest : List ℕ
  pub spells : SpellsEscape v k spelled rest
  pub whole : w ≡ spelled ++ rest
  pub count : length spelled + 1 ≡ n

give : {x v : ℕ} {j k : Writing} {m n : ℕ} (s rest : List ℕ) → SpellsEscape x j s rest → length s + 1 ≡ m → escaped x j m ≡ escaped v k n → EscapeFront v k n (s ++ rest)
give {x} {v} {j} {k} {m} {n} s rest p l h = record {
  spelled = s;
  rest = rest;
  spells = subst (λ k. SpellsEscape v k s rest) (let same : j ≡ k = cc h in same) (subst (λ v. SpellsEscape v j s rest) (let same : x ≡ v = cc h in same) p);
  whole = refl;
  count = l ∙ (let same : m ≡ n = cc h in same);
}

hex_found_pair : (a b : ℕ) (w : List ℕ) (v : ℕ) (k : Writing) (n : ℕ) (o p : Option ℕ) → hex_digit_value a ≡ o → hex_digit_value b ≡ p → hex_pair o p ≡ escaped v k n → EscapeFront v k n (120 ∷ a ∷ b ∷ w)
hex_found_pair a b w v k n (Some i) (Some j) e f h = give (120 ∷ a ∷ b ∷ []) w (hexadecimal (grind (arith, e, f))) refl h
hex_found_pair a b w v k n o p e f h = absurd (let no : ⊥ = cc h in no)

hex_found_one : (v : ℕ) (k : Writing) (n : ℕ) (o : Option ℕ) → hex_pair o None ≡ escaped v k n → ⊥
hex_found_one v k n None h = cc h
hex_found_one v k n (Some i) h = cc h

hex_found : (w : List ℕ) (v : ℕ) (k : Writing) (n : ℕ) → hex_at w ≡ escaped v k n → EscapeFront v k n (120 ∷ w)
hex_found [] v k n h = absurd (let no : ⊥ = cc h in no)
hex_found (a ∷ []) v k n h = absurd (hex_found_one v k n (hex_digit_value a) h)
hex_found (a ∷ b ∷ w) v k n h = hex_found_pair a b w v k n (hex_digit_value a) (hex_digit_value b) refl refl h

braces_run : (x : ℕ) (xs : List ℕ) (v : ℕ) (k : Writing) (n : ℕ) → x ≡ 123 → Run 0 0 xs v k n → EscapeFront v k n (117 ∷ x ∷ xs)
braces_run x xs v k n here r = go r.digits refl
  where
    go : (ds : List ℕ) → r.digits ≡ ds → EscapeFront v k n (117 ∷ x ∷ xs)
    go [] e = absurd (omega (arith, r.some, ap length e))
    go (y ∷ ys) e = record {
      spelled = 117 ∷ 123 ∷ y ∷ (ys ++ 125 ∷ []);
      rest = r.rest;
      spells = subst (λ k. SpellsEscape v k (117 ∷ 123 ∷ y ∷ (ys ++ 125 ∷ [])) r.rest) (sym r.kind_is) (braced y ys (rw e at r.number) r.top);
      whole = rw here (ap (λ w. 117 ∷ 123 ∷ w) (r.whole ∙ ap (λ ds. ds ++ 125 ∷ r.rest) e ∙ ap (λ w. y ∷ w) (sym (append_assoc ys (125 ∷ []) r.rest))));
      count = omega (arith, r.count_is, ap length e, length-append ys (125 ∷ []));
    }

braces_found : (w : List ℕ) (v : ℕ) (k : Writing) (n : ℕ) → braces_at w ≡ escaped v k n → EscapeFront v k n (117 ∷ w)
braces_found [] v k n h = absurd (let no : ⊥ = cc h in no)
braces_found (x ∷ xs) v k n h = elim (chosen (x == 123) h) [
  | inl p ↦ braces_run x xs v k n (eqb-true x 123 p.0) (run_found 0 0 xs v k n p.1)
  | inr p ↦ absurd (let no : ⊥ = cc p.1 in no)
]

four_found : (w : List ℕ) (x v : ℕ) (k : Writing) (n : ℕ) → four_at w ≡ Some x → escaped x writing.Unicode 6 ≡ escaped v k n → EscapeFront v k n (117 ∷ w)
four_found (a ∷ b ∷ c ∷ d ∷ w) x v k n e h = give (117 ∷ a ∷ b ∷ c ∷ d ∷ []) w (four_digits e) refl h
four_found w x v k n e h = absurd (let no : ⊥ = cc e in no)

unicode_found : (w : List ℕ) (v : ℕ) (k : Writing) (n : ℕ) (o : Option ℕ) → four_at w ≡ o → unicode_after o w ≡ escaped v k n → EscapeFront v k n (117 ∷ w)
unicode_found w v k n (Some x) e h = four_found w x v k n e h
unicode_found w v k n None e h = braces_found w v k n h

pub feed_there : (w : List ℕ) → front_is is_line_feed w ≡ true → (t : List ℕ) × (w ≡ 10 ∷ t)
feed_there [] h = absurd (let no : ⊥ = cc h in no)
feed_there (c ∷ t) h = (t, ap (λ c. c ∷ t) (eqb-true c 10 h))

-- a line terminator at the front
pub record LineFront (v n : ℕ) (w : List ℕ) : Type 0 where
  pub spelled : List ℕ
  pub rest : List ℕ
  pub spells : SpellsTerminator v spelled rest
  pub whole : w ≡ spelled ++ rest
  pub count : length spelled ≡ n

pub line_front : (c : ℕ) (w : List ℕ) → is_line_terminator c ≡ true → (b : Bool) → (c == 13 && front_is is_line_feed w) ≡ b → LineFront (cond b 10 c) (cond b 2 1) (c ∷ w)
line_front c w l true e =
    let q = both (c == 13) (front_is is_line_feed w) e in
    let f = feed_there w q.1 in
    record {
      spelled = 13 ∷ 10 ∷ [];
      rest = f.0;
      spells = carriage_return_line_feed;
      whole = ap (λ c. c ∷ w) (eqb-true c 13 q.0) ∙ ap (λ w. 13 ∷ w) f.1;
      count = refl;
    }
line_front c w l false e = go (c == 13) refl
  where
    go : (b : Bool) → (c == 13) ≡ b → LineFront c 1 (c ∷ w)
    go true f = record {
      spelled = c ∷ [];
      rest = w;
      spells = rw (eqb-true c 13 f) (carriage_return (ap (λ b. b && front_is is_line_feed w) (sym f) ∙ e));
      whole = refl;
      count = refl;
    }
    go false f = record {
      spelled = c ∷ [];
      rest = w;
      spells = alone (is_lone_line c l f);
      whole = refl;
      count = refl;
    }

line_found : (c : ℕ) (w : List ℕ) (v : ℕ) (k : Writing) (n : ℕ) → is_line_terminator c ≡ true → line_after c w ≡ escaped v k n → EscapeFront v k n (c ∷ w)
line_found c w v k n l h = go (c == 13 && front_is is_line_feed w) refl h
  where
    go : (b : Bool) → (c == 13 && front_is is_line_feed w) ≡ b → cond b (escaped 10 writing.LineContinuation 3) (escaped c writing.LineContinuation 2) ≡ escaped v k n → EscapeFront v k n (c ∷ w)
    go true e h = let f = line_front c w l true e in subst (EscapeFront v k n) (sym f.whole) (give f.spelled f.rest (continuation f.spells) (ap (λ n. n + 1) f.count) h)
    go false e h = let f = line_front c w l false e in subst (EscapeFront v k n) (sym f.whole) (give f.spelled f.rest (continuation f.spells) (ap (λ n. n + 1) f.count) h)

null_next : (c : ℕ) (w : List ℕ) → (c == 48 && not (front_is is_decimal_digit w)) ≡ true → (c ≡ 48) × (front_is is_decimal_digit w ≡ false)
null_next c w h = let q = both (c == 48) _ h in (eqb-true c 48 q.0, not-true (front_is is_decimal_digit w) q.1)

after_found : (c : ℕ) (w : List ℕ) (v : ℕ) (k : Writing) (n : ℕ) (o : Option ℕ) → single_escape_value c ≡ o → escape_after o c w ≡ escaped v k n → EscapeFront v k n (c ∷ w)
after_found c w v k n (Some x) e h = give (c ∷ []) w (single e) refl h
after_found c w v k n None e h =
    escape_rows (λ r. r ≡ escaped v k n → EscapeFront v k n (c ∷ w)) c w (λ z h. let at = null_next c w z in rw at.0 (give (48 ∷ []) w (null at.1) refl h)) (λ d z h. absurd (let no : ⊥ = cc h in no))
    (λ x h. rw x (hex_found w v k n h)) (λ u h. rw u (unicode_found w v k n (four_at w) refl h)) (λ l h. line_found c w v k n l h)
    (λ d x u l h. give (c ∷ []) w (non_escape (is_other c e d x u l)) refl h) h

-- read → spelled
pub escape_spelled : (v : ℕ) (k : Writing) (n : ℕ) (w : List ℕ) → escape_at w ≡ escaped v k n → EscapeFront v k n w
unfolding escape_at
escape_spelled v k n [] h = absurd (let no : ⊥ = cc h in no)
escape_spelled v k n (c ∷ w) h = after_found c w v k n (single_escape_value c) refl h

-- Digits in braces that pass 32 bits: where they are read.
pub record Passes (n : ℕ) (w : List ℕ) : Type 0 where
  pub count : ℕ
  pub over : PassesHex w count
  pub count_is : n ≡ count + 3

abbrev is_passes : EscapeRead → Bool
is_passes (passes n) = true
is_passes _ = false

abbrev NoPasses : EscapeRead → Type 0
NoPasses r = is_passes r ≡ false

braces_pass : (w : List ℕ) (n : ℕ) → braces_at w ≡ passes n → Passes n (117 ∷ w)
braces_pass [] n h = absurd (let no : ⊥ = cc h in no)
braces_pass (x ∷ xs) n h = elim (chosen (x == 123) h) [
  | inl p ↦ let r = run_over 0 0 xs n (lit< tt) p.1 in record {
    count = length r.digits;
    over = record {
      digits = r.digits;
      next = r.next;
      rest = r.rest;
      number = r.number;
      digit = r.digit;
      whole = ap (λ y. 117 ∷ y ∷ xs) (eqb-true x 123 p.0) ∙ ap (λ w. 117 ∷ 123 ∷ w) r.whole;
      count_is = refl;
      number_is = r.number_is;
      digit_is = r.digit_is;
      fits = r.fits;
      passes = r.over;
    };
    count_is = omega (arith, r.count_is);
  }
  | inr p ↦ absurd (let no : ⊥ = cc p.1 in no)
]

unicode_passes : (w : List ℕ) (n : ℕ) (o : Option ℕ) → unicode_after o w ≡ passes n → Passes n (117 ∷ w)
unicode_passes w n (Some v) h = absurd (let no : ⊥ = cc h in no)
unicode_passes w n None h = braces_pass w n h

after_passes : (c : ℕ) (w : List ℕ) (n : ℕ) (o : Option ℕ) → escape_after o c w ≡ passes n → Passes n (c ∷ w)
after_passes c w n (Some x) h = absurd (let no : ⊥ = cc h in no)
after_passes c w n None h =
    escape_rows (λ r. r ≡ passes n → Passes n (c ∷ w)) c w (λ z e. absurd (let no : ⊥ = cc e in no)) (λ d z e. absurd (let no : ⊥ = cc e in no))
    (λ x e. absurd (told_apart is_passes e (hex_read NoPasses (λ v k n. refl) (λ n. refl) w) refl)) (λ u e. rw u (unicode_passes w n (four_at w) e))
    (λ l e. absurd (told_apart is_passes e (either_way NoPasses (c == 13 && front_is is_line_feed w) (escaped 10 writing.LineContinuation 3) (escaped c writing.LineContinuation 2) refl refl) refl))
    (λ d x u l e. absurd (let no : ⊥ = cc e in no)) h

pub passes_found : (n : ℕ) (w : List ℕ) → escape_at w ≡ passes n → Passes n w
unfolding escape_at
passes_found n [] h = absurd (let no : ⊥ = cc h in no)
passes_found n (c ∷ w) h = after_passes c w n (single_escape_value c) h

-- and what is there is read
pub passes_read : (w : List ℕ) (count : ℕ) → PassesHex w count → escape_at w ≡ passes (count + 3)
unfolding escape_at
passes_read w count p =
    ap escape_at p.whole
    ∙ ap (λ o. unicode_after o (123 ∷ (p.digits ++ p.next ∷ p.rest))) (brace_no_four (p.digits ++ p.next ∷ p.rest))
    ∙ run_over_again 0 0 p.digits p.next p.rest p.number p.digit p.number_is p.digit_is p.fits p.passes
    ∙ ap passes (omega (arith, p.count_is))

-- an element that stands at the front, by how elements are spelled
pub record ElementFront (spells_element : Element → List ℕ → List ℕ → Type 0) (e : Element) (n : ℕ) (us : List ℕ) : Type 0 where
  pub spelled : List ℕ
  pub rest : List ℕ
  pub spells : spells_element e spelled rest
  pub whole : us ≡ spelled ++ rest
  pub count : length spelled ≡ n

pub stands_first : {spells_element : Element → List ℕ → List ℕ → Type 0} {x e : Element} {m n : ℕ} (s rest : List ℕ) → spells_element x s rest → length s ≡ m → element x m ≡ element e n → ElementFront spells_element e n (s ++ rest)
stands_first {spells_element} {x} {e} {m} {n} s rest p l h = record {
  spelled = s;
  rest = rest;
  spells = subst (λ e. spells_element e s rest) (let same : x ≡ e = cc h in same) p;
  whole = refl;
  count = l ∙ (let same : m ≡ n = cc h in same);
}
