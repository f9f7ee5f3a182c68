-- The elements of templates: what is spelled is read, and what is read is spelled.
use Rattle.std.proofs.Common.{◌≡◌, ℕ, ◌==◌, Bool, true, false, cond, not, ◌&&◌, ◌||◌, List, [], ◌∷◌, ◌++◌, length, refl, sym, ap, ◌∙◌, subst, arith, inl, inr}
use Rattle.rx_units.proofs.Common.{nat_tests, eqb-true, cond-true, cond-false, is_within, is_decimal_digit, is_line_terminator, Writing, Element, is_line_feed, SpellsTerminator, alone, carriage_return, carriage_return_line_feed, written, is_open_brace, is_template_character}
use Rattle.rx_units.proofs.Common.{SpellsInTemplate, character, dollar, terminator, escape, zero_digit, EscapeRead, escaped, unended, no_hex, no_unicode, passes, element, substitution, escape_at, digit_after, digit_at, template_escape, raw_line, template_front, digit as digit_read}
use Rattle.rx_units.proofs.Common.{front_is, chosen, nonzero_digit}
use Rattle.rx_units.specs.declared.quoted_text.element.Writing.TheVariants as writing
use Rattle.rx_units.specs.Quoted.Elements.{digit}
use Rattle.rx_units.proofs.Quoted.Escapes.{ElementFront, EscapeFront, escape_spelled, spelled_escape, stands_first, line_front}
use Rattle.rx_units.proofs.Quoted.EscapeDigits.{digit_escape, digit_found}
use Rattle.rx_units.proofs.Quoted.ReadForms.{template_rows}

-- a character that stands for itself
record Plain (c : ℕ) : Type 0 where
  no_quote : (c == 96) ≡ false
  no_backslash : (c == 92) ≡ false
  no_dollar : (c == 36) ≡ false
  no_line : is_line_terminator c ≡ false

is_plain : (c : ℕ) → is_template_character c ≡ true → Plain c
is_plain c h = record {
  no_quote = grind arith;
  no_backslash = grind arith;
  no_dollar = grind arith;
  no_line = grind arith;
}

plain_is : (c : ℕ) → (c == 96) ≡ false → (c == 92) ≡ false → (c == 36) ≡ false → is_line_terminator c ≡ false → is_template_character c ≡ true
plain_is c h k l m = grind arith

-- a line terminator that is no CR
record Line (c : ℕ) : Type 0 where
  no_quote : (c == 96) ≡ false
  no_backslash : (c == 92) ≡ false
  no_dollar : (c == 36) ≡ false
  line : is_line_terminator c ≡ true
  no_return : (c == 13) ≡ false

is_line : (c : ℕ) → (c == 10 || (c == 0x2028 || c == 0x2029)) ≡ true → Line c
is_line c h = record {
  no_quote = grind (arith, nat_tests);
  no_backslash = grind (arith, nat_tests);
  no_dollar = grind (arith, nat_tests);
  line = grind (arith, nat_tests);
  no_return = grind (arith, nat_tests);
}

terminator_read : (c : ℕ) (w rest : List ℕ) → SpellsTerminator c w rest → template_front (w ++ rest) ≡ element (written c writing.LineTerminator) (length w)
terminator_read c _ rest (alone h) =
    let l = is_line c h in
    cond-false _ _ _ l.no_quote ∙ cond-false _ _ _ l.no_backslash ∙ cond-false _ _ _ l.no_dollar ∙ cond-true _ _ _ l.line
    ∙ ap (λ b. cond (b && front_is is_line_feed rest) (element (written 10 writing.LineTerminator) 2) (element (written c writing.LineTerminator) 1)) l.no_return
terminator_read _ _ rest (carriage_return h) = ap (λ b. cond b (element (written 10 writing.LineTerminator) 2) (element (written 13 writing.LineTerminator) 1)) h
terminator_read _ _ rest carriage_return_line_feed = refl

nonzero : (c : ℕ) → is_within 49 57 c ≡ true → (is_decimal_digit c ≡ true) × ((c == 48) ≡ false)
nonzero c h = (grind (arith, nat_tests), grind (arith, nat_tests))

no_null : (c : ℕ) (b : Bool) → (c == 48) ≡ false → (c == 48 && b) ≡ false
no_null c b h = ap (λ a. a && b) h

digit_row : (c : ℕ) (rest : List ℕ) → (c == 48) ≡ false → digit_after c rest ≡ element (written c writing.NotEscape) 2
digit_row c [] h = refl
digit_row c (d ∷ rest) h = cond-false _ _ _ h

-- spelled → read
pub spelled_template : (e : Element) (w rest : List ℕ) → SpellsInTemplate e w rest → template_front (w ++ rest) ≡ element e (length w)
spelled_template _ _ rest (character {c} h) =
    let p = is_plain c h in
    cond-false _ _ _ p.no_quote ∙ cond-false _ _ _ p.no_backslash ∙ cond-false _ _ _ p.no_dollar ∙ cond-false _ _ _ p.no_line
spelled_template _ _ rest (dollar h) = ap (λ b. cond b substitution (element (written 36 writing.Plain) 1)) h
spelled_template _ w rest (terminator {c} t) = terminator_read c w rest t
spelled_template _ _ rest (escape {v} {k} {w} p) = ap (λ r. template_escape r (w ++ rest)) (spelled_escape v k w rest p) ∙ ap (element (written v k)) (omega arith)
spelled_template _ _ rest (zero_digit {c} h) = ap (λ r. template_escape r (48 ∷ c ∷ rest)) (digit_escape 48 (c ∷ rest) refl (ap not h))
spelled_template _ _ rest (digit {c} h) =
    let d = nonzero c h in
    ap (λ r. template_escape r (c ∷ rest)) (digit_escape c rest d.0 (no_null c _ d.1)) ∙ digit_row c rest d.1

from_zero : (b c : Bool) → b ≡ true → (b && not c) ≡ false → c ≡ true
from_zero b c h k = grind arith

and_yes : (b : Bool) → (b && true) ≡ false → b ≡ false
and_yes b h = grind arith

digit_spelled : (c : ℕ) (w : List ℕ) (e : Element) (n : ℕ) → is_decimal_digit c ≡ true → (c == 48 && not (front_is is_decimal_digit w)) ≡ false → digit_after c w ≡ element e n → ElementFront SpellsInTemplate e n (92 ∷ c ∷ w)
digit_spelled c [] e n d z h = stands_first (92 ∷ c ∷ []) [] (digit (nonzero_digit c d (and_yes (c == 48) z))) refl h
digit_spelled c (x ∷ w) e n d z h = elim (chosen (c == 48) h) [
  | inl p ↦ rw (eqb-true c 48 p.0) (stands_first (92 ∷ 48 ∷ x ∷ []) w (zero_digit (from_zero (c == 48) (is_decimal_digit x) p.0 z)) refl p.1)
  | inr p ↦ stands_first (92 ∷ c ∷ []) (x ∷ w) (digit (nonzero_digit c d p.0)) refl p.1
]

escape_in_template : (v m : ℕ) (w : List ℕ) (k : Writing) (e : Element) (n : ℕ) → EscapeFront v k m w → element (written v k) m ≡ element e n → ElementFront SpellsInTemplate e n (92 ∷ w)
escape_in_template v m w k e n f h = subst (λ w. ElementFront SpellsInTemplate e n (92 ∷ w)) (sym f.whole) (stands_first (92 ∷ f.spelled) f.rest (escape f.spells) (omega (arith, f.count)) h)

escape_found : (w : List ℕ) (e : Element) (n : ℕ) (r : EscapeRead) → escape_at w ≡ r → template_escape r w ≡ element e n → ElementFront SpellsInTemplate e n (92 ∷ w)
escape_found w e n (escaped v k m) f h = escape_in_template v m w k e n (escape_spelled v k m w f) h
escape_found w e n digit_read f h =
    let d = digit_found w f in
    subst (λ w. ElementFront SpellsInTemplate e n (92 ∷ w)) (sym d.whole) (digit_spelled d.c d.rest e n d.is_digit d.no_null (ap digit_at (sym d.whole) ∙ h))
escape_found w e n r f h = absurd (let no : ⊥ = cc h in no)

line_spelled : (c : ℕ) (w : List ℕ) (e : Element) (n : ℕ) → is_line_terminator c ≡ true → raw_line c w ≡ element e n → ElementFront SpellsInTemplate e n (c ∷ w)
line_spelled c w e n l h = go (c == 13 && front_is is_line_feed w) refl h
  where
    go : (b : Bool) → (c == 13 && front_is is_line_feed w) ≡ b → cond b (element (written 10 writing.LineTerminator) 2) (element (written c writing.LineTerminator) 1) ≡ element e n → ElementFront SpellsInTemplate e n (c ∷ w)
    go true f h = let t = line_front c w l true f in subst (ElementFront SpellsInTemplate e n) (sym t.whole) (stands_first t.spelled t.rest (terminator t.spells) t.count h)
    go false f h = let t = line_front c w l false f in subst (ElementFront SpellsInTemplate e n) (sym t.whole) (stands_first t.spelled t.rest (terminator t.spells) t.count h)

-- read → spelled
pub template_spelled : (us : List ℕ) (e : Element) (n : ℕ) → template_front us ≡ element e n → ElementFront SpellsInTemplate e n us
template_spelled [] e n h = absurd (let no : ⊥ = cc h in no)
template_spelled (c ∷ w) e n h =
    template_rows (λ r. r ≡ element e n → ElementFront SpellsInTemplate e n (c ∷ w)) c w (λ q h. absurd (let no : ⊥ = cc h in no)) (λ b h. rw b (escape_found w e n (escape_at w) refl h)) (λ d o h. absurd (let no : ⊥ = cc h in no))
    (λ d o h. rw d (stands_first (36 ∷ []) w (dollar o) refl (ap (λ (c : ℕ). element (written c writing.Plain) 1) (sym d) ∙ h))) (λ l h. line_spelled c w e n l h)
    (λ q b d l h. stands_first (c ∷ []) w (character (plain_is c q b d l)) refl h) h
