-- Where a template is not decoded, its fault stands.
use Rattle.std.proofs.Common.{◌≡◌, ℕ, ◌+◌, ◌<◌, ◌==◌, Bool, true, false, cond, not, is_some, ◌&&◌, List, [], ◌∷◌, length, take, drop, Option, Some, None, refl, sym, ap, ◌∙◌, subst, arith, inl, inr, ◌⊎◌, lit<}
use Rattle.rx_units.proofs.Common.{eqb-true, hex_digit_value, is_decimal_digit, is_line_terminator, Writing, Element, Options, template_element_fault, template_fault_at, is_line_feed, single_escape_value, written, is_open_brace, SpellsInTemplate, character, dollar, terminator, escape}
use Rattle.rx_units.proofs.Common.{zero_digit, IsNoCodePoint, IsTemplateFault, ends, ends_escape, followed, not_escape, no_hex_digit, one_hex_digit, no_four_digits, no_code_point, too_large, from_to, is_closer, Place, IsReached, byte_count, is_refused, front_is, hex_number, is_hex_digit}
use Rattle.rx_units.proofs.Common.{chosen, either_way, told_apart}
use Rattle.rx_units.specs.declared.quoted_text.element.Writing.TheVariants as writing
use Rattle.rx_units.specs.declared.quoted_text.literal.Literal.TheVariants as literals
use Rattle.rx_units.specs.declared.template_literal_parser.TemplateFault.TheVariants as template_fault
use Rattle.rx_units.specs.Quoted.Elements.{digit}
use Rattle.rx_units.specs.Quoted.Faults.{substitution}
use Rattle.rx_units.specs.Quoted.Fronts as read
use Rattle.rx_units.proofs.Quoted.HexDigits.{NoRun, no_run}
use Rattle.rx_units.proofs.Quoted.Escapes.{Passes, passes_found}
use Rattle.rx_units.proofs.Quoted.EscapeDigits.{digit_found}
use Rattle.rx_units.proofs.Quoted.Outcomes.{allowed_refused, escape_allowed, followed_there}
use Rattle.rx_units.proofs.Quoted.ReadForms.{hex_read, unicode_read, digit_after_read, escape_rows, template_rows}
use Rattle.rx_units.proofs.Quoted.Widths.{taken}

-- What is not allowed in a template are digits that are no escape, with strings as the standard has them.
template_refused : (o : Options) (e : Element) (w rest : List ℕ) → SpellsInTemplate e w rest → is_refused o e.writing ≡ true → (e.writing ≡ writing.NotEscape) × (o.standard_strings ≡ true)
template_refused o _ _ rest (escape {v} {k} {w} p) r = allowed_refused (escape_allowed o v k w rest p) r
template_refused o _ _ rest (zero_digit h) r = (refl, r)
template_refused o _ _ rest (digit h) r = (refl, r)
template_refused o _ _ rest _ r = allowed_refused refl r

-- what is read where an escape is none
abbrev is_bad : read.EscapeRead → Bool
is_bad (read.escaped v k n) = false
is_bad read.digit = false
is_bad _ = true

abbrev NoBad : read.EscapeRead → Type 0
NoBad r = is_bad r ≡ false

after_bad : (c : ℕ) (w : List ℕ) (r : read.EscapeRead) (o : Option ℕ) → is_bad r ≡ true → read.escape_after o c w ≡ r
    → ((c ≡ 120) × (read.hex_at w ≡ r)) ⊎ ((c ≡ 117) × (read.unicode_after (read.four_at w) w ≡ r))
after_bad c w r (Some x) b h = absurd (told_apart is_bad h refl b)
after_bad c w r None b h =
    escape_rows (λ x. x ≡ r → ((c ≡ 120) × (read.hex_at w ≡ r)) ⊎ ((c ≡ 117) × (read.unicode_after (read.four_at w) w ≡ r))) c w (λ z e. absurd (told_apart is_bad e refl b)) (λ d z e. absurd (told_apart is_bad e refl b))
    (λ x e. inl (x, e)) (λ u e. inr (u, e))
    (λ l e. absurd (told_apart is_bad e (either_way NoBad (c == 13 && front_is is_line_feed w) (read.escaped 10 writing.LineContinuation 3) (read.escaped c writing.LineContinuation 2) refl refl) b))
    (λ d x u l e. absurd (told_apart is_bad e refl b)) h

-- the ways in which an escape is none
data Bad (w : List ℕ) (r : read.EscapeRead) : Type 0 where
  at_end : w ≡ [] → read.unended ≡ r → Bad w r
  at_hex : (t : List ℕ) → w ≡ 120 ∷ t → read.hex_at t ≡ r → Bad w r
  at_unicode : (t : List ℕ) → w ≡ 117 ∷ t → read.unicode_after (read.four_at t) t ≡ r → Bad w r

bad_found : (w : List ℕ) (r : read.EscapeRead) → is_bad r ≡ true → read.escape_at w ≡ r → Bad w r
unfolding read.escape_at
bad_found [] r b h = at_end refl h
bad_found (c ∷ w) r b h = elim (after_bad c w r (single_escape_value c) b h) [
  | inl p ↦ at_hex w (ap (λ c. c ∷ w) p.0) p.1
  | inr p ↦ at_unicode w (ap (λ c. c ∷ w) p.0) p.1
]

abbrev is_hexish : read.EscapeRead → Bool
is_hexish (read.escaped v k n) = true
is_hexish (read.no_hex n) = true
is_hexish _ = false

abbrev is_unicodish : read.EscapeRead → Bool
is_unicodish (read.escaped v k n) = true
is_unicodish (read.no_unicode n) = true
is_unicodish (read.passes n) = true
is_unicodish _ = false

no_hexish : (w : List ℕ) (r : read.EscapeRead) → read.hex_at w ≡ r → is_hexish r ≡ false → ⊥
no_hexish w r h k = let n : true ≡ false = sym (hex_read (λ r. is_hexish r ≡ true) (λ v k n. refl) (λ n. refl) w) ∙ ap is_hexish h ∙ k in cc n

no_unicodish : (w : List ℕ) (r : read.EscapeRead) → read.unicode_after (read.four_at w) w ≡ r → is_unicodish r ≡ false → ⊥
no_unicodish w r h k = let n : true ≡ false = sym (unicode_read (λ r. is_unicodish r ≡ true) (λ v k n. refl) (λ n. refl) (λ n. refl) (read.four_at w) w) ∙ ap is_unicodish h ∙ k in cc n

-- what is read where no element is
abbrev is_fault : read.Front → Bool
is_fault (read.element e n) = false
is_fault read.closer = false
is_fault _ = true

abbrev NoFault : read.Front → Type 0
NoFault r = is_fault r ≡ false

brace_there : (w : List ℕ) → front_is is_open_brace w ≡ true → (t : List ℕ) × (w ≡ 123 ∷ t)
brace_there [] h = absurd (let no : ⊥ = cc h in no)
brace_there (c ∷ t) h = (t, ap (λ c. c ∷ t) (eqb-true c 123 h))

-- the ways in which no element stands
data Without (us : List ℕ) (f : read.Front) : Type 0 where
  at_text_end : us ≡ [] → read.nothing 0 ≡ f → Without us f
  at_substitution : (t : List ℕ) → us ≡ 36 ∷ 123 ∷ t → read.substitution ≡ f → Without us f
  at_escape : (w : List ℕ) → us ≡ 92 ∷ w → read.template_escape (read.escape_at w) w ≡ f → Without us f

without_found : (us : List ℕ) (f : read.Front) → is_fault f ≡ true → read.template_front us ≡ f → Without us f
without_found [] f b h = at_text_end refl h
without_found (c ∷ w) f b h =
    template_rows (λ r. r ≡ f → Without (c ∷ w) f) c w (λ q e. absurd (told_apart is_fault e refl b)) (λ k e. at_escape w (ap (λ c. c ∷ w) k) e)
    (λ d o e. let t = brace_there w o in at_substitution t.0 (ap (λ c. c ∷ w) d ∙ ap (λ w. 36 ∷ w) t.1) e) (λ d o e. absurd (told_apart is_fault e refl b))
    (λ l e. absurd (told_apart is_fault e (either_way NoFault (c == 13 && front_is is_line_feed w) (read.element (written 10 writing.LineTerminator) 2) (read.element (written c writing.LineTerminator) 1) refl refl) b))
    (λ q k d l e. absurd (told_apart is_fault e refl b)) h

abbrev front_of : read.EscapeRead → read.Front
front_of read.unended = read.nothing 1
front_of (read.no_hex n) = read.invalid_hex n
front_of (read.no_unicode n) = read.invalid_unicode n
front_of (read.passes n) = read.too_large n
front_of _ = read.closer

-- a fault of an escape is what is read of it
escape_fault : (w : List ℕ) (f : read.Front) (r : read.EscapeRead) → is_fault f ≡ true → read.escape_at w ≡ r → read.template_escape r w ≡ f → (is_bad r ≡ true) × (front_of r ≡ f)
escape_fault w f (read.escaped v k n) b e h = absurd (told_apart is_fault h refl b)
escape_fault w f read.digit b e h =
    let d = digit_found w e in
    let some : NoFault (read.digit_at w) = subst (λ w. NoFault (read.digit_at w)) (sym d.whole) (digit_after_read NoFault (λ e n. refl) d.c d.rest) in
    absurd (told_apart is_fault h some b)
escape_fault w f r b e h = (refl, h)

no_front_digit : (w : List ℕ) → read.front_digit w ≡ None → front_is is_hex_digit w ≡ false
no_front_digit [] h = refl
no_front_digit (c ∷ w) h = ap is_some h

no_four : (t : List ℕ) → read.four_at t ≡ None → (a b c d v : ℕ) (more : List ℕ) → t ≡ a ∷ b ∷ c ∷ d ∷ more → hex_number (a ∷ b ∷ c ∷ d ∷ []) ≡ Some v → ⊥
no_four t none a b c d v more h k = let e : None ≡ Some v = sym none ∙ ap read.four_at h ∙ k in cc e

-- a run of digits that makes no code point, after `\u{`
not_code_point : (x m : ℕ) (xs : List ℕ) → x ≡ 123 → (r : NoRun 0 0 xs m) → IsNoCodePoint (92 ∷ 117 ∷ x ∷ xs) r.digits
not_code_point x m xs h r = record {
  rest = r.rest;
  number = r.number;
  whole = ap (λ y. 92 ∷ 117 ∷ y ∷ xs) h ∙ ap (λ w. 92 ∷ 117 ∷ 123 ∷ w) r.whole;
  number_is = r.number_is;
  fits = r.fits;
  all = r.all;
  wrong = λ some top. r.wrong (more r.digits some) top;
}
  where
    more : (ds : List ℕ) → (ds ≡ [] → ⊥) → 0 < 0 + length ds
    more [] some = absurd (some refl)
    more (d ∷ ds) some = omega arith

template_is : (us : List ℕ) → read.front literals.Template us ≡ read.template_front us
unfolding read.front
template_is us = refl

module _ (o : Options) (text : List ℕ) (p : Place) (reached : IsReached literals.Template o text p) where
  hex_pair_stands : (a : ℕ) (w : List ℕ) (n : ℕ) → p.rest ≡ 92 ∷ 120 ∷ a ∷ w → (x y : Option ℕ) → hex_digit_value a ≡ x → read.front_digit w ≡ y → read.hex_pair x y ≡ read.no_hex n
      → IsTemplateFault o text (template_fault.InvalidHexEscape (from_to (p.offset + n) (p.offset + n)))
  hex_pair_stands a w n e None y f g h =
      subst (λ (n : ℕ). IsTemplateFault o text (template_fault.InvalidHexEscape (from_to (p.offset + n) (p.offset + n)))) (let k : 2 ≡ n = cc h in k) (no_hex_digit reached e (ap is_some f))
  hex_pair_stands a w n e (Some i) None f g h =
      subst (λ (n : ℕ). IsTemplateFault o text (template_fault.InvalidHexEscape (from_to (p.offset + n) (p.offset + n)))) (let k : 3 ≡ n = cc h in k) (one_hex_digit reached e (ap is_some f) (no_front_digit w g))
  hex_pair_stands a w n e (Some i) (Some j) f g h = absurd (let no : ⊥ = cc h in no)

  hex_stands : (t : List ℕ) (n : ℕ) → p.rest ≡ 92 ∷ 120 ∷ t → read.hex_at t ≡ read.no_hex n → IsTemplateFault o text (template_fault.InvalidHexEscape (from_to (p.offset + n) (p.offset + n)))
  hex_stands [] n e h = subst (λ (n : ℕ). IsTemplateFault o text (template_fault.InvalidHexEscape (from_to (p.offset + n) (p.offset + n)))) (let k : 2 ≡ n = cc h in k) (no_hex_digit reached e refl)
  hex_stands (a ∷ w) n e h = hex_pair_stands a w n e (hex_digit_value a) (read.front_digit w) refl refl h

  code_point_stands : (x : ℕ) (xs : List ℕ) (n : ℕ) → p.rest ≡ 92 ∷ 117 ∷ x ∷ xs → x ≡ 123 → NoRun 0 0 xs n → IsTemplateFault o text (template_fault.InvalidUnicodeEscape (from_to p.offset (p.offset + n)))
  code_point_stands x xs n e h r =
      subst (λ (end : ℕ). IsTemplateFault o text (template_fault.InvalidUnicodeEscape (from_to p.offset end))) (let k : p.offset + 3 + length r.digits ≡ p.offset + n = omega (arith, r.count_is) in k)
      (no_code_point reached (subst (λ us. IsNoCodePoint us r.digits) (sym e) (not_code_point x n xs h r)))

  two_stand : (t : List ℕ) (n : ℕ) → p.rest ≡ 92 ∷ 117 ∷ t → read.four_at t ≡ None → front_is is_open_brace t ≡ false → 2 ≡ n → IsTemplateFault o text (template_fault.InvalidUnicodeEscape (from_to p.offset (p.offset + n)))
  two_stand t n e none b k = subst (λ (n : ℕ). IsTemplateFault o text (template_fault.InvalidUnicodeEscape (from_to p.offset (p.offset + n)))) k (no_four_digits reached e b (no_four t none))

  unicode_stands : (t : List ℕ) (n : ℕ) → p.rest ≡ 92 ∷ 117 ∷ t → (x : Option ℕ) → read.four_at t ≡ x → read.unicode_after x t ≡ read.no_unicode n
      → IsTemplateFault o text (template_fault.InvalidUnicodeEscape (from_to p.offset (p.offset + n)))
  unicode_stands t n e (Some v) f h = absurd (let no : ⊥ = cc h in no)
  unicode_stands [] n e None f h = two_stand [] n e f refl (cc h)
  unicode_stands (x ∷ xs) n e None f h = elim (chosen (x == 123) h) [
    | inl q ↦ code_point_stands x xs n e (eqb-true x 123 q.0) (no_run 0 0 xs n (lit< tt) q.1)
    | inr q ↦ two_stand (x ∷ xs) n e f q.0 (cc q.1)
  ]

  large_stands : (w : List ℕ) (n : ℕ) → p.rest ≡ 92 ∷ w → Passes n w → IsTemplateFault o text (template_fault.TooLargeUnicodeEscapeSequence (from_to p.offset (p.offset + n)))
  large_stands w n e l =
      subst (λ (end : ℕ). IsTemplateFault o text (template_fault.TooLargeUnicodeEscapeSequence (from_to p.offset end))) (let k : p.offset + 3 + l.count ≡ p.offset + n = omega (arith, l.count_is) in k)
      (too_large reached e l.over)

  bad_stands : (w : List ℕ) (r : read.EscapeRead) → read.escape_at w ≡ r → is_bad r ≡ true → p.rest ≡ 92 ∷ w → Bad w r → IsTemplateFault o text (template_fault_at (front_of r) p.offset p.rest)
  bad_stands w read.unended is b e (at_end h k) = ends_escape reached (e ∙ ap (λ w. 92 ∷ w) h)
  bad_stands w read.unended is b e (at_hex t h k) = absurd (no_hexish t read.unended k refl)
  bad_stands w read.unended is b e (at_unicode t h k) = absurd (no_unicodish t read.unended k refl)
  bad_stands w (read.no_hex n) is b e (at_end h k) = absurd (let no : ⊥ = cc k in no)
  bad_stands w (read.no_hex n) is b e (at_hex t h k) = hex_stands t n (e ∙ ap (λ w. 92 ∷ w) h) k
  bad_stands w (read.no_hex n) is b e (at_unicode t h k) = absurd (no_unicodish t (read.no_hex n) k refl)
  bad_stands w (read.no_unicode n) is b e (at_end h k) = absurd (let no : ⊥ = cc k in no)
  bad_stands w (read.no_unicode n) is b e (at_hex t h k) = absurd (no_hexish t (read.no_unicode n) k refl)
  bad_stands w (read.no_unicode n) is b e (at_unicode t h k) = unicode_stands t n (e ∙ ap (λ w. 92 ∷ w) h) (read.four_at t) refl k
  bad_stands w (read.passes n) is b e x = large_stands w n e (passes_found n w is)
  bad_stands w r is b e x = absurd (let no : ⊥ = cc b in no)

  without_stands : (f : read.Front) → is_fault f ≡ true → Without p.rest f → IsTemplateFault o text (template_fault_at f p.offset p.rest)
  without_stands f b (at_text_end e h) =
      subst (λ f. IsTemplateFault o text (template_fault_at f p.offset p.rest)) h
      (subst (λ (at : ℕ). IsTemplateFault o text (template_fault.InvalidInput (from_to at at))) (let k : p.offset ≡ p.offset + 0 = omega arith in k) (ends reached e))
  without_stands f b (at_substitution t e h) = subst (λ f. IsTemplateFault o text (template_fault_at f p.offset p.rest)) h (substitution reached e)
  without_stands f b (at_escape w e h) =
      let x = escape_fault w f (read.escape_at w) b refl h in
      subst (λ f. IsTemplateFault o text (template_fault_at f p.offset p.rest)) x.1 (bad_stands w (read.escape_at w) refl x.0 e (bad_found w (read.escape_at w) x.0 refl))

  refused_stands : (e : Element) (n : ℕ) → read.front literals.Template p.rest ≡ read.element e n → is_refused o e.writing ≡ true
      → IsTemplateFault o text (template_element_fault e.writing p.offset (p.offset + byte_count (take n p.rest)))
  refused_stands e n h r =
      let t = taken literals.Template p.rest e n h in
      let d = template_refused o e (take n p.rest) (drop n p.rest) t.spells r in
      subst (λ (m : Writing). IsTemplateFault o text (template_element_fault m p.offset (p.offset + byte_count (take n p.rest)))) (sym d.0)
      (not_escape e (take n p.rest) (drop n p.rest) reached t.whole t.spells d.1 d.0)

  pub template_fault_stands : (f : read.Front) → f ≡ read.front literals.Template p.rest
      → ((e : Element) (n : ℕ) → read.front literals.Template p.rest ≡ read.element e n → is_refused o e.writing ≡ true)
      → (is_closer f && (length p.rest == 1)) ≡ false → IsTemplateFault o text (template_fault_at f p.offset p.rest)
  template_fault_stands (read.element e n) h last no_end = refused_stands e n (sym h) (last e n (sym h))
  template_fault_stands read.closer h last no_end = let c = followed_there literals.Template p.rest (sym h) no_end in followed reached c.2
  template_fault_stands f h last no_end = without_stands f refl (without_found p.rest f refl (sym (h ∙ template_is p.rest)))
