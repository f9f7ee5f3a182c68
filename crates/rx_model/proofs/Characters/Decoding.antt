-- How a unicode escape is read, against what it means.
use Rattle.std.proofs.Common.{◌≡◌, ◌↔◌, ℕ, ◌+◌, ◌-◌, ◌*◌, ◌^◌, ◌<◌, ◌≤◌, ◌==◌, Bool, true, false, cond, ◌&&◌, List, [], ◌∷◌, ◌++◌, length, Option, Some, None, refl, sym, ap, ◌∙◌, subst, arith, inl, inr, nat_lt, nat_le, lit<, option_and_then, option_map, append_assoc, length-append}
use Rattle.std.proofs.lemmas.Bool.{eqb-true, leb-true, le-leb}
use Rattle.std.proofs.lemmas.Option.{option_and_then_some}
use Rattle.std.proofs.lemmas.List.{length-map}
use Rattle.rx_base.specs.Characters.{is_within, is_lead, is_trail}
use Rattle.rx_base.specs.SurrogatePair.{IsLeadSurrogate, surrogate_pair}
use Rattle.rx_tables.specs.Characters.{hex_digit_value}
use Rattle.rx_units.specs.declared.code_point.CodePoint.{CodePoint}
use Rattle.rx_units.specs.Units.{values}
use Rattle.rx_units.specs.Digits.{hex_number, PassesHex}
use Rattle.rx_units.specs.declared.quoted_text.element.Writing.{Writing}
use Rattle.rx_units.specs.declared.quoted_text.element.Writing.TheVariants as writing
use Rattle.rx_units.specs.Quoted.Fronts.{EscapeRead, escaped, no_unicode, passes, digit_step, digits_at}
use Rattle.rx_units.proofs.Choices.{both, chosen}
use Rattle.rx_units.proofs.Digits.{four_small}
use Rattle.rx_units.proofs.Quoted.HexDigits.{Over, Run, run_again, run_found, run_over, run_over_again}
use Rattle.rx_model.specs.Characters.UnicodeEscapes.{four, BeginsWithTrail, SpellsUnicode, code_unit, alone, pair, braced, Decodes}
use Rattle.rx_model.specs.Characters.Decoding.{value, invalid, overflow, Decoded, four_at, trail_at, run_step, run_at, braces_at, pair_or_unit, after_u, decoding_of}
use Rattle.rx_model.proofs.Characters.Choices.{choose_both}

in_range : (low high c : ℕ) → is_within low high c ≡ true → (low ≤ c) × (c ≤ high)
in_range low high c h = let p = both (nat_le low c) (nat_le c high) h in (leb-true low c p.0, leb-true c high p.1)

within : (low high c : ℕ) → low ≤ c → c ≤ high → is_within low high c ≡ true
within low high c from to = ap (λ b. b && nat_le c high) (le-leb low c from) ∙ le-leb c high to

-- how digits in braces are read in quoted texts, as they are read here
abbrev of_digits : EscapeRead → Decoded
of_digits (escaped v k n) = value v (n - 1)
of_digits (passes n) = overflow (n - 3)
of_digits _ = invalid

run_is_step : (n count x : ℕ) (o : Option ℕ) (here : ℕ → Decoded) (quoted : ℕ → EscapeRead) → ((m : ℕ) → here m ≡ of_digits (quoted m)) → run_step o n count x here ≡ of_digits (digit_step o n count x quoted)
run_is_step n count x (Some d) here quoted same =
    choose_both (λ r s. r ≡ of_digits s) (nat_lt (16 * n + d) (2 ^ 32)) (here (16 * n + d)) (overflow count) (quoted (16 * n + d)) (passes (count + 3)) (λ _. same (16 * n + d)) (λ _. ap overflow (omega arith))
run_is_step n count x None here quoted same =
    choose_both (λ r s. r ≡ of_digits s) ((x == 125) && (nat_lt 0 count && nat_le n 0x10FFFF)) (value n (count + 3)) invalid (escaped n writing.Unicode (count + 4)) (no_unicode (count + 3)) (λ _. ap (value n) (omega arith)) (λ _. refl)

run_is : (n count : ℕ) (w : List ℕ) → run_at n count w ≡ of_digits (digits_at n count w)
run_is n count [] = refl
run_is n count (x ∷ xs) = run_is_step n count x (hex_digit_value x) (λ m. run_at m (count + 1) xs) (λ m. digits_at m (count + 1) xs) (λ m. run_is m (count + 1) xs)

-- four digits at the front
record Four (w : List ℕ) (v : ℕ) (rest : List ℕ) : Type 0 where
  a : ℕ
  b : ℕ
  c : ℕ
  d : ℕ
  number : hex_number (a ∷ b ∷ c ∷ d ∷ []) ≡ Some v
  whole : w ≡ a ∷ b ∷ c ∷ d ∷ rest

mapped : {A B : Type 0} {x : B} (f : A → B) (o : Option A) → option_map f o ≡ Some x → (y : A) × (o ≡ Some y) × (f y ≡ x)
mapped f None h = absurd (let k : ⊥ = cc h in k)
mapped f (Some y) h = (y, refl, cc h)

four_found : (w : List ℕ) (v : ℕ) (rest : List ℕ) → four_at w ≡ Some (v, rest) → Four w v rest
four_found [] v rest h = absurd (let k : ⊥ = cc h in k)
four_found (a ∷ []) v rest h = absurd (let k : ⊥ = cc h in k)
four_found (a ∷ b ∷ []) v rest h = absurd (let k : ⊥ = cc h in k)
four_found (a ∷ b ∷ c ∷ []) v rest h = absurd (let k : ⊥ = cc h in k)
four_found (a ∷ b ∷ c ∷ d ∷ w) v rest h =
    let m = mapped (λ v. (v, w)) (hex_number (a ∷ b ∷ c ∷ d ∷ [])) h in
    record {
      a = a;
      b = b;
      c = c;
      d = d;
      number = m.1 ∙ ap Some (ap (λ (p : ℕ × List ℕ). p.0) m.2);
      whole = ap (λ ws. a ∷ b ∷ c ∷ d ∷ ws) (ap (λ (p : ℕ × List ℕ). p.1) m.2);
    }

trail_here : (x y : ℕ) (w : List ℕ) (t : ℕ) → ((x == 92) && (y == 117) ≡ true) × (option_and_then (λ (t : ℕ × List ℕ). cond (is_trail t.0) (Some t.0) None) (four_at w) ≡ Some t) → (b : BeginsWithTrail (x ∷ y ∷ w)) × (b.trail ≡ t)
trail_here x y w t p =
    let q = both (x == 92) (y == 117) p.0 in
    option_and_then_some (λ (t : ℕ × List ℕ). cond (is_trail t.0) (Some t.0) None) (four_at w) t p.1 (λ r e h.
    let f = four_found w r.0 r.1 e in
    elim (chosen (is_trail r.0) h) [
      | inl s ↦
          let same : r.0 ≡ t = cc s.1 in (
            record {
              a = f.a;
              b = f.b;
              c = f.c;
              d = f.d;
              rest = r.1;
              trail = t;
              number = f.number ∙ ap Some same;
              is_trail = in_range 0xDC00 0xDFFF t (ap is_trail (sym same) ∙ s.0);
              whole = rw (eqb-true x 92 q.0, eqb-true y 117 q.1) (ap (λ w. 92 ∷ 117 ∷ w) f.whole);
            },
            refl,
          )
      | inr s ↦ absurd (let k : ⊥ = cc s.1 in k)
    ])

-- a trail that is found is there, and one that is there is found
trail_found : (w : List ℕ) (t : ℕ) → trail_at w ≡ Some t → (b : BeginsWithTrail w) × (b.trail ≡ t)
trail_found [] t h = absurd (let k : ⊥ = cc h in k)
trail_found (x ∷ []) t h = absurd (let k : ⊥ = cc h in k)
trail_found (x ∷ y ∷ w) t h = elim (chosen ((x == 92) && (y == 117)) h) [
  | inl p ↦ trail_here x y w t p
  | inr p ↦ absurd (let k : ⊥ = cc p.1 in k)
]

trail_again : (w : List ℕ) (b : BeginsWithTrail w) → trail_at w ≡ Some b.trail
trail_again w b =
    ap trail_at b.whole
    ∙ ap (λ o. option_and_then (λ (t : ℕ × List ℕ). cond (is_trail t.0) (Some t.0) None) (option_map (λ v. (v, b.rest)) o)) b.number
    ∙ ap (λ c. cond c (Some b.trail) None) (within 0xDC00 0xDFFF b.trail b.is_trail.0 b.is_trail.1)

braces_run : (xs : List ℕ) (v m : ℕ) (k : Writing) → Run 0 0 xs v k m → Decodes true (117 ∷ 123 ∷ xs) v (m - 1)
braces_run xs v m k r = go r.digits refl
  where
    go : (ds : List ℕ) → r.digits ≡ ds → Decodes true (117 ∷ 123 ∷ xs) v (m - 1)
    go [] e = absurd (omega (arith, r.some, ap length e))
    go (y ∷ ys) e = record {
      spelled = 117 ∷ 123 ∷ y ∷ (ys ++ 125 ∷ []);
      rest = r.rest;
      spells = braced y ys (rw e at r.number) r.top;
      whole = ap (λ w. 117 ∷ 123 ∷ w) (r.whole ∙ ap (λ ds. ds ++ 125 ∷ r.rest) e ∙ ap (λ w. y ∷ w) (sym (append_assoc ys (125 ∷ []) r.rest)));
      count = omega (arith, r.count_is, ap length e, length-append ys (125 ∷ []));
    }

digits_found : (xs : List ℕ) (v n : ℕ) (r : EscapeRead) → digits_at 0 0 xs ≡ r → of_digits r ≡ value v n → Decodes true (117 ∷ 123 ∷ xs) v n
digits_found xs v n (escaped u k m) e h =
    subst (λ v. Decodes true (117 ∷ 123 ∷ xs) v n) (let same : u ≡ v = cc h in same)
    (subst (Decodes true (117 ∷ 123 ∷ xs) u) (let same : m - 1 ≡ n = cc h in same) (braces_run xs u m k (run_found 0 0 xs u k m e)))
digits_found xs v n r e h = absurd (let no : ⊥ = cc h in no)

braces_found : (w : List ℕ) (v n : ℕ) → braces_at w ≡ value v n → Decodes true (117 ∷ w) v n
braces_found [] v n h = absurd (let k : ⊥ = cc h in k)
braces_found (x ∷ xs) v n h = elim (chosen (x == 123) h) [
  | inl p ↦ rw (eqb-true x 123 p.0) (digits_found xs v n (digits_at 0 0 xs) refl (sym (run_is 0 0 xs) ∙ p.1))
  | inr p ↦ absurd (let k : ⊥ = cc p.1 in k)
]

lead_found : (v : ℕ) (w : List ℕ) (a b c d x n : ℕ) → hex_number (a ∷ b ∷ c ∷ d ∷ []) ≡ Some v → is_lead v ≡ true → (o : Option ℕ) → trail_at w ≡ o → pair_or_unit v o ≡ value x n → Decodes true (four a b c d ++ w) x n
lead_found v w a b c d x n number lead None e h = record {
  spelled = four a b c d;
  rest = w;
  spells = subst (λ x. SpellsUnicode true x (four a b c d) w) (let k : v ≡ x = cc h in k) (alone number (λ _ t. let k : ⊥ = cc (e, trail_again w t) in k));
  whole = refl;
  count = cc h;
}
lead_found v w a b c d x n number lead (Some t) e h =
    let f = trail_found w t e in
    let g = f.0 in
    record {
      spelled = four a b c d ++ 92 ∷ four g.a g.b g.c g.d;
      rest = g.rest;
      spells = subst (λ x. SpellsUnicode true x (four a b c d ++ 92 ∷ four g.a g.b g.c g.d) g.rest) (ap (surrogate_pair v) f.1 ∙ (let k : surrogate_pair v t ≡ x = cc h in k)) (pair number g.number (in_range 0xD800 0xDBFF v lead) g.is_trail);
      whole = ap (λ w. four a b c d ++ w) g.whole;
      count = cc h;
    }

four_decodes : (unicode_mode : Bool) (w : List ℕ) (v x n : ℕ) (rest : List ℕ) → Four w v rest → cond (unicode_mode && is_lead v) (pair_or_unit v (trail_at rest)) (value v 5) ≡ value x n → Decodes unicode_mode (117 ∷ w) x n
four_decodes false w v x n rest f h = record {
  spelled = four f.a f.b f.c f.d;
  rest = rest;
  spells = code_unit (f.number ∙ ap Some (let k : v ≡ x = cc h in k));
  whole = ap (λ w. 117 ∷ w) f.whole;
  count = cc h;
}
four_decodes true w v x n rest f h = elim (chosen (is_lead v) h) [
  | inl p ↦
      let r = lead_found v rest f.a f.b f.c f.d x n f.number p.0 (trail_at rest) refl p.1 in
      record {
        spelled = r.spelled;
        rest = r.rest;
        spells = r.spells;
        whole = ap (λ w. 117 ∷ w) f.whole ∙ r.whole;
        count = r.count;
      }
  | inr p ↦ record {
    spelled = four f.a f.b f.c f.d;
    rest = rest;
    spells = alone (f.number ∙ ap Some (let k : v ≡ x = cc p.1 in k)) (λ l _.
        let same : v ≡ x = cc p.1 in
        let no : ⊥ = cc (within 0xD800 0xDBFF x l.0 l.1, p.0, same) in
        no);
    whole = ap (λ w. 117 ∷ w) f.whole;
    count = cc p.1;
  }
]

u_found : (unicode_mode : Bool) (w : List ℕ) (v n : ℕ) (o : Option (ℕ × List ℕ)) → four_at w ≡ o → after_u unicode_mode o w ≡ value v n → Decodes unicode_mode (117 ∷ w) v n
u_found unicode_mode w v n (Some p) e h = four_decodes unicode_mode w p.0 v n p.1 (four_found w p.0 p.1 e) h
u_found true w v n None e h = braces_found w v n h
u_found false w v n None e h = absurd (let k : ⊥ = cc h in k)

-- read → spelled
pub read_spelled : (unicode_mode : Bool) (w : List ℕ) (v n : ℕ) → decoding_of unicode_mode w ≡ value v n → Decodes unicode_mode w v n
read_spelled unicode_mode [] v n h = absurd (let k : ⊥ = cc h in k)
read_spelled unicode_mode (x ∷ w) v n h = elim (chosen (x == 117) h) [
  | inl p ↦ rw (eqb-true x 117 p.0) (u_found unicode_mode w v n (four_at w) refl p.1)
  | inr p ↦ absurd (let k : ⊥ = cc p.1 in k)
]

lone_stays : (v : ℕ) (rest : List ℕ) → (IsLeadSurrogate v → BeginsWithTrail rest → ⊥) → cond (is_lead v) (pair_or_unit v (trail_at rest)) (value v 5) ≡ value v 5
lone_stays v rest no_pair = go (is_lead v) refl (trail_at rest) refl
  where
    go : (b : Bool) → is_lead v ≡ b → (o : Option ℕ) → trail_at rest ≡ o → cond b (pair_or_unit v o) (value v 5) ≡ value v 5
    go false e o f = refl
    go true e None f = refl
    go true e (Some t) f = absurd (no_pair (in_range 0xD800 0xDBFF v e) (trail_found rest t f).0)

brace_no_four : (w : List ℕ) → four_at (123 ∷ w) ≡ None
brace_no_four [] = refl
brace_no_four (a ∷ []) = refl
brace_no_four (a ∷ b ∷ []) = refl
brace_no_four (a ∷ b ∷ c ∷ w) = refl

-- spelled → read
pub spelled_read : (unicode_mode : Bool) (v : ℕ) (w rest : List ℕ) → SpellsUnicode unicode_mode v w rest → decoding_of unicode_mode (w ++ rest) ≡ value v (length w)
spelled_read _ v _ rest (code_unit {a} {b} {c} {d} number) = ap (λ o. after_u false (option_map (λ v. (v, rest)) o) (a ∷ b ∷ c ∷ d ∷ rest)) number
spelled_read _ v _ rest (alone {a} {b} {c} {d} number no_pair) =
    ap (λ o. after_u true (option_map (λ v. (v, rest)) o) (a ∷ b ∷ c ∷ d ∷ rest)) number ∙ lone_stays v rest no_pair
spelled_read _ _ _ rest (pair {a} {b} {c} {d} {e} {f} {g} {h} {lead} {trail} first second is_lead is_trail) =
    let w = 92 ∷ four e f g h ++ rest in
    ap (λ o. after_u true (option_map (λ v. (v, w)) o) (a ∷ b ∷ c ∷ d ∷ w)) first
    ∙ ap (λ b. cond b (pair_or_unit lead (trail_at w)) (value lead 5)) (within 0xD800 0xDBFF lead is_lead.0 is_lead.1)
    ∙ ap (pair_or_unit lead) (trail_again w (record {
      a = e;
      b = f;
      c = g;
      d = h;
      rest = rest;
      trail = trail;
      number = second;
      is_trail = is_trail;
      whole = refl;
    }))
spelled_read _ v _ rest (braced x xs number top) =
    ap (λ o. after_u true o (123 ∷ x ∷ (xs ++ 125 ∷ [] ++ rest))) (brace_no_four (x ∷ (xs ++ 125 ∷ [] ++ rest)))
    ∙ ap (λ w. run_at 0 0 (x ∷ w)) (append_assoc xs (125 ∷ []) rest)
    ∙ run_is 0 0 (x ∷ (xs ++ 125 ∷ rest))
    ∙ ap of_digits (run_again 0 0 (x ∷ xs) rest v number top (omega arith))
    ∙ ap (value v) (omega (arith, length-append xs (125 ∷ [])))

passes_from_over : (xs : List ℕ) (n : ℕ) → Over 0 0 xs n → PassesHex (117 ∷ 123 ∷ xs) (n - 3)
passes_from_over xs n r = record {
  digits = r.digits;
  next = r.next;
  rest = r.rest;
  number = r.number;
  digit = r.digit;
  whole = ap (λ w. 117 ∷ 123 ∷ w) r.whole;
  count_is = omega (arith, r.count_is);
  number_is = r.number_is;
  digit_is = r.digit_is;
  fits = r.fits;
  passes = r.over;
}

digits_over : (xs : List ℕ) (n : ℕ) (r : EscapeRead) → digits_at 0 0 xs ≡ r → of_digits r ≡ overflow n → PassesHex (117 ∷ 123 ∷ xs) n
digits_over xs n (passes m) e h = subst (PassesHex (117 ∷ 123 ∷ xs)) (let same : m - 3 ≡ n = cc h in same) (passes_from_over xs m (run_over 0 0 xs m (lit< tt) e))
digits_over xs n r e h = absurd (let no : ⊥ = cc h in no)

joined_no_over : (v n : ℕ) (o : Option ℕ) → pair_or_unit v o ≡ overflow n → ⊥
joined_no_over v n None h = cc h
joined_no_over v n (Some t) h = cc h

braces_over : (w : List ℕ) (n : ℕ) → braces_at w ≡ overflow n → PassesHex (117 ∷ w) n
braces_over [] n h = absurd (let k : ⊥ = cc h in k)
braces_over (x ∷ xs) n h = elim (chosen (x == 123) h) [
  | inl p ↦ rw (eqb-true x 123 p.0) (digits_over xs n (digits_at 0 0 xs) refl (sym (run_is 0 0 xs) ∙ p.1))
  | inr p ↦ absurd (let k : ⊥ = cc p.1 in k)
]

u_over : (unicode_mode : Bool) (w : List ℕ) (n : ℕ) (o : Option (ℕ × List ℕ)) → after_u unicode_mode o w ≡ overflow n → (unicode_mode ≡ true) × PassesHex (117 ∷ w) n
u_over unicode_mode w n (Some p) h = elim (chosen (unicode_mode && is_lead p.0) h) [
  | inl q ↦ absurd (joined_no_over p.0 n (trail_at p.1) q.1)
  | inr q ↦ absurd (let k : ⊥ = cc q.1 in k)
]
u_over true w n None h = (refl, braces_over w n h)
u_over false w n None h = absurd (let k : ⊥ = cc h in k)

pub read_overflow : (unicode_mode : Bool) (w : List ℕ) (n : ℕ) → decoding_of unicode_mode w ≡ overflow n → (unicode_mode ≡ true) × PassesHex w n
read_overflow unicode_mode [] n h = absurd (let k : ⊥ = cc h in k)
read_overflow unicode_mode (x ∷ w) n h = elim (chosen (x == 117) h) [
  | inl p ↦ rw (eqb-true x 117 p.0) (u_over unicode_mode w n (four_at w) p.1)
  | inr p ↦ absurd (let k : ⊥ = cc p.1 in k)
]

pub overflow_read : (w : List ℕ) (n : ℕ) → PassesHex w n → decoding_of true w ≡ overflow n
overflow_read w n p =
    ap (decoding_of true) p.whole
    ∙ ap (λ o. after_u true o (123 ∷ (p.digits ++ p.next ∷ p.rest))) (brace_no_four (p.digits ++ p.next ∷ p.rest))
    ∙ run_is 0 0 (p.digits ++ p.next ∷ p.rest)
    ∙ ap of_digits (run_over_again 0 0 p.digits p.next p.rest p.number p.digit p.number_is p.digit_is p.fits p.passes)
    ∙ ap overflow (omega (arith, p.count_is))

pub value_law : (unicode_mode : Bool) (w : List ℕ) (v n : ℕ) → (decoding_of unicode_mode w ≡ value v n) ↔ Decodes unicode_mode w v n
value_law unicode_mode w v n = (read_spelled unicode_mode w v n, λ d. ap (decoding_of unicode_mode) d.whole ∙ spelled_read unicode_mode v d.spelled d.rest d.spells ∙ ap (value v) d.count)

pub overflow_law : (unicode_mode : Bool) (w : List ℕ) (n : ℕ) → (decoding_of unicode_mode w ≡ overflow n) ↔ ((unicode_mode ≡ true) × PassesHex w n)
overflow_law unicode_mode w n = (read_overflow unicode_mode w n, λ p. ap (λ m. decoding_of m w) p.0 ∙ overflow_read w n p.1)

pub value_within : (unicode_mode : Bool) (us : List CodePoint) (v n : ℕ) → decoding_of unicode_mode (values us) ≡ value v n → n ≤ length us
value_within unicode_mode us v n h =
    let d = read_spelled unicode_mode (values us) v n h in
    omega (arith, d.count, length-append d.spelled d.rest, ap length d.whole, length-map us (λ (u : CodePoint). u.value))

pub overflow_within : (unicode_mode : Bool) (us : List CodePoint) (n : ℕ) → decoding_of unicode_mode (values us) ≡ overflow n → n + 2 < length us
overflow_within unicode_mode us n h =
    let p = (read_overflow unicode_mode (values us) n h).1 in
    omega (arith, p.count_is, length-append p.digits (p.next ∷ p.rest), ap length p.whole, length-map us (λ (u : CodePoint). u.value))

spelled_small : (unicode_mode : Bool) (v : ℕ) (w rest : List ℕ) → SpellsUnicode unicode_mode v w rest → v ≤ 0x10FFFF
spelled_small _ v _ rest (code_unit {a} {b} {c} {d} number) = let k = four_small a b c d v number in omega arith
spelled_small _ v _ rest (alone {a} {b} {c} {d} number no_pair) = let k = four_small a b c d v number in omega arith
spelled_small _ _ _ rest (pair {a} {b} {c} {d} {e} {f} {g} {h} {lead} {trail} first second is_lead is_trail) = omega (arith, is_lead.1, is_trail.1)
spelled_small _ v _ rest (braced x xs number top) = top

spelled_some : (unicode_mode : Bool) (v : ℕ) (w rest : List ℕ) → SpellsUnicode unicode_mode v w rest → 0 < length w
spelled_some _ v _ rest (code_unit number) = omega arith
spelled_some _ v _ rest (alone number no_pair) = omega arith
spelled_some _ _ _ rest (pair first second is_lead is_trail) = omega arith
spelled_some _ v _ rest (braced x xs number top) = omega arith

pub value_is_code_point : (unicode_mode : Bool) (w : List ℕ) (v n : ℕ) → decoding_of unicode_mode w ≡ value v n → v ≤ 0x10FFFF
value_is_code_point unicode_mode w v n h =
    let d = read_spelled unicode_mode w v n h in
    spelled_small unicode_mode v d.spelled d.rest d.spells

pub decoded_some : (unicode_mode : Bool) (w : List ℕ) (v n : ℕ) → decoding_of unicode_mode w ≡ value v n → 0 < n
decoded_some unicode_mode w v n h =
    let d = read_spelled unicode_mode w v n h in
    omega (arith, d.count, spelled_some unicode_mode v d.spelled d.rest d.spells)
