-- The row of marks of a text is what the function of marks gives, and each mark's name is what its units spell.
use Rattle.std.proofs.Common.{◌≡◌, refl, ap, ap₂, sym, ◌∙◌, subst, ℕ, zero, suc, ◌+◌, ◌==◌, ◌||◌, true, false, Contains, Some, None, List, [], ◌∷◌, ◌++◌, append_assoc, length, length-append, drop, arith, inl, inr, ◌↔◌}
use Rattle.std.proofs.Math.Seq.{drop-append_seam}
use Rattle.std.proofs.lemmas.Bool.{eqb-true, eq-eqb, cond-true, cases_Bool, false_from_ne_true}
use Rattle.std.proofs.lemmas.Bool.Decides.{nat_tests}
use Rattle.std.proofs.lemmas.List.{append-nil}
use Rattle.rx_model.specs.declared.mode.Mode.{Mode}
use Rattle.rx_model.specs.Groups.Groups.{is_mark, looks}
use Rattle.rx_model.specs.FirstPass.MarkTexts.{begins_mark, SpellsMark, escape, last_backslash, class, open_class, plain, ignoring, ahead, not_ahead, lookbehind, not_lookbehind, modifying, named, unclosed, closing, parting, one_unit, IsMarkRow, no_mark, mark, ArePlaces, no_place, place}
use Rattle.rx_model.specs.FirstPass.Marks.{Mark, other, quiet, capturing, starts, escape_rest, class_rest, has_close, specifier_front, after_angle, question_front, open_front, mark_front, marks, marks_following, places, places_following}
use Rattle.rx_model.specs.Quantifiers.Quantifiers.{is_question}
use Rattle.rx_model.proofs.FirstPass.ClassRest.{ClassFound, ended, held, class_ends, class_found, class_held}
use Rattle.rx_model.proofs.FirstPass.OpenerMarks.{marks_after, no_close_before, close_found, before_found}
use Rattle.rx_units.specs.Digits.{front_is}
use Rattle.rx_units.proofs.Choices.{chosen}

neither : (c d f : ℕ) → (c == d) ≡ false → (c == f) ≡ false → (c == d || c == f) ≡ false
neither c d f h k = rw (h, k) refl

-- whether a `>` is among some units
none_close : (w : List ℕ) → has_close w ≡ false → Contains w 62 → ⊥
none_close [] h (k, l, e) = omega arith
none_close (u ∷ w) h (zero, l, e) = let f : (u == 62) ≡ true = eq-eqb u 62 e in let no : true ≡ false = sym (cond-true (u == 62) true (has_close w) f) ∙ h in let k : ⊥ = cc no in k
none_close (u ∷ w) h (suc k, l, e) = elim (chosen (u == 62) h) [
  | inl p ↦ (let no : ⊥ = cc p.1 in no)
  | inr p ↦ none_close w p.1 (k, omega arith, e)
]

some_close : (w : List ℕ) → has_close w ≡ true → Contains w 62
some_close [] h = absurd (let no : ⊥ = cc h in no)
some_close (u ∷ w) h = elim (chosen (u == 62) h) [
  | inl p ↦ (0, omega arith, eqb-true u 62 p.0)
  | inr p ↦ let c = some_close w p.1 in (suc c.0, omega (arith, c.1), c.2)
]

without_close : (w : List ℕ) → (Contains w 62 → ⊥) → has_close w ≡ false
without_close w none = false_from_ne_true (has_close w) (λ h. none (some_close w h))

-- the next `>`, or none
data CloseFound : List ℕ → Type 0 where
  closed : (units rest : List ℕ) → has_close units ≡ false → CloseFound (units ++ (62 ∷ rest))
  never : (units : List ℕ) → has_close units ≡ false → CloseFound units

before_unit : (c : ℕ) (us : List ℕ) → (c == 62) ≡ false → CloseFound us → CloseFound (c ∷ us)
before_unit c _ h (closed units rest n) = closed (c ∷ units) rest (no_close_before c units h n)
before_unit c _ h (never units n) = never (c ∷ units) (no_close_before c units h n)

find_close : (us : List ℕ) → CloseFound us
find_close [] = never [] refl
find_close (c ∷ us) = elim (cases_Bool (c == 62)) [
  | inl h ↦ subst (λ c. CloseFound (c ∷ us)) (sym (eqb-true c 62 h)) (closed [] us refl)
  | inr h ↦ before_unit c us h (find_close us)
]

-- what the function of marks does at each row
looks_same : (us : List ℕ) → (starts 61 us || starts 33 us) ≡ front_is looks us
looks_same [] = refl
looks_same (c ∷ us) = refl

specifier_closed : (units rest : List ℕ) → has_close units ≡ false → specifier_front (units ++ (62 ∷ rest)) ≡ (capturing (Some units), length units + 3)
specifier_closed units rest h = rw (close_found units rest h, before_found units rest h) refl

specifier_open : (units : List ℕ) → has_close units ≡ false → specifier_front units ≡ (capturing None, length units + 2)
specifier_open units h = rw h refl

angle_front : (us : List ℕ) → front_is looks us ≡ false → after_angle us ≡ specifier_front us
angle_front us h = rw (looks_same us ∙ h) refl

modifying_front : (us : List ℕ) → front_is is_mark us ≡ false → question_front us ≡ (quiet, 1)
modifying_front [] h = refl
modifying_front (c ∷ us) h = grind (arith, nat_tests)

plain_front : (us : List ℕ) → front_is is_question us ≡ false → open_front us ≡ (capturing None, 0)
plain_front [] h = refl
plain_front (c ∷ us) h = rw h refl

unit_front : (mode : Mode) (c : ℕ) (us : List ℕ) → begins_mark c ≡ false → mark_front mode c us ≡ (other, 0)
unfolding mark_front
unit_front mode c us h = grind (arith, nat_tests)

-- A mark that is spelled is the mark at the front, with all its units.
record IsFront (mode : Mode) (m : Mark) (w rest : List ℕ) : Type 0 where
  first : ℕ
  more : List ℕ
  whole : w ≡ first ∷ more
  front : mark_front mode first (more ++ rest) ≡ (m, length more)

named_front : (units rest : List ℕ) → front_is looks (units ++ (62 ∷ rest)) ≡ false → (Contains units 62 → ⊥) →
    open_front (63 ∷ 60 ∷ ((units ++ (62 ∷ [])) ++ rest)) ≡ (capturing (Some units), length (63 ∷ 60 ∷ (units ++ (62 ∷ []))))
named_front units rest l n =
    let whole = append_assoc units (62 ∷ []) rest in
    let count : length units + 3 ≡ length (63 ∷ 60 ∷ (units ++ (62 ∷ []))) = omega (arith, length-append units (62 ∷ [])) in
    ap after_angle whole ∙ angle_front (units ++ (62 ∷ rest)) l ∙ specifier_closed units rest (without_close units n) ∙ ap (λ k. (capturing (Some units), k)) count

unclosed_front : (units : List ℕ) → front_is looks units ≡ false → (Contains units 62 → ⊥) → open_front (63 ∷ 60 ∷ (units ++ [])) ≡ (capturing None, length (63 ∷ 60 ∷ units))
unclosed_front units l n =
    let count : length units + 2 ≡ length (63 ∷ 60 ∷ units) = omega arith in
    ap after_angle (append-nil units) ∙ angle_front units l ∙ specifier_open units (without_close units n) ∙ ap (λ k. (capturing None, k)) count

mark_is_front : (mode : Mode) (m : Mark) (w rest : List ℕ) → SpellsMark mode m w rest → IsFront mode m w rest
unfolding mark_front
mark_is_front mode _ _ rest (escape c) = record { first = 92; more = c ∷ []; whole = refl; front = refl }
mark_is_front mode _ _ _ last_backslash = record { first = 92; more = []; whole = refl; front = refl }
mark_is_front mode _ _ rest (class inside a) = record { first = 91; more = inside ++ (93 ∷ []); whole = refl; front = ap (λ n. (other, n)) (class_ends mode inside rest a) }
mark_is_front mode _ _ _ (open_class w o) = record { first = 91; more = w; whole = refl; front = ap (λ v. mark_front mode 91 v) (append-nil w) ∙ ap (λ n. (other, n)) (class_held mode 0 w o) }
mark_is_front mode _ _ rest (plain h) = record { first = 40; more = []; whole = refl; front = plain_front rest h }
mark_is_front mode _ _ rest ignoring = record { first = 40; more = 63 ∷ 58 ∷ []; whole = refl; front = refl }
mark_is_front mode _ _ rest ahead = record { first = 40; more = 63 ∷ 61 ∷ []; whole = refl; front = refl }
mark_is_front mode _ _ rest not_ahead = record { first = 40; more = 63 ∷ 33 ∷ []; whole = refl; front = refl }
mark_is_front mode _ _ rest lookbehind = record { first = 40; more = 63 ∷ 60 ∷ 61 ∷ []; whole = refl; front = refl }
mark_is_front mode _ _ rest not_lookbehind = record { first = 40; more = 63 ∷ 60 ∷ 33 ∷ []; whole = refl; front = refl }
mark_is_front mode _ _ rest (modifying h) = record { first = 40; more = 63 ∷ []; whole = refl; front = modifying_front rest h }
mark_is_front mode _ _ rest (named units l n) = record { first = 40; more = 63 ∷ 60 ∷ (units ++ (62 ∷ [])); whole = refl; front = named_front units rest l n }
mark_is_front mode _ _ _ (unclosed units l n) = record { first = 40; more = 63 ∷ 60 ∷ units; whole = refl; front = unclosed_front units l n }
mark_is_front mode _ _ rest closing = record { first = 41; more = []; whole = refl; front = refl }
mark_is_front mode _ _ rest parting = record { first = 124; more = []; whole = refl; front = refl }
mark_is_front mode _ _ rest (one_unit c h) = record { first = c; more = []; whole = refl; front = unit_front mode c rest h }

marks_front : (mode : Mode) (m : Mark) (w rest : List ℕ) → IsFront mode m w rest → marks mode (w ++ rest) ≡ m ∷ marks mode rest
marks_front mode m w rest f =
    ap (λ w. marks mode (w ++ rest)) f.whole
    ∙ ap (λ p. p.0 ∷ marks_following mode p.1 (f.more ++ rest)) f.front
    ∙ ap (λ ms. m ∷ ms) (marks_after mode f.more rest)

pub spelled_mark : (mode : Mode) (m : Mark) (w rest : List ℕ) → SpellsMark mode m w rest → marks mode (w ++ rest) ≡ m ∷ marks mode rest
spelled_mark mode m w rest s = marks_front mode m w rest (mark_is_front mode m w rest s)

row_marks : (mode : Mode) (us : List ℕ) (ms : List Mark) → IsMarkRow mode us ms → ms ≡ marks mode us
row_marks mode _ _ no_mark = refl
row_marks mode _ _ (mark {m} {ms} w rest s r) = ap (λ ms. m ∷ ms) (row_marks mode rest ms r) ∙ sym (spelled_mark mode m w rest s)

-- The mark at the front is spelled by the units that it takes.
record Taken (mode : Mode) (first : ℕ) (us : List ℕ) (p : Mark × ℕ) : Type 0 where
  more : List ℕ
  rest : List ℕ
  whole : us ≡ more ++ rest
  spells : SpellsMark mode p.0 (first ∷ more) rest
  count : p.1 ≡ length more

none_of_four : (c : ℕ) → (c == 58) ≡ false → (c == 61) ≡ false → (c == 33) ≡ false → (c == 60) ≡ false → is_mark c ≡ false
none_of_four c h k l m = grind (arith, nat_tests)

none_of_five : (c : ℕ) → (c == 92) ≡ false → (c == 91) ≡ false → (c == 40) ≡ false → (c == 41) ≡ false → (c == 124) ≡ false → begins_mark c ≡ false
none_of_five c h k l m n = grind (arith, nat_tests)

module _ (mode : Mode) where
  escape_taken : (us : List ℕ) → Taken mode 92 us (other, escape_rest us)
  escape_taken [] = record { more = []; rest = []; whole = refl; spells = last_backslash; count = refl }
  escape_taken (c ∷ us) = record { more = c ∷ []; rest = us; whole = refl; spells = escape c; count = refl }

  class_taken : (us : List ℕ) → ClassFound mode 0 us → Taken mode 91 us (other, class_rest mode false 0 us)
  class_taken _ (ended inside rest a) = record {
    more = inside ++ (93 ∷ []);
    rest = rest;
    whole = sym (append_assoc inside (93 ∷ []) rest);
    spells = class inside a;
    count = ap (class_rest mode false 0) (sym (append_assoc inside (93 ∷ []) rest)) ∙ class_ends mode inside rest a;
  }
  class_taken _ (held {w} o) = record { more = w; rest = []; whole = sym (append-nil w); spells = open_class w o; count = class_held mode 0 w o }

  -- as what equals it
  taken_as : (first : ℕ) (us : List ℕ) (p q : Mark × ℕ) → p ≡ q → Taken mode first us q → Taken mode first us p
  taken_as first us p q e t = subst (Taken mode first us) (sym e) t

  named_taken : (us : List ℕ) → front_is looks us ≡ false → CloseFound us → Taken mode 40 (63 ∷ 60 ∷ us) (specifier_front us)
  named_taken _ l (closed units rest n) = taken_as 40 (63 ∷ 60 ∷ (units ++ (62 ∷ rest))) (specifier_front (units ++ (62 ∷ rest))) (capturing (Some units), length units + 3) (specifier_closed units rest n) (record {
    more = 63 ∷ 60 ∷ (units ++ (62 ∷ []));
    rest = rest;
    whole = ap (λ us. 63 ∷ 60 ∷ us) (sym (append_assoc units (62 ∷ []) rest));
    spells = named units l (none_close units n);
    count = omega (arith, length-append units (62 ∷ []));
  })
  named_taken _ l (never units n) = taken_as 40 (63 ∷ 60 ∷ units) (specifier_front units) (capturing None, length units + 2) (specifier_open units n) (record {
    more = 63 ∷ 60 ∷ units;
    rest = [];
    whole = ap (λ us. 63 ∷ 60 ∷ us) (sym (append-nil units));
    spells = unclosed units l (none_close units n);
    count = omega arith;
  })

  angle_taken : (us : List ℕ) → Taken mode 40 (63 ∷ 60 ∷ us) (after_angle us)
  angle_taken [] = named_taken [] refl (find_close [])
  angle_taken (c ∷ us) = elim (cases_Bool (c == 61)) [
    | inl h ↦ subst (λ c. Taken mode 40 (63 ∷ 60 ∷ c ∷ us) (after_angle (c ∷ us))) (sym (eqb-true c 61 h)) (record { more = 63 ∷ 60 ∷ 61 ∷ []; rest = us; whole = refl; spells = lookbehind; count = refl })
    | inr h ↦ elim (cases_Bool (c == 33)) [
      | inl k ↦ subst (λ c. Taken mode 40 (63 ∷ 60 ∷ c ∷ us) (after_angle (c ∷ us))) (sym (eqb-true c 33 k)) (record { more = 63 ∷ 60 ∷ 33 ∷ []; rest = us; whole = refl; spells = not_lookbehind; count = refl })
      | inr k ↦
          let l : front_is looks (c ∷ us) ≡ false = neither c 61 33 h k in
          taken_as 40 (63 ∷ 60 ∷ c ∷ us) (after_angle (c ∷ us)) (specifier_front (c ∷ us)) (angle_front (c ∷ us) l) (named_taken (c ∷ us) l (find_close (c ∷ us)))
    ]
  ]

  modifying_taken : (us : List ℕ) → front_is is_mark us ≡ false → Taken mode 40 (63 ∷ us) (question_front us)
  modifying_taken us h = taken_as 40 (63 ∷ us) (question_front us) (quiet, 1) (modifying_front us h) (record { more = 63 ∷ []; rest = us; whole = refl; spells = modifying h; count = refl })

  question_taken : (us : List ℕ) → Taken mode 40 (63 ∷ us) (question_front us)
  question_taken [] = modifying_taken [] refl
  question_taken (c ∷ us) = elim (cases_Bool (c == 58)) [
    | inl h ↦ subst (λ c. Taken mode 40 (63 ∷ c ∷ us) (question_front (c ∷ us))) (sym (eqb-true c 58 h)) (record { more = 63 ∷ 58 ∷ []; rest = us; whole = refl; spells = ignoring; count = refl })
    | inr h ↦ elim (cases_Bool (c == 61)) [
      | inl k ↦ subst (λ c. Taken mode 40 (63 ∷ c ∷ us) (question_front (c ∷ us))) (sym (eqb-true c 61 k)) (record { more = 63 ∷ 61 ∷ []; rest = us; whole = refl; spells = ahead; count = refl })
      | inr k ↦ elim (cases_Bool (c == 33)) [
        | inl l ↦ subst (λ c. Taken mode 40 (63 ∷ c ∷ us) (question_front (c ∷ us))) (sym (eqb-true c 33 l)) (record { more = 63 ∷ 33 ∷ []; rest = us; whole = refl; spells = not_ahead; count = refl })
        | inr l ↦ elim (cases_Bool (c == 60)) [
          | inl m ↦ subst (λ c. Taken mode 40 (63 ∷ c ∷ us) (question_front (c ∷ us))) (sym (eqb-true c 60 m)) (angle_taken us)
          | inr m ↦ modifying_taken (c ∷ us) (none_of_four c h k l m)
        ]
      ]
    ]
  ]

  plain_taken : (us : List ℕ) → front_is is_question us ≡ false → Taken mode 40 us (open_front us)
  plain_taken us h = taken_as 40 us (open_front us) (capturing None, 0) (plain_front us h) (record { more = []; rest = us; whole = refl; spells = plain h; count = refl })

  open_taken : (us : List ℕ) → Taken mode 40 us (open_front us)
  open_taken [] = plain_taken [] refl
  open_taken (c ∷ us) = elim (cases_Bool (c == 63)) [
    | inl h ↦ subst (λ c. Taken mode 40 (c ∷ us) (open_front (c ∷ us))) (sym (eqb-true c 63 h)) (question_taken us)
    | inr h ↦ plain_taken (c ∷ us) h
  ]

  front_taken : (u : ℕ) (us : List ℕ) → Taken mode u us (mark_front mode u us)
  unfolding mark_front
  front_taken u us = elim (cases_Bool (u == 92)) [
    | inl h ↦ subst (λ u. Taken mode u us (mark_front mode u us)) (sym (eqb-true u 92 h)) (escape_taken us)
    | inr h ↦ elim (cases_Bool (u == 91)) [
      | inl k ↦ subst (λ u. Taken mode u us (mark_front mode u us)) (sym (eqb-true u 91 k)) (class_taken us (class_found mode false 0 us))
      | inr k ↦ elim (cases_Bool (u == 40)) [
        | inl l ↦ subst (λ u. Taken mode u us (mark_front mode u us)) (sym (eqb-true u 40 l)) (open_taken us)
        | inr l ↦ elim (cases_Bool (u == 41)) [
          | inl m ↦ subst (λ u. Taken mode u us (mark_front mode u us)) (sym (eqb-true u 41 m)) (record { more = []; rest = us; whole = refl; spells = closing; count = refl })
          | inr m ↦ elim (cases_Bool (u == 124)) [
            | inl n ↦ subst (λ u. Taken mode u us (mark_front mode u us)) (sym (eqb-true u 124 n)) (record { more = []; rest = us; whole = refl; spells = parting; count = refl })
            | inr n ↦
                let none = none_of_five u h k l m n in
                taken_as u us (mark_front mode u us) (other, 0) (unit_front mode u us none) (record { more = []; rest = us; whole = refl; spells = one_unit u none; count = refl })
          ]
        ]
      ]
    ]
  ]

-- what is left after the mark at the front
left : (mode : Mode) (u : ℕ) (us : List ℕ) (p : Mark × ℕ) (t : Taken mode u us p) → drop p.1 us ≡ t.rest
left mode u us p t = ap₂ drop t.count t.whole ∙ drop-append_seam t.more t.rest

-- A text is the row of its marks.
marks_row : (mode : Mode) (n : ℕ) (us : List ℕ) → IsMarkRow mode (drop n us) (marks_following mode n us)
marks_row mode zero [] = no_mark
marks_row mode (suc n) [] = no_mark
marks_row mode (suc n) (u ∷ us) = marks_row mode n us
marks_row mode zero (u ∷ us) =
    let t = front_taken mode u us in
    let ms = marks_following mode (mark_front mode u us).1 us in
    let r = subst (λ rest. IsMarkRow mode rest ms) (left mode u us (mark_front mode u us) t) (marks_row mode (mark_front mode u us).1 us) in
    subst (λ text. IsMarkRow mode text ((mark_front mode u us).0 ∷ ms)) (ap (λ text. u ∷ text) (sym t.whole)) (mark (u ∷ t.more) t.rest t.spells r)

pub marks_law : (mode : Mode) (us : List ℕ) (ms : List Mark) → IsMarkRow mode us ms ↔ (ms ≡ marks mode us)
marks_law mode us ms = (row_marks mode us ms, λ e. subst (IsMarkRow mode us) (sym e) (marks_row mode 0 us))

-- A text begins with at most one mark.
front_alone : (mode : Mode) (m n : Mark) (w rest v back : List ℕ) → IsFront mode m w rest → IsFront mode n v back → w ++ rest ≡ v ++ back → (m ≡ n) × (rest ≡ back)
front_alone mode m n w rest v back f g h =
    let whole : f.first ∷ (f.more ++ rest) ≡ g.first ∷ (g.more ++ back) = ap (λ w. w ++ rest) (sym f.whole) ∙ h ∙ ap (λ v. v ++ back) g.whole in
    let first : f.first ≡ g.first = cc whole in
    let more : f.more ++ rest ≡ g.more ++ back = cc whole in
    let same : (m, length f.more) ≡ (n, length g.more) = sym f.front ∙ ap₂ (mark_front mode) first more ∙ g.front in
    (ap (λ p. p.0) same, sym (drop-append_seam f.more rest) ∙ ap₂ drop (ap (λ p. p.1) same) more ∙ drop-append_seam g.more back)

pub one_mark : (mode : Mode) (m n : Mark) (w rest v back : List ℕ) → SpellsMark mode m w rest → SpellsMark mode n v back → w ++ rest ≡ v ++ back → (m ≡ n) × (rest ≡ back)
one_mark mode m n w rest v back s t = front_alone mode m n w rest v back (mark_is_front mode m w rest s) (mark_is_front mode n v back t)

-- The places of marks are those at which they begin.
places_after : (mode : Mode) (at : ℕ) (w rest : List ℕ) → places_following mode at (length w) (w ++ rest) ≡ places_following mode (at + length w) 0 rest
places_after mode at [] rest = ap (λ n. places_following mode n 0 rest) (omega arith)
places_after mode at (u ∷ w) rest = places_after mode (at + 1) w rest ∙ ap (λ n. places_following mode n 0 rest) (omega arith)

front_places : (mode : Mode) (at : ℕ) (m : Mark) (w rest : List ℕ) → IsFront mode m w rest → places_following mode at 0 (w ++ rest) ≡ at ∷ places_following mode (at + length w) 0 rest
front_places mode at m w rest f =
    let l = ap length f.whole in
    ap (λ w. places_following mode at 0 (w ++ rest)) f.whole
    ∙ ap (λ p. at ∷ places_following mode (at + 1) p.1 (f.more ++ rest)) f.front
    ∙ ap (λ ps. at ∷ ps) (places_after mode (at + 1) f.more rest ∙ ap (λ n. places_following mode n 0 rest) (omega (arith, l)))

pub first_place : (mode : Mode) (at : ℕ) (m : Mark) (w rest : List ℕ) → SpellsMark mode m w rest → places_following mode at 0 (w ++ rest) ≡ at ∷ places_following mode (at + length w) 0 rest
first_place mode at m w rest s = front_places mode at m w rest (mark_is_front mode m w rest s)

places_are : (mode : Mode) (at : ℕ) (us ps : List ℕ) → ArePlaces mode at us ps → ps ≡ places_following mode at 0 us
places_are mode _ _ _ no_place = refl
places_are mode _ _ _ (place {m} {at} {ps} w rest s r) = ap (λ ps. at ∷ ps) (places_are mode (at + length w) rest ps r) ∙ sym (first_place mode at m w rest s)

are_places : (mode : Mode) (at : ℕ) (us : List ℕ) (ms : List Mark) → IsMarkRow mode us ms → ArePlaces mode at us (places_following mode at 0 us)
are_places mode at _ _ no_mark = no_place
are_places mode at _ _ (mark {m} {ms} w rest s r) =
    subst (ArePlaces mode at (w ++ rest)) (sym (first_place mode at m w rest s)) (place w rest s (are_places mode (at + length w) rest ms r))

pub row_of : (mode : Mode) (us : List ℕ) → IsMarkRow mode us (marks mode us)
row_of mode us = marks_row mode 0 us

pub places_law : (mode : Mode) (us ps : List ℕ) → ArePlaces mode 0 us ps ↔ (ps ≡ places mode us)
places_law mode us ps = (places_are mode 0 us ps, λ e. subst (ArePlaces mode 0 us) (sym e) (are_places mode 0 us (marks mode us) (row_of mode us)))
