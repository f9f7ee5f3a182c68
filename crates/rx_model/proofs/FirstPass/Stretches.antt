-- Stretches of marks in which all groups are closed that open there, and the names in them.
use Rattle.std.proofs.Common.{◌≡◌, ap, sym, ◌∙◌, subst, ℕ, suc, ◌<◌, ◌≤◌, Some, List, [], ◌++◌, append-nil, Contains, arith, ◌⊎◌, inl, inr}
use Rattle.std.proofs.lemmas.Bool.{cases_lt}
use Rattle.std.proofs.lemmas.List.Elements.{Contains-append_left, Contains-append_right, Contains-append_cases}
use Rattle.rx_model.specs.declared.mode.Mode.{Mode}
use Rattle.rx_model.specs.FirstPass.GroupStates.{GroupState, group_states, Hides}
use Rattle.rx_model.specs.FirstPass.Marks.{Mark, mark_at, mark_name}
use Rattle.rx_model.specs.Trees.Names.{AreApart}
use Rattle.rx_model.proofs.FirstPass.MarkRows.{OnlyOthers}
use Rattle.rx_model.proofs.FirstPass.PartedMarks.{hidden_before}

module _ (mode : Mode) (ms : List Mark) where
  -- the mark at this index has this name
  abbrev pub HasName : ℕ → List ℕ → Type 0
  HasName b name = mark_name mode (mark_at ms b) ≡ Some name

  -- A mark before index s has the name, and these group states do not hide it.
  abbrev pub IsSeen : ℕ → List GroupState → List ℕ → Type 0
  IsSeen s fs name = (a : ℕ) × (a < s) × HasName a name × (Hides a fs → ⊥)

  -- the same by what is open there
  abbrev pub IsSeenAt : ℕ → List ℕ → Type 0
  IsSeenAt k name = IsSeen k (group_states ms k) name

  -- none of these names is seen
  abbrev pub AreUnseen : ℕ → List GroupState → List (List ℕ) → Type 0
  AreUnseen s fs names = (name : List ℕ) → Contains names name → IsSeen s fs name → ⊥

  -- Of the marks from k to j none has a name that is seen there.
  abbrev pub AreClear : ℕ → ℕ → Type 0
  AreClear k j = (b : ℕ) (name : List ℕ) → k ≤ b → b < j → HasName b name → IsSeenAt b name → ⊥

  -- a mark from k to j has the name
  abbrev pub OccursIn : ℕ → ℕ → List ℕ → Type 0
  OccursIn k j name = (b : ℕ) × (k ≤ b) × (b < j) × HasName b name

  -- the names from k to j are these
  pub record AreNamed (k : ℕ) (j : ℕ) (names : List (List ℕ)) : Type 0 where
    pub into : (name : List ℕ) → OccursIn k j name → Contains names name
    pub from : (name : List ℕ) → Contains names name → OccursIn k j name

  -- names of two stretches, one after the other
  pub named_both : (k i j : ℕ) (xs ys : List (List ℕ)) → k ≤ i → i ≤ j → AreNamed k i xs → AreNamed i j ys → AreNamed k j (xs ++ ys)
  named_both k i j xs ys le lf n m = record {
    into = λ name h. elim (cases_lt h.0 i) [
      | inl lt ↦ Contains-append_left xs ys name (n.into name (h.0, h.1, lt, h.3))
      | inr ge ↦ Contains-append_right xs ys name (m.into name (h.0, ge, h.2, h.3))
    ];
    from = λ name h. elim (Contains-append_cases xs ys name h) [
      | inl g ↦ let r = n.from name g in let lt = r.2 in (r.0, r.1, omega arith, r.3)
      | inr g ↦ let r = m.from name g in let l = r.1 in (r.0, omega arith, r.2, r.3)
    ];
  }

  -- no mark has a name
  pub unnamed : (k j : ℕ) → ((b : ℕ) (name : List ℕ) → k ≤ b → b < j → HasName b name → ⊥) → AreNamed k j []
  unnamed k j never = record {
    into = λ name h. absurd (never h.0 name h.1 h.2 h.3);
    from = λ name h. let l = h.1 in absurd (omega arith);
  }

  -- clear marks are clear in part, from the front and from the back
  pub clear_low : (k i j : ℕ) → i ≤ j → AreClear k j → AreClear k i
  clear_low k i j le c b name l g e s = c b name l (omega arith) e s

  pub clear_high : (k i j : ℕ) → k ≤ i → AreClear k j → AreClear i j
  clear_high k i j le c b name l g e s = c b name (omega arith) g e s

  -- two clear stretches, one after the other
  pub clear_both : (k i j : ℕ) → AreClear k i → AreClear i j → AreClear k j
  clear_both k i j c d b name l g e s = elim (cases_lt b i) [ inl h ↦ c b name l h e s | inr h ↦ d b name h g e s ]

  -- a single mark
  pub clear_one : (k : ℕ) → ((name : List ℕ) → HasName k name → IsSeenAt k name → ⊥) → AreClear k (suc k)
  clear_one k f b name l g h s =
      let here : b ≡ k = omega arith in
      f name (subst (λ i. HasName i name) here h) (subst (λ i. IsSeenAt i name) here s)

  -- what is only others has no names and is clear
  other_has_none : (k j : ℕ) → OnlyOthers ms k j → (b : ℕ) (name : List ℕ) → k ≤ b → b < j → HasName b name → ⊥
  other_has_none k j o b name l g h = let e = ap (mark_name mode) (o.each b l g) in cc

  pub others_named : (k j : ℕ) → OnlyOthers ms k j → AreNamed k j []
  others_named k j o = unnamed k j (other_has_none k j o)

  pub others_clear : (k j : ℕ) → OnlyOthers ms k j → AreClear k j
  others_clear k j o b name l g h s = other_has_none k j o b name l g h

  -- the names of two stretches are unseen where both are
  pub unseen_both : (s : ℕ) (fs : List GroupState) (xs ys : List (List ℕ)) → AreUnseen s fs xs → AreUnseen s fs ys → AreUnseen s fs (xs ++ ys)
  unseen_both s fs xs ys f g name h v = elim (Contains-append_cases xs ys name h) [ inl a ↦ f name a v | inr a ↦ g name a v ]

  -- The marks from k to j leave open what was open and have these names. They are clear exactly where this rule holds and none of the names was seen.
  pub record IsStretch (k : ℕ) (j : ℕ) (rule : Type 0) (names : List (List ℕ)) : Type 0 where
    pub up : k ≤ j
    pub same : group_states ms j ≡ group_states ms k
    pub named : AreNamed k j names
    pub sound : AreClear k j → rule × AreUnseen k (group_states ms k) names
    pub whole : rule → AreUnseen k (group_states ms k) names → AreClear k j

  pub others_stretch : (k j : ℕ) → OnlyOthers ms k j → IsStretch k j (Unit {0}) []
  others_stretch k j o = record {
    up = o.up;
    same = o.same;
    named = others_named k j o;
    sound = λ c. (tt, λ name h v. let l = h.1 in absurd (omega arith));
    whole = λ r f. others_clear k j o;
  }

  -- others after a stretch belong to it
  pub others_after : (k i j : ℕ) (rule : Type 0) (names : List (List ℕ)) → IsStretch k i rule names → OnlyOthers ms i j → IsStretch k j rule names
  others_after k i j rule names n o =
      let le = n.up in let lf = o.up in
      record {
        up = omega arith;
        same = o.same ∙ n.same;
        named = subst (AreNamed k j) (append-nil names) (named_both k i j names [] le lf n.named (others_named i j o));
        sound = λ c. n.sound (clear_low k i j lf c);
        whole = λ r f. clear_both k i j (n.whole r f) (others_clear i j o);
      }

  -- what is seen after a stretch was seen before it or is a name of it
  seen_after : (k j : ℕ) (names : List (List ℕ)) (name : List ℕ) → AreNamed k j names → group_states ms j ≡ group_states ms k → IsSeenAt j name → IsSeenAt k name ⊎ Contains names name
  seen_after k j names name n e s = elim (cases_lt s.0 k) [
    | inl lt ↦ inl (s.0, lt, s.2, λ h. s.3 (subst (Hides s.0) (sym e) h))
    | inr ge ↦ inr (n.into name (s.0, ge, s.1, s.2))
  ]

  -- what was seen before a stretch is seen after it
  seen_still : (k j : ℕ) (name : List ℕ) → k ≤ j → group_states ms j ≡ group_states ms k → IsSeenAt k name → IsSeenAt j name
  seen_still k j name le e s = let l = s.1 in (s.0, omega arith, s.2, λ h. s.3 (subst (Hides s.0) e h))

  -- and so are its names
  seen_now : (k j : ℕ) (names : List (List ℕ)) (name : List ℕ) → AreNamed k j names → group_states ms j ≡ group_states ms k → Contains names name → IsSeenAt j name
  seen_now k j names name n e h =
      let r = n.from name h in
      let le = r.1 in
      (r.0, r.2, r.3, λ g. let b = hidden_before ms k r.0 (subst (Hides r.0) e g) in absurd (omega arith))

  -- one stretch after another: their names are to be apart
  pub stretches : (k i j : ℕ) (r q : Type 0) (xs ys : List (List ℕ)) → IsStretch k i r xs → IsStretch i j q ys → IsStretch k j (AreApart xs ys × r × q) (xs ++ ys)
  stretches k i j r q xs ys m n =
      let le = m.up in let lf = n.up in
      record {
        up = omega arith;
        same = n.same ∙ m.same;
        named = named_both k i j xs ys le lf m.named n.named;
        sound = λ c.
            let a = m.sound (clear_low k i j lf c) in
            let b = n.sound (clear_high k i j le c) in (
              (λ name h g. b.1 name g (seen_now k i xs name m.named m.same h), a.0, b.0),
              unseen_both k (group_states ms k) xs ys a.1 (λ name h s. b.1 name h (seen_still k i name le m.same s)),
            );
        whole = λ t f.
            clear_both k i j (m.whole t.1 (λ name h s. f name (Contains-append_left xs ys name h) s))
            (n.whole t.2 (λ name h s. elim (seen_after k i xs name m.named m.same s) [ inl a ↦ f name (Contains-append_right xs ys name h) a | inr a ↦ t.0 name a h ]));
      }
