-- The alternatives of a group as stretches of marks, and the group as one of them.
use Rattle.std.proofs.Common.{◌≡◌, refl, ap, sym, ◌∙◌, subst, ℕ, suc, ◌<◌, ◌≤◌, None, List, [], ◌∷◌, ◌++◌, append-nil, arith, inl, inr}
use Rattle.std.proofs.lemmas.Bool.{cases_lt}
use Rattle.std.proofs.lemmas.List.Elements.{Contains-append_left, Contains-append_right}
use Rattle.rx_ast.specs.Tree as tree
use Rattle.rx_model.specs.declared.mode.Mode.{Mode}
use Rattle.rx_model.specs.FirstPass.Cuts.{IsOpening}
use Rattle.rx_model.specs.FirstPass.GroupStates.{GroupState, step, drop_top, group_states, Hides}
use Rattle.rx_model.specs.FirstPass.Marks as mark
use Rattle.rx_model.specs.FirstPass.Marks.{Mark, mark_at, mark_name}
use Rattle.rx_model.specs.Trees.Names.{AreApart, opener_names}
use Rattle.rx_model.specs.Trees.Token.{opener_of}
use Rattle.rx_model.proofs.FirstPass.MarkRows.{OnlyOthers, opening_named, named_opening}
use Rattle.rx_model.proofs.FirstPass.InnerGroups.{Falls, falls}
use Rattle.rx_model.proofs.FirstPass.PartedMarks.{hidden_before}
use Rattle.rx_model.proofs.FirstPass.Stretches.{HasName, IsSeen, IsSeenAt, AreUnseen, AreClear, AreNamed, IsStretch, named_both, unnamed, clear_low, clear_high, clear_both, clear_one, others_named, others_clear, unseen_both}

-- the group state of a group falls with it
drop_pushed : (f : GroupState) (fs : List GroupState) → Falls fs → drop_top (f ∷ fs) ≡ fs
drop_pushed f [] w = absurd w
drop_pushed f (g ∷ gs) w = refl

module _ (mode : Mode) (ms : List Mark) where
  -- At k the same names are seen as before the group that begins at index s, over these group states.
  abbrev pub SeesAsBefore : ℕ → List GroupState → ℕ → Type 0
  SeesAsBefore s fs k =
      (name : List ℕ) → (IsSeenAt mode ms k name → IsSeen mode ms s fs name) × (IsSeen mode ms s fs name → IsSeenAt mode ms k name)

  -- The marks from k to j, in a group that begins at index s over these group states, leave it open and have these names. They are clear exactly where
  -- this rule holds and none of the names was seen before the group.
  pub record IsBody (s : ℕ) (fs : List GroupState) (k : ℕ) (j : ℕ) (rule : Type 0) (names : List (List ℕ)) : Type 0 where
    pub last : ℕ
    pub up : k ≤ j
    pub same : group_states ms j ≡ (s, last) ∷ fs
    pub named : AreNamed mode ms k j names
    pub sound : AreClear mode ms k j → rule × AreUnseen mode ms s fs names
    pub whole : rule → AreUnseen mode ms s fs names → AreClear mode ms k j

  -- where no alternative follows
  pub no_body : (s last : ℕ) (fs : List GroupState) (k : ℕ) → group_states ms k ≡ (s, last) ∷ fs → IsBody s fs k k (Unit {0}) []
  no_body s last fs k e = record {
    last = last;
    up = omega arith;
    same = e;
    named = unnamed mode ms k k (λ b name l g h. omega arith);
    sound = λ c. (tt, λ name h v. let l = h.1 in absurd (omega arith));
    whole = λ r f b name l g h v. absurd (omega arith);
  }

  -- an alternative, and those that follow it
  pub alternative_body : (s : ℕ) (fs : List GroupState) (k i j : ℕ) (r q : Type 0) (xs ys : List (List ℕ)) →
      SeesAsBefore s fs k → IsStretch mode ms k i r xs → IsBody s fs i j q ys → IsBody s fs k j (r × q) (xs ++ ys)
  alternative_body s fs k i j r q xs ys v n l =
      let le = n.up in let lf = l.up in
      record {
        last = l.last;
        up = omega arith;
        same = l.same;
        named = named_both mode ms k i j xs ys le lf n.named l.named;
        sound = λ c.
            let a = n.sound (clear_low mode ms k i j lf c) in
            let b = l.sound (clear_high mode ms k i j le c) in
            ((a.0, b.0), unseen_both mode ms s fs xs ys (λ name h g. a.1 name h ((v name).1 g)) b.1);
        whole = λ t f.
            clear_both mode ms k i j (n.whole t.0 (λ name h g. f name (Contains-append_left xs ys name h) ((v name).0 g)))
            (l.whole t.1 (λ name h g. f name (Contains-append_right xs ys name h) g));
      }

  -- a mark without a name has none
  none_at : (k : ℕ) (m : Mark) → mark_at ms k ≡ m → mark_name mode m ≡ None → (b : ℕ) (name : List ℕ) → k ≤ b → b < suc k → HasName mode ms b name → ⊥
  none_at k m e none b name l g h = let here : b ≡ k = omega arith in let f = ap (mark_name mode) (ap (mark_at ms) here ∙ e) in cc

  -- the same after a bar
  pub bar_body : (s : ℕ) (fs : List GroupState) (k j : ℕ) (rule : Type 0) (names : List (List ℕ)) → mark_at ms k ≡ mark.bar → IsBody s fs (suc k) j rule names → IsBody s fs k j rule names
  bar_body s fs k j rule names e l =
      let up = l.up in
      let never = none_at k mark.bar e refl in
      record {
        last = l.last;
        up = omega arith;
        same = l.same;
        named = named_both mode ms k (suc k) j [] names (omega arith) up (unnamed mode ms k (suc k) never) l.named;
        sound = λ c. l.sound (clear_high mode ms k (suc k) j (omega arith) c);
        whole = λ t f.
            clear_both mode ms k (suc k) j (λ b name le g h v. never b name le g h) (l.whole t f);
      }

  -- after a bar all that stands in the group before it is hidden
  pub after_bar : (s last : ℕ) (fs : List GroupState) (k : ℕ) → group_states ms k ≡ (s, last) ∷ fs → s ≤ k → mark_at ms k ≡ mark.bar → (group_states ms (suc k) ≡ (s, k) ∷ fs) × SeesAsBefore s fs (suc k)
  after_bar s last fs k e le b =
      let f : group_states ms (suc k) ≡ (s, k) ∷ fs = ap (λ m. step k m (group_states ms k)) b ∙ ap (step k mark.bar) e in (
        f,
        λ name. (
          λ v. let lt = v.1 in elim (cases_lt v.0 s) [
            | inl l ↦ (v.0, l, v.2, λ h. v.3 (subst (Hides v.0) (sym f) (inr h)))
            | inr g ↦ elim (cases_lt v.0 k) [
              | inl l ↦ absurd (v.3 (subst (Hides v.0) (sym f) (inl (g, l))))
              | inr q ↦ absurd (none_at k mark.bar b refl v.0 name q v.1 v.2)
            ]
          ],
          λ v. let lt = v.1 in (v.0, omega arith, v.2, λ h. elim (subst (Hides v.0) f h) [ inl g ↦ let l = g.0 in absurd (omega arith) | inr g ↦ v.3 g ]),
        ),
      )

  -- after an opening and the others that belong to it nothing new is seen
  pub after_opening : (s : ℕ) (fs : List GroupState) (i : ℕ) → group_states ms s ≡ (s, s) ∷ fs → OnlyOthers ms s i → (group_states ms i ≡ (s, s) ∷ fs) × SeesAsBefore s fs i
  after_opening s fs i e o =
      let f : group_states ms i ≡ (s, s) ∷ fs = o.same ∙ e in
      let up = o.up in (
        f,
        λ name. (
          λ v. let l = v.1 in elim (cases_lt v.0 s) [
            | inl lt ↦ (v.0, lt, v.2, λ h. v.3 (subst (Hides v.0) (sym f) (inr h)))
            | inr ge ↦ let q = ap (mark_name mode) (o.each v.0 ge l) in let is = v.2 in cc
          ],
          λ v. let l = v.1 in (v.0, omega arith, v.2, λ h. elim (subst (Hides v.0) f h) [ inl g ↦ let q = g.0 in absurd (omega arith) | inr g ↦ v.3 g ]),
        ),
      )

  -- the name of an opening is the group's
  opening_names : (o : tree.Opener) (k : ℕ) → IsOpening mode (opener_of o) (mark_at ms k) → AreNamed mode ms k (suc k) (opener_names o)
  opening_names o k e = record {
    into = λ name h.
        let l = h.1 in let g = h.2 in
        let here : h.0 ≡ k = omega arith in
        opening_named mode o (mark_at ms k) name e (subst (λ i. HasName mode ms i name) here h.3);
    from = λ name h. (k, omega arith, omega arith, named_opening mode o (mark_at ms k) name e h);
  }

  -- after the opening of a group only its alternatives have names
  body_named : (k i m : ℕ) (names : List (List ℕ)) → OnlyOthers ms (suc k) i → i ≤ m → AreNamed mode ms i m names → mark_at ms m ≡ mark.closer → AreNamed mode ms (suc k) (suc m) names
  body_named k i m names others le n d =
      let up = others.up in
      let opened = named_both mode ms (suc k) i m [] names up le (others_named mode ms (suc k) i others) n in
      let closed = unnamed mode ms m (suc m) (none_at m mark.closer d refl) in
      subst (AreNamed mode ms (suc k) (suc m)) (append-nil names) (named_both mode ms (suc k) m (suc m) names [] (omega arith) (omega arith) opened closed)

  -- A group is a stretch: its name is to be none of those in it.
  pub group_stretch : (o : tree.Opener) (k i m : ℕ) (rule : Type 0) (names : List (List ℕ)) →
      IsOpening mode (opener_of o) (mark_at ms k) → OnlyOthers ms (suc k) i → IsBody (suc k) (group_states ms k) i m rule names → mark_at ms m ≡ mark.closer →
      IsStretch mode ms k (suc m) (AreApart (opener_names o) names × rule) (opener_names o ++ names)
  group_stretch o k i m rule names e others l d =
      let fs = group_states ms k in
      let up = others.up in let le = l.up in
      record {
        up = omega arith;
        same = ap (λ x. step m x (group_states ms m)) d ∙ ap drop_top l.same ∙ drop_pushed (suc k, l.last) fs (falls ms k).0;
        named = named_both mode ms k (suc k) (suc m) (opener_names o) names (omega arith) (omega arith) (opening_names o k e) (body_named k i m names others le l.named d);
        sound = λ c.
            let b = l.sound (clear_low mode ms i m (suc m) (omega arith) (clear_high mode ms k i (suc m) (omega arith) c)) in (
              (λ name h g. b.1 name g (k, omega arith, named_opening mode o (mark_at ms k) name e h, λ q. let x = hidden_before ms k k q in absurd (omega arith)), b.0),
              unseen_both mode ms k fs (opener_names o) names
                  (λ name h v. c k name (omega arith) (omega arith) (named_opening mode o (mark_at ms k) name e h) v)
                  (λ name h v. let x = v.1 in b.1 name h (v.0, omega arith, v.2, v.3)),
            );
        whole = λ t f.
            clear_both mode ms k (suc k) (suc m)
            (clear_one mode ms k (λ name g v. f name (Contains-append_left (opener_names o) names name (opening_named mode o (mark_at ms k) name e g)) v))
            (clear_both mode ms (suc k) i (suc m) (others_clear mode ms (suc k) i others)
            (clear_both mode ms i m (suc m) (l.whole t.1 (λ name h v. let x = v.1 in elim (cases_lt v.0 k) [
              | inl lt ↦ f name (Contains-append_right (opener_names o) names name h) (v.0, lt, v.2, v.3)
              | inr ge ↦
                  let at_opening : v.0 ≡ k = omega arith in
                  t.0 name (opening_named mode o (mark_at ms k) name e (subst (λ b. HasName mode ms b name) at_opening v.2)) h
            ])) (λ b name lf g h v. none_at m mark.closer d refl b name lf g h)));
      }
