-- Of one text two lists of elements of one kind are front parts of one another; and one that ends before a stop is the only one, and the longest.
use Rattle.std.proofs.Common.{◌≡◌, ◌⊎◌, refl, ap, sym, ◌∙◌, subst, ◌+◌, ◌≤◌, ◌<◌, List, [], ◌∷◌, ◌++◌, append-nil, length, length-append, arith, inl, inr}
use Rattle.rx_units.specs.Sequences.{ElementRow, ElementsGoOn}

module _ {Place Element TextUnit : Type 0} (spells : Place → Element → List TextUnit → List TextUnit → Type 0) (following : Place → Element → List TextUnit → Place) where
  pub row_append : (ts ss : List Element) (q : Place) (us : List TextUnit) (r : Place) (a : List TextUnit) (p : Place) (b : List TextUnit) →
      ElementRow spells following ts q us r a → ElementRow spells following ss r a p b → ElementRow spells following (ts ++ ss) q us p b
  row_append [] ss q us r a p b h k = subst (λ q. ElementRow spells following ss q us p b) (sym h.0) (subst (λ v. ElementRow spells following ss r v p b) (sym h.1) k)
  row_append (t ∷ ts) ss q us r a p b h k = (h.0, h.1, h.2, h.3, row_append ts ss (following q t h.1) h.1 r a p b h.4 k)

module _ {Place Element TextUnit : Type 0} (spells : Place → Element → List TextUnit → List TextUnit → Type 0) (following : Place → Element → List TextUnit → Place)
    (one_front : (q : Place) (t s : Element) (w more v rest : List TextUnit) → w ++ more ≡ v ++ rest → spells q t w more → spells q s v rest → (t ≡ s) × (more ≡ rest)) where
  pub prefixes : (ts ss : List Element) (q : Place) (us : List TextUnit) (r : Place) (a : List TextUnit) (p : Place) (b : List TextUnit) →
      ElementRow spells following ts q us r a → ElementRow spells following ss q us p b → ElementsGoOn spells following ts r a ss p b ⊎ ElementsGoOn spells following ss p b ts r a
  prefixes [] ss q us r a p b h k = inl (ss, refl, subst (λ q. ElementRow spells following ss q a p b) h.0 (subst (λ v. ElementRow spells following ss q v p b) h.1 k))
  prefixes (t ∷ ts) [] q us r a p b h k = inr (t ∷ ts, refl, subst (λ q. ElementRow spells following (t ∷ ts) q b r a) k.0 (subst (λ v. ElementRow spells following (t ∷ ts) q v r a) k.1 h))
  prefixes (t ∷ ts) (x ∷ ss) q us r a p b h k =
      let f = one_front q t x h.0 h.1 k.0 k.1 (sym h.2 ∙ k.2) h.3 k.3 in
      let same = subst (λ t. ElementRow spells following ts (following q t k.1) k.1 r a) f.0 (subst (λ v. ElementRow spells following ts (following q t v) v r a) f.1 h.4) in
      elim (prefixes ts ss (following q x k.1) k.1 r a p b same k.4) [
        | inl i ↦ inl (i.0, ap (λ v. v ∷ ss) (sym f.0) ∙ ap (λ v. t ∷ v) i.1, i.2)
        | inr i ↦ inr (i.0, ap (λ v. v ∷ ts) f.0 ∙ ap (λ v. x ∷ v) i.1, i.2)
      ]

  module _ (is_stop : Place → List TextUnit → Type 0)
      (none_at_stop : (q : Place) (us : List TextUnit) → is_stop q us → (t : Element) (w rest : List TextUnit) → us ≡ w ++ rest → spells q t w rest → ⊥) where
    none_after : (ts : List Element) (q : Place) (us : List TextUnit) (r : Place) (rest : List TextUnit) → is_stop q us → ElementRow spells following ts q us r rest → ts ≡ []
    none_after [] q us r rest stop row = refl
    none_after (t ∷ ts) q us r rest stop row = absurd (none_at_stop q us stop t row.0 row.1 row.2 row.3)

    pub longest : (ts ss : List Element) (q : Place) (us : List TextUnit) (r : Place) (a : List TextUnit) (p : Place) (b : List TextUnit) →
        ElementRow spells following ts q us r a → is_stop r a → ElementRow spells following ss q us p b → ElementsGoOn spells following ss p b ts r a
    longest ts ss q us r a p b h stop k = elim (prefixes ts ss q us r a p b h k) [
      | inl i ↦
          let none = none_after i.0 r a p b stop i.2 in
          let ends : (r ≡ p) × (a ≡ b) = subst (λ more. ElementRow spells following more r a p b) none i.2 in
          ([], sym (append-nil ss ∙ i.1 ∙ ap (λ more. ts ++ more) none ∙ append-nil ts), (sym ends.0, sym ends.1))
      | inr i ↦ i
    ]

    pub one : (ts ss : List Element) (q : Place) (us : List TextUnit) (r : Place) (a : List TextUnit) (p : Place) (b : List TextUnit) →
        ElementRow spells following ts q us r a → is_stop r a → ElementRow spells following ss q us p b → is_stop p b → (ts ≡ ss) × (r ≡ p) × (a ≡ b)
    one ts ss q us r a p b h stop k ends =
        let l = longest ts ss q us r a p b h stop k in
        let none = none_after l.0 p b r a ends l.2 in
        let same : (p ≡ r) × (b ≡ a) = subst (λ more. ElementRow spells following more p b r a) none l.2 in
        (l.1 ∙ ap (λ more. ss ++ more) none ∙ append-nil ss, sym same.0, sym same.1)

  module _ (some_units : (q : Place) (t : Element) (rest : List TextUnit) → spells q t [] rest → ⊥) where
    takes_some : (q : Place) (t : Element) (w rest : List TextUnit) → spells q t w rest → 0 < length w
    takes_some q t [] rest s = absurd (some_units q t rest s)
    takes_some q t (u ∷ w) rest s = omega arith

    -- There are no more elements than units.
    no_more_than_units : (ts : List Element) (q : Place) (us : List TextUnit) (r : Place) (rest : List TextUnit) → ElementRow spells following ts q us r rest → length ts + length rest ≤ length us
    no_more_than_units [] q us r rest row = omega (arith, ap length row.1)
    no_more_than_units (t ∷ ts) q us r rest row =
        omega (arith, takes_some q t row.0 row.1 row.3, no_more_than_units ts (following q t row.1) row.1 r rest row.4, ap length row.2, length-append row.0 row.1)

    none_between : (ts : List Element) (q : Place) (us : List TextUnit) (r : Place) → ElementRow spells following ts q us r us → ts ≡ []
    none_between [] q us r row = refl
    none_between (t ∷ ts) q us r row = absurd (omega (arith, no_more_than_units (t ∷ ts) q us r us row))

    -- Two lists that lead from one text to one rest are one.
    pub one_between : (ts ss : List Element) (q : Place) (us : List TextUnit) (r p : Place) (rest : List TextUnit) → ElementRow spells following ts q us r rest → ElementRow spells following ss q us p rest → (ts ≡ ss) × (r ≡ p)
    one_between ts ss q us r p rest h k = elim (prefixes ts ss q us r rest p rest h k) [
      | inl i ↦
          let none = none_between i.0 r rest p i.2 in
          let same : (r ≡ p) × (rest ≡ rest) = subst (λ more. ElementRow spells following more r rest p rest) none i.2 in
          (sym (i.1 ∙ ap (λ more. ts ++ more) none ∙ append-nil ts), same.0)
      | inr i ↦
          let none = none_between i.0 p rest r i.2 in
          let same : (p ≡ r) × (rest ≡ rest) = subst (λ more. ElementRow spells following more p rest r rest) none i.2 in
          (i.1 ∙ ap (λ more. ss ++ more) none ∙ append-nil ss, sym same.0)
    ]
