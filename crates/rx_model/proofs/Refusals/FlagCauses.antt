-- Flags are refused for one cause, and exactly where they are no flags.
use Rattle.std.proofs.Common.{◌≡◌, refl, ap, sym, ◌∙◌, subst, ℕ, Bool, true, false, not, ◌&&◌, ◌||◌, ◌==◌, ◌⊎◌, inl, inr, List, [], ◌∷◌, ◌++◌, append_assoc, append-nil, length}
use Rattle.std.proofs.lemmas.Bool.{and_from, and_parts, both_ways}
use Rattle.std.proofs.lemmas.List.{map-append}
use Rattle.std.proofs.lemmas.List.Folds.{list_any-append}
use Rattle.rx_base.specs.Flags.{holds, is_flag}
use Rattle.rx_base.specs.declared.diagnostic.Diagnostic.{Diagnostic}
use Rattle.rx_base.specs.declared.diagnostic.Diagnostic.TheVariants.{UnknownFlag, DuplicatedFlags, InvalidUnicodeFlags}
use Rattle.rx_units.specs.declared.code_point.CodePoint.{CodePoint}
use Rattle.rx_units.specs.Units.{values}
use Rattle.rx_model.specs.Inputs.Flags.{are_distinct_flags, flags_ok}
use Rattle.rx_model.specs.Refusals.FlagCauses.{IsFirstOffence, IsFlagCause, unit_span, unknown, duplicated, both_modes}

unheld : (p q : Bool) → not (p || q) ≡ true → not p ≡ true
unheld true q h = h
unheld false q h = refl

one_of_two : (p q e g : Bool) → not ((p || e) && (q || g)) ≡ true → not (p && q) ≡ true
one_of_two true true e g h = h
one_of_two true false e g h = refl
one_of_two false q e g h = refl

distinct_front : (fs gs : List ℕ) → are_distinct_flags (fs ++ gs) ≡ true → are_distinct_flags fs ≡ true
distinct_front [] gs h = refl
distinct_front (f ∷ fs) gs h =
    let all = and_parts (is_flag f && not (holds (fs ++ gs) f)) (are_distinct_flags (fs ++ gs)) h in
    let here = and_parts (is_flag f) (not (holds (fs ++ gs) f)) all.0 in
    let new = unheld (holds fs f) (holds gs f) (ap not (sym (list_any-append (λ g. g == f) fs gs)) ∙ here.1) in
    and_from (is_flag f && not (holds fs f)) (are_distinct_flags fs) (and_from (is_flag f) (not (holds fs f)) here.0 new) (distinct_front fs gs all.1)

-- the first of flags are flags
flags_front : (fs gs : List ℕ) → flags_ok (fs ++ gs) ≡ true → flags_ok fs ≡ true
flags_front fs gs h =
    let all = and_parts (are_distinct_flags (fs ++ gs)) (not (holds (fs ++ gs) 117 && holds (fs ++ gs) 118)) h in
    and_from (are_distinct_flags fs) (not (holds fs 117 && holds fs 118)) (distinct_front fs gs all.0)
    (one_of_two (holds fs 117) (holds fs 118) (holds gs 117) (holds gs 118)
    (ap (λ q. not ((holds fs 117 || holds gs 117) && q)) (sym (list_any-append (λ g. g == 118) fs gs))
    ∙ ap (λ p. not (p && holds (fs ++ gs) 118)) (sym (list_any-append (λ g. g == 117) fs gs)) ∙ all.1))

values_cut : (before : List CodePoint) (unit : CodePoint) (after : List CodePoint) → values (before ++ (unit ∷ after)) ≡ (values before ++ (unit.value ∷ [])) ++ values after
values_cut before unit after = map-append (λ u. u.value) before (unit ∷ after) ∙ sym (append_assoc (values before) (unit.value ∷ []) (values after))

-- With the unit at which they are refused first, and whatever follows, they are no flags.
offends_on : (before : List CodePoint) (unit : CodePoint) (after : List CodePoint) → flags_ok (values before ++ (unit.value ∷ [])) ≡ false → flags_ok (values (before ++ (unit ∷ after))) ≡ true → ⊥
offends_on before unit after h ok =
    both_ways (flags_ok (values before ++ (unit.value ∷ []))) h (flags_front (values before ++ (unit.value ∷ [])) (values after) (ap flags_ok (sym (values_cut before unit after)) ∙ ok))

-- Two cuts of one list: they are one, or one stands after the other.
abbrev Further : List CodePoint → CodePoint → List CodePoint → Type 0
Further before unit other = (more : List CodePoint) × (other ≡ before ++ (unit ∷ more))

cuts : (before : List CodePoint) (unit : CodePoint) (after other : List CodePoint) (one : CodePoint) (following : List CodePoint) → before ++ (unit ∷ after) ≡ other ++ (one ∷ following) →
    ((before ≡ other) × (unit ≡ one)) ⊎ (Further before unit other ⊎ Further other one before)
cuts [] unit after [] one following e = let p : unit ≡ one = cc e in inl (refl, p)
cuts [] unit after (o ∷ other) one following e = let p : unit ≡ o = cc e in inr (inl (other, ap (λ x. x ∷ other) (sym p)))
cuts (b ∷ before) unit after [] one following e = let p : b ≡ one = cc e in inr (inr (before, ap (λ x. x ∷ before) p))
cuts (b ∷ before) unit after (o ∷ other) one following e =
    let p : b ≡ o = cc e in
    let tails : before ++ (unit ∷ after) ≡ other ++ (one ∷ following) = cc e in
    elim (cuts before unit after other one following tails) [
      | inl same ↦ inl (ap (λ x. x ∷ before) p ∙ ap (λ xs. o ∷ xs) same.0, same.1)
      | inr apart ↦ inr (elim apart [
        | inl f ↦ inl (f.0, ap (λ xs. o ∷ xs) f.1 ∙ ap (λ x. x ∷ (before ++ (unit ∷ f.0))) (sym p))
        | inr f ↦ inr (f.0, ap (λ xs. b ∷ xs) f.1 ∙ ap (λ x. x ∷ (other ++ (one ∷ f.0))) p)
      ])
    ]

module _ (us : List CodePoint) where
  one_offence : (before other : List CodePoint) (unit one : CodePoint) → IsFirstOffence us before unit → IsFirstOffence us other one → (before ≡ other) × (unit ≡ one)
  one_offence before other unit one s t = elim (cuts before unit s.after other one t.after (sym s.cut ∙ t.cut)) [
    | inl same ↦ same
    | inr apart ↦ elim apart [
      | inl f ↦ absurd (offends_on before unit f.0 s.offends (ap (λ x. flags_ok (values x)) (sym f.1) ∙ t.passed))
      | inr f ↦ absurd (offends_on other one f.0 t.offends (ap (λ x. flags_ok (values x)) (sym f.1) ∙ s.passed))
    ]
  ]

  pub offence_refuses : (before : List CodePoint) (unit : CodePoint) → IsFirstOffence us before unit → flags_ok (values us) ≡ true → ⊥
  offence_refuses before unit s ok = offends_on before unit s.after s.offends (ap (λ x. flags_ok (values x)) (sym s.cut) ∙ ok)

  module _ (first added : ℕ) where
    -- which cause a unit has that offends first
    pub data Offends (before : List CodePoint) (unit : CodePoint) : Diagnostic → Type 0 where
      no_flag : is_flag unit.value ≡ false → Offends before unit (UnknownFlag (unit_span us first added (length before)) unit.value)
      seen : is_flag unit.value ≡ true → holds (values before) unit.value ≡ true → Offends before unit (DuplicatedFlags (unit_span us first added (length before)) unit.value)
      both : is_flag unit.value ≡ true → holds (values before) unit.value ≡ false → Offends before unit (InvalidUnicodeFlags (unit_span us first added (length before)))

    one_offends : (before : List CodePoint) (unit : CodePoint) (d e : Diagnostic) → Offends before unit d → Offends before unit e → d ≡ e
    one_offends before unit _ _ (no_flag h) (no_flag k) = refl
    one_offends before unit _ _ (no_flag h) (seen k l) = absurd (both_ways (is_flag unit.value) h k)
    one_offends before unit _ _ (no_flag h) (both k l) = absurd (both_ways (is_flag unit.value) h k)
    one_offends before unit _ _ (seen h l) (no_flag k) = absurd (both_ways (is_flag unit.value) k h)
    one_offends before unit _ _ (seen h l) (seen k m) = refl
    one_offends before unit _ _ (seen h l) (both k m) = absurd (both_ways (holds (values before) unit.value) m l)
    one_offends before unit _ _ (both h l) (no_flag k) = absurd (both_ways (is_flag unit.value) k h)
    one_offends before unit _ _ (both h l) (seen k m) = absurd (both_ways (holds (values before) unit.value) l m)
    one_offends before unit _ _ (both h l) (both k m) = refl

    -- A cause is that of its first offence.
    pub record Offence (d : Diagnostic) : Type 0 where
      pub before : List CodePoint
      pub unit : CodePoint
      pub first_is : IsFirstOffence us before unit
      pub offends : Offends before unit d

    offence : (d : Diagnostic) → IsFlagCause us first added d → Offence d
    offence _ (unknown before unit s h) = record { before = before; unit = unit; first_is = s; offends = no_flag h }
    offence _ (duplicated before unit s h k) = record { before = before; unit = unit; first_is = s; offends = seen h k }
    offence _ (both_modes before unit s h k) = record { before = before; unit = unit; first_is = s; offends = both h k }

    pub one_cause : (d e : Diagnostic) → IsFlagCause us first added d → IsFlagCause us first added e → d ≡ e
    one_cause d e s t =
        let x = offence d s in
        let y = offence e t in
        let same = one_offence x.before y.before x.unit y.unit x.first_is y.first_is in
        one_offends y.before y.unit d e (subst (λ b. Offends b y.unit d) same.0 (subst (λ u. Offends x.before u d) same.1 x.offends)) y.offends

    pub cause_refuses : (d : Diagnostic) → IsFlagCause us first added d → flags_ok (values us) ≡ false
    cause_refuses d s = let x = offence d s in refused (flags_ok (values us)) refl x
      where
        refused : (b : Bool) → flags_ok (values us) ≡ b → Offence d → flags_ok (values us) ≡ false
        refused true e x = absurd (offence_refuses x.before x.unit x.first_is e)
        refused false e x = e

    cause_at : (before : List CodePoint) (unit : CodePoint) → IsFirstOffence us before unit → (b c : Bool) → is_flag unit.value ≡ b → holds (values before) unit.value ≡ c → (d : Diagnostic) × IsFlagCause us first added d
    cause_at before unit s false c h k = (UnknownFlag (unit_span us first added (length before)) unit.value, unknown before unit s h)
    cause_at before unit s true true h k = (DuplicatedFlags (unit_span us first added (length before)) unit.value, duplicated before unit s h k)
    cause_at before unit s true false h k = (InvalidUnicodeFlags (unit_span us first added (length before)), both_modes before unit s h k)

    -- After flags the first offence is among the units left.
    cause_after : (after before : List CodePoint) → us ≡ before ++ after → flags_ok (values before) ≡ true → flags_ok (values us) ≡ false → (d : Diagnostic) × IsFlagCause us first added d
    cause_after [] before cut passed refused =
        absurd (both_ways (flags_ok (values us)) refused (ap (λ x. flags_ok (values x)) (cut ∙ append-nil before) ∙ passed))
    cause_after (unit ∷ after) before cut passed refused =
        go (λ ok. cause_after after (before ++ (unit ∷ [])) (cut ∙ sym (append_assoc before (unit ∷ []) after)) (ap flags_ok (map-append (λ u. u.value) before (unit ∷ [])) ∙ ok) refused)
        (flags_ok (values before ++ (unit.value ∷ []))) refl
      where
        go : (flags_ok (values before ++ (unit.value ∷ [])) ≡ true → (d : Diagnostic) × IsFlagCause us first added d) → (b : Bool) → flags_ok (values before ++ (unit.value ∷ [])) ≡ b → (d : Diagnostic) × IsFlagCause us first added d
        go further true e = further e
        go further false e =
            cause_at before unit (record { after = after; cut = cut; passed = passed; offends = e }) (is_flag unit.value) (holds (values before) unit.value) refl refl

    pub some_cause : flags_ok (values us) ≡ false → (d : Diagnostic) × IsFlagCause us first added d
    some_cause refused = cause_after us [] refl refl refused
