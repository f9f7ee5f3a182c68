-- Why flags are refused at a place.
use Rattle.std.proofs.Common.{◌≡◌, refl, ap, sym, ◌∙◌, subst, ℕ, suc, ◌+◌, ◌-◌, ◌<◌, arith, add-one, Bool, true, false, not, ◌&&◌, List, [], ◌∷◌, ◌++◌, length, get_or, take, drop}
use Rattle.std.proofs.Math.Seq.{take-suc, drop-cons}
use Rattle.std.proofs.lemmas.List.{length-take-le, map-append, take-append-drop}
use Rattle.rx_base.specs.Flags.{holds, is_flag}
use Rattle.rx_base.specs.declared.span.Span.{Span}
use Rattle.rx_base.specs.declared.diagnostic.Diagnostic.{Diagnostic}
use Rattle.rx_base.specs.declared.diagnostic.Diagnostic.TheVariants.{UnknownFlag, DuplicatedFlags, InvalidUnicodeFlags}
use Rattle.rx_units.specs.declared.code_point.CodePoint.{CodePoint}
use Rattle.rx_units.specs.Units.{values, offset_at}
use Rattle.rx_units.proofs.Offsets.{end_of_take}
use Rattle.rx_model.specs.Inputs.Flags.{flags_ok}
use Rattle.rx_model.specs.Refusals.FlagCauses.{IsFirstOffence, IsFlagCause, unit_span, unknown, duplicated, both_modes}
use Rattle.rx_scan.proofs.FlagRows.{flags_push}

not_flag : (a h b : Bool) → a ≡ false → ((a && not h) && b) ≡ false
not_flag a h b e = rw e refl

seen_before : (a h b : Bool) → a ≡ true → h ≡ true → ((a && not h) && b) ≡ false
seen_before a h b e k = rw (e, k) refl

with_both : (a h p q : Bool) → p ≡ true → q ≡ true → ((a && not h) && not (p && q)) ≡ false
with_both true true p q e k = refl
with_both false h p q e k = refl
with_both true false p q e k = rw (e, k) refl

well : (a h p q : Bool) → a ≡ true → h ≡ false → (p && q) ≡ false → ((a && not h) && not (p && q)) ≡ true
well a h p q e k l = rw (e, k, l) refl

module _ (us : List CodePoint) (place : ℕ) (d : CodePoint) (within : place < length us) where
  -- the flags with that at the place
  pub values_next : values (take (place + 1) us) ≡ values (take place us) ++ ((get_or us place d).value ∷ [])
  values_next = rw (add-one, take-suc us place d within) (map-append (λ u. u.value) (take place us) (get_or us place d ∷ []))

  -- after the unit at the place
  pub offset_next : (first : ℕ) → offset_at first us (place + 1) ≡ (get_or us place d).span.end
  offset_next first =
      let e : place + 1 - 1 ≡ place = omega arith in
      end_of_take first us (place + 1) d (omega arith) (omega arith) ∙ ap (λ i. (get_or us i d).span.end) e

  -- the span of the unit at the place
  pub span_at : (first added start : ℕ) (span : Span) → start ≡ offset_at first us place → span ≡ record { start = start + added; end = (get_or us place d).span.end + added } → span ≡ unit_span us first added place
  span_at first added start span begins is = rw (is, begins, offset_next first) refl

  cut : us ≡ take place us ++ (get_or us place d ∷ drop (suc place) us)
  cut = sym (take-append-drop place us) ∙ ap (λ rest. take place us ++ rest) (drop-cons us place d within)

  first_offence : flags_ok (values (take place us)) ≡ true → flags_ok (values (take place us) ++ ((get_or us place d).value ∷ [])) ≡ false → IsFirstOffence us (take place us) (get_or us place d)
  first_offence passed offends = record { after = drop (suc place) us; cut = cut; passed = passed; offends = offends }

  -- a cause that tells its span by how many units stand before it
  at_place : (refusal : Span → Diagnostic) (first added : ℕ) (span : Span) → span ≡ unit_span us first added place →
      IsFlagCause us first added (refusal (unit_span us first added (length (take place us)))) → IsFlagCause us first added (refusal span)
  at_place refusal first added span is cause =
      let P : Span → Type 0 = λ s. IsFlagCause us first added (refusal s) in
      subst P (ap (unit_span us first added) (length-take-le place us (omega arith)) ∙ sym is) cause

  module _ (passed : flags_ok (values (take place us)) ≡ true) (first added : ℕ) (span : Span) (is : span ≡ unit_span us first added place) where
    pub unknown_at : is_flag (get_or us place d).value ≡ false → IsFlagCause us first added (UnknownFlag span (get_or us place d).value)
    unknown_at no_flag =
        let offends = flags_push (values (take place us)) (get_or us place d).value passed ∙ not_flag _ _ _ no_flag in
        at_place (λ s. UnknownFlag s (get_or us place d).value) first added span is (unknown (take place us) (get_or us place d) (first_offence passed offends) no_flag)

    pub duplicated_at : is_flag (get_or us place d).value ≡ true → holds (values (take place us)) (get_or us place d).value ≡ true → IsFlagCause us first added (DuplicatedFlags span (get_or us place d).value)
    duplicated_at flag seen =
        let offends = flags_push (values (take place us)) (get_or us place d).value passed ∙ seen_before _ _ _ flag seen in
        at_place (λ s. DuplicatedFlags s (get_or us place d).value) first added span is (duplicated (take place us) (get_or us place d) (first_offence passed offends) flag seen)

    pub both_modes_at : is_flag (get_or us place d).value ≡ true → holds (values (take place us)) (get_or us place d).value ≡ false →
        holds (values (take (place + 1) us)) 117 ≡ true → holds (values (take (place + 1) us)) 118 ≡ true → IsFlagCause us first added (InvalidUnicodeFlags span)
    both_modes_at flag new u v =
        let offends = flags_push (values (take place us)) (get_or us place d).value passed ∙ with_both _ _ _ _ (ap (λ vs. holds vs 117) (sym values_next) ∙ u) (ap (λ vs. holds vs 118) (sym values_next) ∙ v) in
        at_place InvalidUnicodeFlags first added span is (both_modes (take place us) (get_or us place d) (first_offence passed offends) flag new)

  pub passes_at : flags_ok (values (take place us)) ≡ true → is_flag (get_or us place d).value ≡ true → holds (values (take place us)) (get_or us place d).value ≡ false →
      (holds (values (take (place + 1) us)) 117 && holds (values (take (place + 1) us)) 118) ≡ false → flags_ok (values (take (place + 1) us)) ≡ true
  passes_at passed flag new one_mode =
      ap flags_ok values_next ∙ flags_push (values (take place us)) (get_or us place d).value passed
      ∙ well (is_flag (get_or us place d).value) (holds (values (take place us)) (get_or us place d).value)
      (holds (values (take place us) ++ ((get_or us place d).value ∷ [])) 117) (holds (values (take place us) ++ ((get_or us place d).value ∷ [])) 118) flag new (ap (λ vs. holds vs 117 && holds vs 118) (sym values_next) ∙ one_mode)
