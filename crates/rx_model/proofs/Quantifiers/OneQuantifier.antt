-- At most one refusal of a quantifier holds at a place.
use Rattle.std.proofs.Common.{◌≡◌, refl, ap, sym, ◌∙◌, subst, ℕ, ◌+◌, Bool, true, false, Option, List, [], ◌∷◌, ◌++◌, length}
use Rattle.rx_base.specs.declared.diagnostic.Diagnostic.{Diagnostic}
use Rattle.rx_base.specs.declared.diagnostic.Diagnostic.TheVariants.{LoneQuantifier, InvalidBracedQuantifier, BracedQuantifierOutOfOrder, TooLargeNumberInBracedQuantifier, TooLargeNumberDigits}
use Rattle.rx_base.specs.declared.diagnostic.kinds.DigitsKind.TheVariants as digits_kind
use Rattle.rx_base.specs.declared.span.Span.{Span}
use Rattle.std.proofs.lemmas.List.Elements.{All-head}
use Rattle.rx_units.specs.declared.code_point.CodePoint.{CodePoint}
use Rattle.rx_units.specs.Units.{values}
use Rattle.rx_units.proofs.Choices.{Some-inj}
use Rattle.rx_model.specs.declared.mode.Mode.{Mode}
use Rattle.rx_model.specs.Refusals.Causes.{HasBraces, IsOutOfOrder, IsTooLarge}
use Rattle.rx_model.specs.Trees.Early.{Obeys}
use Rattle.rx_model.specs.Inputs.Environment.{Environment, is_unicode}
use Rattle.rx_model.specs.Reading.Fronts.{counts, counts_at, front}
use Rattle.rx_model.specs.Quantifiers.CountsReading.{counts_read_at, many_digits}
use Rattle.rx_model.specs.Quantifiers.Quantifiers.{BeginsWithBraces, PassesLimit, braces}
use Rattle.rx_model.specs.Refusals.Reached.{AreObeying, span_between, text_environment, text_groups, text_names}
use Rattle.rx_model.specs.Reading.Rows.{Spells}
use Rattle.rx_model.specs.Trees.Token.{quantifier}
use Rattle.rx_model.specs.declared.rules.Rules.{Rules}
use Rattle.rx_model.proofs.Quantifiers.CountsReading.{limit_read}
use Rattle.rx_model.proofs.Quantifiers.BlockedCounts.{blocked_limit, blocked_numbers, not_in_order, not_small}
use Rattle.rx_model.proofs.Refusals.BlockedPlaces.{IsBlocked, next}
use Rattle.rx_model.proofs.Reading.Fronts.{spelled_front}
use Rattle.rx_model.proofs.Quantifiers.Quantifiers.{spelled_counts}

-- Where digits pass the limit is determined: one function reads it.
same_limit : (v w : List ℕ) (start count from many : ℕ) → PassesLimit v start count → PassesLimit w from many → v ≡ w → (start ≡ from) × (count ≡ many)
same_limit v w start count from many p q same =
    let e : many_digits start count ≡ many_digits from many = sym (limit_read v start count p) ∙ ap counts_read_at same ∙ limit_read w from many q in
    (cc e, cc e)

-- the refusal of a quantifier that has nothing to stand after, with `u` or `v` or with neither
abbrev pub lone_refusal : Bool → Span → Diagnostic
lone_refusal true span = LoneQuantifier span
lone_refusal false span = InvalidBracedQuantifier span

module _ (mode : Mode) (rules : Rules) (us : List CodePoint) (start added : ℕ) where
  abbrev here : Environment
  here = text_environment mode rules us

  -- the refusals of a quantifier at a place that is reached
  pub data QuantifierRow (f : ℕ) (rest : List CodePoint) : Diagnostic → Type 0 where
    lone : (min : ℕ) (max : Option ℕ) (greedy : Bool) (w more : List CodePoint) → rest ≡ w ++ more → Spells here (quantifier min max greedy) w more → AreObeying mode us (quantifier min max greedy ∷ [])
        → QuantifierRow f rest (lone_refusal (is_unicode mode) (span_between us start added f (f + length w)))
    out_of_order : (count min : ℕ) (max : Option ℕ) → HasBraces min max count rest → IsOutOfOrder min max → QuantifierRow f rest (BracedQuantifierOutOfOrder (span_between us start added f (f + count)))
    too_large : (count min : ℕ) (max : Option ℕ) → HasBraces min max count rest → (IsOutOfOrder min max → ⊥) → IsTooLarge min max
        → QuantifierRow f rest (TooLargeNumberInBracedQuantifier (span_between us start added f (f + count)))
    too_many_digits : (from count : ℕ) → PassesLimit (values rest) from count → (is_unicode mode ≡ false → BeginsWithBraces (values rest)) → QuantifierRow f rest (TooLargeNumberDigits (span_between us start added (f + from) (f + from + count)) digits_kind.Decimal)

  -- Braces that stand next are determined.
  record AreSame (min other : ℕ) (max also : Option ℕ) (count many : ℕ) : Type 0 where
    least_is : min ≡ other
    greatest_is : max ≡ also
    count_is : count ≡ many

  same_braces : {min other : ℕ} {max also : Option ℕ} {count many : ℕ} (rest : List CodePoint) → HasBraces min max count rest → HasBraces other also many rest → AreSame min other max also count many
  same_braces {min} {other} {max} {also} {count} {many} rest h k =
      let same : counts min max (length h.prefix) ≡ counts other also (length k.prefix) =
      sym (ap counts_at h.whole ∙ spelled_counts min max h.prefix h.following (braces h.spelled)) ∙ ap counts_at k.whole ∙ spelled_counts other also k.prefix k.following (braces k.spelled) in
      let lengths : length h.prefix ≡ length k.prefix = cc same in
      record { least_is = cc same; greatest_is = cc same; count_is = h.count_is ∙ lengths ∙ sym k.count_is }

  -- A quantifier that obeys is no blocked place.
  alive : (rest : List CodePoint) (min : ℕ) (max : Option ℕ) (greedy : Bool) (w more : List CodePoint) → rest ≡ w ++ more → Spells here (quantifier min max greedy) w more → AreObeying mode us (quantifier min max greedy ∷ []) → IsBlocked mode rules us rest → ⊥
  alive rest min max greedy w more h s o blocked =
      blocked (quantifier min max greedy) (length w) (ap (front here) h ∙ spelled_front here (quantifier min max greedy) w more s)
      (All-head (Obeys (text_groups mode us) (text_names mode us)) (quantifier min max greedy) [] o)

  same_order : (min other : ℕ) (max also : Option ℕ) → min ≡ other → max ≡ also → IsOutOfOrder min max → IsOutOfOrder other also
  same_order min other max also e f h = subst (λ also. IsOutOfOrder other also) f (subst (λ other. IsOutOfOrder other max) e h)

  pub one_quantifier : (f : ℕ) (rest : List CodePoint) (d e : Diagnostic) → QuantifierRow f rest d → QuantifierRow f rest e → d ≡ e
  one_quantifier f rest _ _ (lone min max greedy w more h s o) (lone other also lazy v back k t q) =
      let same : next (quantifier min max greedy) (length w) ≡ next (quantifier other also lazy) (length v) =
      sym (ap (front here) h ∙ spelled_front here (quantifier min max greedy) w more s) ∙ ap (front here) k ∙ spelled_front here (quantifier other also lazy) v back t in
      ap (λ n. lone_refusal (is_unicode mode) (span_between us start added f (f + n))) (ap (λ x. x.1) (Some-inj same))
  one_quantifier f rest _ _ (lone min max greedy w more h s o) (out_of_order count other also b out) = absurd (alive rest min max greedy w more h s o (blocked_numbers mode rules us rest other also count b (not_in_order other also out)))
  one_quantifier f rest _ _ (lone min max greedy w more h s o) (too_large count other also b order large) = absurd (alive rest min max greedy w more h s o (blocked_numbers mode rules us rest other also count b (not_small other also large)))
  one_quantifier f rest _ _ (lone min max greedy w more h s o) (too_many_digits from count p in_legacy) = absurd (alive rest min max greedy w more h s o (blocked_limit mode rules us rest from count p in_legacy))
  one_quantifier f rest _ _ (out_of_order count other also b out) (lone min max greedy w more h s o) = absurd (alive rest min max greedy w more h s o (blocked_numbers mode rules us rest other also count b (not_in_order other also out)))
  one_quantifier f rest _ _ (out_of_order count min max b out) (out_of_order many other also c out') = ap (λ n. BracedQuantifierOutOfOrder (span_between us start added f (f + n))) (same_braces rest b c).count_is
  one_quantifier f rest _ _ (out_of_order count min max b out) (too_large many other also c order large) =
      let s = same_braces rest b c in absurd (order (same_order min other max also s.least_is s.greatest_is out))
  one_quantifier f rest _ _ (out_of_order count min max b out) (too_many_digits from many p in_legacy) = absurd (b.in_limit from many p)
  one_quantifier f rest _ _ (too_large count other also b order large) (lone min max greedy w more h s o) = absurd (alive rest min max greedy w more h s o (blocked_numbers mode rules us rest other also count b (not_small other also large)))
  one_quantifier f rest _ _ (too_large many other also c order large) (out_of_order count min max b out) =
      let s = same_braces rest b c in absurd (order (same_order min other max also s.least_is s.greatest_is out))
  one_quantifier f rest _ _ (too_large count min max b order large) (too_large many other also c order' large') = ap (λ n. TooLargeNumberInBracedQuantifier (span_between us start added f (f + n))) (same_braces rest b c).count_is
  one_quantifier f rest _ _ (too_large count min max b order large) (too_many_digits from many p in_legacy) = absurd (b.in_limit from many p)
  one_quantifier f rest _ _ (too_many_digits from count p in_legacy) (lone min max greedy w more h s o) = absurd (alive rest min max greedy w more h s o (blocked_limit mode rules us rest from count p in_legacy))
  one_quantifier f rest _ _ (too_many_digits from many p in_legacy) (out_of_order count min max b out) = absurd (b.in_limit from many p)
  one_quantifier f rest _ _ (too_many_digits from many p in_legacy) (too_large count min max b order large) = absurd (b.in_limit from many p)
  one_quantifier f rest _ _ (too_many_digits from count p in_legacy) (too_many_digits also many q also_in_legacy) =
      let s = same_limit (values rest) (values rest) from count also many p q refl in
      ap (λ n. TooLargeNumberDigits (span_between us start added (f + n) (f + n + count)) digits_kind.Decimal) s.0
      ∙ ap (λ n. TooLargeNumberDigits (span_between us start added (f + also) (f + also + n)) digits_kind.Decimal) s.1
