-- The modifiers of a rewritten group: `i` alone.
use Rattle.std.proofs.Common.{◌≡◌, ◌≢◌, refl, ap, ap₂, sym, ◌∙◌, ℕ, ◌+◌, ◌%◌, Bool, true, false, ◌==◌, ◌&&◌, if◌then◌else◌, Option, Some, None, arith}
use Rattle.std.proofs.lemmas.Bool.{true≢false}
use Rattle.std.proofs.lemmas.Nat.{and_assoc, and_mask, and_mod}
use Rattle.std.specs.Int.Bits.{and_zero_r}
use Rattle.std.specs.Prelude.{bit_and}
use Rattle.rx_base.specs.declared.span.Span.{Span}
use Rattle.rx_ast.specs.declared.leaf.Modifiers.{Modifiers}
use Rattle.rx_model.specs.Trees.Early.{AreModifiers}
use Rattle.rx_model.specs.Trees.Token.{bits}
use Rattle.rx_trace.specs.Supported.{unsupported_modifiers}
use Rattle.rx_rewrite.specs.Asked.{HasNeither}
use Rattle.rx_rewrite.specs.Rewriting.{modifiers_kept}

-- the modifiers with the bit `i` alone
abbrev pub of_case : Modifiers → Modifiers
of_case m = record { span = m.span; enabling = record { 0 = bit_and m.enabling.0 1 }; disabling = record { 0 = bit_and m.disabling.0 1 } }

-- whether that bit is on neither side
abbrev pub lacks_case : Modifiers → Bool
lacks_case m = (bit_and m.enabling.0 1 == 0) && (bit_and m.disabling.0 1 == 0)

once_more : (x : ℕ) → bit_and (bit_and x 1) 1 ≡ bit_and x 1
once_more x = and_assoc 1 x 1

no_bit_2 : (x : ℕ) → bit_and (bit_and x 1) 2 ≡ 0
no_bit_2 x = and_assoc 2 x 1 ∙ and_zero_r x

no_bit_4 : (x : ℕ) → bit_and (bit_and x 1) 4 ≡ 0
no_bit_4 x = and_assoc 4 x 1 ∙ and_zero_r x

pub lacks_same : (m : Modifiers) → lacks_case (of_case m) ≡ lacks_case m
lacks_same m = ap₂ (λ a b. (a == 0) && (b == 0)) (once_more m.enabling.0) (once_more m.disabling.0)

of_case_twice : (m : Modifiers) → of_case (of_case m) ≡ of_case m
of_case_twice m = ap₂ (λ a b. let it : Modifiers = record { span = m.span; enabling = record { 0 = a }; disabling = record { 0 = b } } in it) (once_more m.enabling.0) (once_more m.disabling.0)

-- Rewritten once more they stay.
pub kept_again : (m : Option Modifiers) → modifiers_kept (modifiers_kept m) ≡ modifiers_kept m
kept_again None = refl
kept_again (Some m) = by_test (lacks_case m) refl
  where
    by_test : (b : Bool) → lacks_case m ≡ b → modifiers_kept (if b then None else Some (of_case m)) ≡ (if b then None else Some (of_case m))
    by_test true is = refl
    by_test false is = ap (λ b. if b then None else Some (of_case (of_case m))) (lacks_same m ∙ is) ∙ ap Some (of_case_twice m)

-- They have no `m` and no `s`.
pub has_neither : (m : Modifiers) → HasNeither (of_case m)
has_neither m = (no_bit_2 m.enabling.0, no_bit_4 m.enabling.0, no_bit_2 m.disabling.0, no_bit_4 m.disabling.0)

-- They are supported where they were.
abbrev pub unsupported_of : Option Modifiers → Option Span
unsupported_of None = None
unsupported_of (Some m) = unsupported_modifiers m

pub unsupported_same : (m : Option Modifiers) → unsupported_of (modifiers_kept m) ≡ unsupported_of m
unsupported_same None = refl
unsupported_same (Some m) = by_test (lacks_case m) refl
  where
    by_test : (b : Bool) → lacks_case m ≡ b → unsupported_of (if b then None else Some (of_case m)) ≡ (if b then None else Some m.span)
    by_test true is = refl
    by_test false is = ap (λ b. if b then None else Some m.span) (lacks_same m ∙ is)

-- Where no letter is on both sides and some letter is there, so it is of what is kept.
low_bit : (x : ℕ) → bit_and x 1 ≡ x % 2
low_bit x = and_mask x 1

low_of_three : (x : ℕ) → x % 8 % 2 ≡ x % 2
low_of_three x = omega arith

both_low : (e d : ℕ) → bit_and (e % 8) (d % 8) ≡ 0 → bit_and (bit_and e 1 % 8) (bit_and d 1 % 8) ≡ 0
both_low e d none =
    ap₂ bit_and (small e) (small d) ∙ sym (ap₂ bit_and (low_of_three e) (low_of_three d)) ∙ sym (and_mod (e % 8) (d % 8) 1) ∙ ap (λ n. n % 2) none
  where
    small : (x : ℕ) → bit_and x 1 % 8 ≡ x % 2
    small x = let low = low_bit x in omega arith

some_left : (e d : ℕ) → ((bit_and e 1 == 0) && (bit_and d 1 == 0)) ≡ false → bit_and e 1 % 8 + bit_and d 1 % 8 ≢ 0
some_left e d some none =
    let low_e = low_bit e in
    let low_d = low_bit d in
    let no_e : bit_and e 1 ≡ 0 = omega arith in
    let no_d : bit_and d 1 ≡ 0 = omega arith in
    true≢false (sym (ap₂ (λ a b. (a == 0) && (b == 0)) no_e no_d) ∙ some)

pub early_kept : (m : Option Modifiers) → AreModifiers (bits m) → AreModifiers (bits (modifiers_kept m))
early_kept None early = tt
early_kept (Some m) early = by_test (lacks_case m) refl
  where
    by_test : (b : Bool) → lacks_case m ≡ b → AreModifiers (bits (if b then None else Some (of_case m)))
    by_test true is = tt
    by_test false is = (both_low m.enabling.0 m.disabling.0 early.0, some_left m.enabling.0 m.disabling.0 is)
