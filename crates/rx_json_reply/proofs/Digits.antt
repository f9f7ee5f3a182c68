-- Numbers that are written in digits alone.
use Rattle.std.proofs.Common.{◌≡◌, ◌∙◌, ◌<◌, ◌^◌, refl, sym, ap, ℕ, Bool, true, false, ◌&&◌, List, length, Some, None, Result, Ok, Err, nat_lt, nat_le, if◌then◌else◌, arith}
use Rattle.std.specs.Char.{is_ascii_digit}
use Rattle.std.specs.List.{list_all}
use Rattle.std.specs.Result.{OkIff, result_ok}
use Rattle.std.specs.Str.{all_ascii_digits}
use Rattle.std.specs.Str.Parse.{ParsesUnsigned, digits_value}
use Rattle.std.proofs.lemmas.Bool.Decides.{nat_tests}
use Rattle.std.proofs.lemmas.List.Recursion.{same_from_clauses}
use Rattle.std.proofs.lemmas.Str.Parse.{parse_digits}
use Rattle.rx_command.proofs.Commands.{digits_model}
use Rattle.rx_json_reply.specs.Faults.{small_number}

below : (n v : ℕ) → (0 < n) × (v < 2 ^ 32) → (nat_le 1 n && nat_lt v (2 ^ 32)) ≡ true
below n v h = grind (arith, nat_tests, h.0, h.1)

above : (n v : ℕ) → ¬ ((0 < n) × (v < 2 ^ 32)) → (nat_le 1 n && nat_lt v (2 ^ 32)) ≡ false
above n v h = go (nat_le 1 n && nat_lt v (2 ^ 32)) refl
  where
    go : (b : Bool) → (nat_le 1 n && nat_lt v (2 ^ 32)) ≡ b → (nat_le 1 n && nat_lt v (2 ^ 32)) ≡ false
    go true is = absurd (h (grind (arith, nat_tests, is), grind (arith, nat_tests, is)))
    go false is = is

-- what is parsed of digits is their value, where it is small
pub digits_parsed : {E : Type 0} (bytes : List ℕ) (r : Result ℕ E) → list_all is_ascii_digit bytes ≡ true → ParsesUnsigned 32 10 bytes r → result_ok r ≡ small_number bytes
digits_parsed {E} bytes r digits parses = go r (parse_digits digits_model 32 bytes r parses all)
  where
    all : all_ascii_digits bytes ≡ true
    all = sym (same_from_clauses (list_all is_ascii_digit) all_ascii_digits (λ b rest. is_ascii_digit b && rest) refl (λ _ _. refl) (λ _ _. refl) bytes) ∙ digits

    chosen : (b : Bool) → (nat_le 1 (length bytes) && nat_lt (digits_value 10 bytes) (2 ^ 32)) ≡ b → small_number bytes ≡ (if b then Some (digits_value 10 bytes) else None)
    chosen b is = ap (λ (d : Bool). if d && (nat_le 1 (length bytes) && nat_lt (digits_value 10 bytes) (2 ^ 32)) then Some (digits_value 10 bytes) else None) digits
        ∙ ap (λ (d : Bool). if d then Some (digits_value 10 bytes) else None) is

    go : (r : Result ℕ E) → OkIff r ((0 < length bytes) × (digits_value 10 bytes < 2 ^ 32)) (digits_value 10 bytes) → result_ok r ≡ small_number bytes
    go (Ok n) h = ap Some h.1 ∙ sym (chosen true (below (length bytes) (digits_value 10 bytes) h.0))
    go (Err e) h = sym (chosen false (above (length bytes) (digits_value 10 bytes) h))

pub other_is_none : (bytes : List ℕ) → list_all is_ascii_digit bytes ≡ false → small_number bytes ≡ None
other_is_none bytes other =
    ap (λ (d : Bool). if d && (nat_le 1 (length bytes) && nat_lt (digits_value 10 bytes) (2 ^ 32)) then Some (digits_value 10 bytes) else None) other
