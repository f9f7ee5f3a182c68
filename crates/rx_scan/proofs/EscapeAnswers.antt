-- What the decoder of unicode escapes answers, in the words of the escapes.
use Rattle.std.proofs.Common.{◌≡◌, ℕ, ◌≤◌, Bool, true, List, [], ◌∷◌, length, length-append, sym, ◌∙◌, arith}
use Rattle.rx_units.specs.declared.code_point.CodePoint.{CodePoint}
use Rattle.rx_units.specs.Units.{values}
use Rattle.rx_units.specs.Digits.{PassesHex}
use Rattle.rx_model.specs.Characters.Decoding.{decoding_of, value, overflow}
use Rattle.rx_model.specs.Characters.UnicodeEscapes.{Decodes, SpellsUnicode, code_unit, alone, pair, braced}
use Rattle.rx_model.proofs.Characters.Decoding.{overflow_law, overflow_within, value_is_code_point, value_law, value_within}
use Rattle.rx_scan.specs.declared.unicode_escape.UnicodeEscape.{UnicodeEscape}
use Rattle.rx_scan.specs.declared.unicode_escape.UnicodeEscape.TheVariants as escape
use Rattle.rx_scan.specs.EscapeDecoding.{IsDecoded, seen_escape}
use Rattle.rx_scan.proofs.Steps.{invalid_alone, only_invalid, seen_overflow, seen_value}

module _ (unicode_mode : Bool) (us : List CodePoint) (e : UnicodeEscape) (read : seen_escape e ≡ decoding_of unicode_mode (values us)) where
  value_read : (v n : ℕ) → e ≡ escape.Value v n → decoding_of unicode_mode (values us) ≡ value v n
  value_read v n is = sym read ∙ (seen_value e v n).0 is

  overflow_read : (n : ℕ) → e ≡ escape.Overflow n → decoding_of unicode_mode (values us) ≡ overflow n
  overflow_read n is = sym read ∙ (seen_overflow e n).0 is

  value_told : (v n : ℕ) → Decodes unicode_mode (values us) v n → e ≡ escape.Value v n
  value_told v n decodes = (seen_value e v n).1 (read ∙ (value_law unicode_mode (values us) v n).1 decodes)

  overflow_told : (n : ℕ) → (unicode_mode ≡ true) × PassesHex (values us) n → e ≡ escape.Overflow n
  overflow_told n passes = (seen_overflow e n).1 (read ∙ (overflow_law unicode_mode (values us) n).1 passes)

  pub is_decoded : IsDecoded unicode_mode us e
  is_decoded = record {
    value = λ v n. (λ is. (value_law unicode_mode (values us) v n).0 (value_read v n is), value_told v n);
    overflow = λ n. (λ is. (overflow_law unicode_mode (values us) n).0 (overflow_read n is), overflow_told n);
    invalid = (
      λ is. let no = invalid_alone e is in (λ v n decodes. no.0 v n (value_told v n decodes), λ n passes. no.1 n (overflow_told n passes)),
      λ no. only_invalid e (λ v n is. no.0 v n ((value_law unicode_mode (values us) v n).0 (value_read v n is))) (λ n is. no.1 n ((overflow_law unicode_mode (values us) n).0 (overflow_read n is))),
    );
    read = read;
    within = λ v n is. (value_within unicode_mode us v n (value_read v n is), value_is_code_point unicode_mode (values us) v n (value_read v n is));
    digits = λ n is. let more = overflow_within unicode_mode us n (overflow_read n is) in omega arith;
  }

spelled_long : {unicode_mode : Bool} {v : ℕ} {spelled rest : List ℕ} → SpellsUnicode unicode_mode v spelled rest → 3 ≤ length spelled
spelled_long (code_unit number) = omega arith
spelled_long (alone number no_trail) = omega arith
spelled_long (pair lead trail is_lead is_trail) = omega arith
spelled_long (braced x xs number top) = omega (arith, length-append xs (125 ∷ []))

-- an escape is three units at least
pub value_long : (unicode_mode : Bool) (us : List ℕ) (v n : ℕ) → value v n ≡ decoding_of unicode_mode us → 3 ≤ n
value_long unicode_mode us v n h =
    let d = (value_law unicode_mode us v n).0 (sym h) in
    omega (arith, spelled_long d.spells, d.count)
