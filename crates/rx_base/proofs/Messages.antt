-- The bytes of a message.
use Rattle.std.proofs.Common.{◌≡◌, ap, refl, subst, sym, ◌∙◌, ℕ, ◌<◌, ◌^◌, arith, List, [], ◌∷◌, ◌++◌, append_assoc, append-nil, codes, Option, Some, true, false}
use Rattle.std.specs.Char.{digit_value, encode_utf8, OutOfScalarRange}
use Rattle.std.specs.Fmt.{digits, WritesText, ◌++?◌}
use Rattle.std.specs.Fmt.InlineText.{inline_text, AppendsIfIntact, IsIntact}
use Rattle.std.specs.declared.fmt.InlineText.{InlineText}
use Rattle.std.specs.List.{concat, FoldsTo}
use Rattle.std.specs.Str.{chars, encode_utf8_all, IsAscii, IsUtf8}
use Rattle.std.specs.Str.Parse.{AllDigits}
use Rattle.std.proofs.lemmas.Fmt.{digits_is_IsNumeral}
use Rattle.std.proofs.lemmas.Bool.Decides.{nat_tests}
use Rattle.std.proofs.lemmas.Str.{encodes-append, encodes-chars}
use Rattle.std.proofs.lemmas.Str.Ascii.{encodes-IsAscii, IsAscii-cons, IsAscii-nil}
use Rattle.rx_base.specs.Characters.{is_character}
use Rattle.rx_base.specs.DiagnosticMessage.{flag_text}

pub encoded_between : (before middle after : List ℕ) → encode_utf8_all (before ++ middle ++ after) ≡ encode_utf8_all before ++ (encode_utf8_all middle ++ encode_utf8_all after)
encoded_between before middle after =
    encodes-append (before ++ middle) after ∙ ap (λ xs. xs ++ encode_utf8_all after) (encodes-append before middle)
    ∙ append_assoc (encode_utf8_all before) (encode_utf8_all middle) (encode_utf8_all after)

-- a text's own bytes between two texts
pub named_between : (before after bytes name : List ℕ) → IsUtf8 bytes → chars bytes ≡ name
    → encode_utf8_all before ++ (bytes ++ encode_utf8_all after) ≡ encode_utf8_all (before ++ name ++ after)
named_between before after bytes name is_text spelled =
    ap (λ xs. encode_utf8_all before ++ (xs ++ encode_utf8_all after)) (sym (encodes-chars bytes is_text) ∙ ap encode_utf8_all spelled)
    ∙ sym (encoded_between before name after)

digit_small : (c : ℕ) → digit_value c < 16 → c < 128
digit_small c small = grind (arith, nat_tests)

digits_small : (ds : List ℕ) → AllDigits 16 ds → IsAscii ds
digits_small [] all = IsAscii-nil
digits_small (c ∷ cs) all = IsAscii-cons c cs (digit_small c all.0) (digits_small cs all.1)

-- hexadecimal digits are bytes of their own
pub encoded_hex : (n : ℕ) → n < 2 ^ 32 → encode_utf8_all (digits 16 true n) ≡ digits 16 true n
encoded_hex n small = encodes-IsAscii (digits 16 true n) (digits_small (digits 16 true n) (digits_is_IsNumeral 16 true (omega arith) (omega arith) n (omega arith)).0.1)

out_of_range : (c : ℕ) → OutOfScalarRange c → is_character c ≡ false
out_of_range c out = grind (arith, nat_tests)

in_hex : (flag : ℕ) → OutOfScalarRange flag → flag_text flag ≡ codes "\\u{" ++ digits 16 true flag ++ codes "}"
in_hex flag out = rw (out_of_range flag out) refl

-- writes append what they wrote together
text_after_calls : {n : ℕ} (old new : InlineText n) (parts : List (List ℕ)) → FoldsTo AppendsIfIntact old parts new → IsIntact old → inline_text new ≡ inline_text old ++ concat parts
text_after_calls old new [] same intact = ap inline_text (sym same) ∙ sym (append-nil (inline_text old))
text_after_calls old new (part ∷ parts) calls intact =
    let first = calls.1 intact in
    text_after_calls calls.0 new parts calls.2 first.0 ∙ ap (λ xs. xs ++ concat parts) first.1 ∙ append_assoc (inline_text old) part (concat parts)

-- a flag that is no character was written to an empty text
pub shown_in_hex : {n : ℕ} (old new : InlineText n) (shown : Option (List ℕ)) (flag : ℕ) → flag < 2 ^ 32 → OutOfScalarRange flag → inline_text old ≡ [] → IsIntact old
    → shown ≡ Some (digits 16 true flag) → WritesText AppendsIfIntact old (Some (codes "\\u{") ++? shown ++? Some (codes "}")) new → inline_text new ≡ encode_utf8_all (flag_text flag)
unfolding encode_utf8
shown_in_hex old new shown flag small out none intact is written =
    let hex = digits 16 true flag in
    let wrote = subst (λ o. WritesText AppendsIfIntact old (Some (codes "\\u{") ++? o ++? Some (codes "}")) new) is written in
    text_after_calls old new wrote.parts wrote.calls intact ∙ ap (λ xs. xs ++ concat wrote.parts) none ∙ wrote.whole
    ∙ ap (λ xs. codes "\\u{" ++ (xs ++ codes "}")) (sym (encoded_hex flag small))
    ∙ sym (encoded_between (codes "\\u{") hex (codes "}")) ∙ ap encode_utf8_all (sym (in_hex flag out))
