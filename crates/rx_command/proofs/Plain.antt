-- Words of ASCII characters are their own bytes.
use Rattle.std.proofs.Common.{◌≡◌, ◌∙◌, sym, ap, ℕ, true, List, nat_lt}
use Rattle.std.specs.List.{list_all}
use Rattle.std.specs.Str.{IsAscii, IsUtf8, chars, encode_utf8_all}
use Rattle.std.proofs.lemmas.Bool.{ltb-true}
use Rattle.std.proofs.lemmas.List.Sums.{AllPass-from_list_all}
use Rattle.std.proofs.lemmas.Str.{chars-IsAscii, encodes-chars, encodes-IsAscii}
use Rattle.std.proofs.lemmas.Str.Ascii.{IsAscii-from_all}

pub plain_text : (text : List ℕ) → list_all (λ b. nat_lt b 128) text ≡ true → IsAscii text
plain_text text plain = IsAscii-from_all text (λ k d within. ltb-true _ _ (AllPass-from_list_all (λ b. nat_lt b 128) text plain k d within))

pub word_chars : (text bytes : List ℕ) → IsAscii text → bytes ≡ text → chars bytes ≡ text
word_chars text bytes plain is = ap chars is ∙ chars-IsAscii text plain

pub word_bytes : (text bytes : List ℕ) → IsAscii text → IsUtf8 bytes → chars bytes ≡ text → bytes ≡ text
word_bytes text bytes plain utf8 is = sym (encodes-chars bytes utf8) ∙ ap encode_utf8_all is ∙ encodes-IsAscii text plain
