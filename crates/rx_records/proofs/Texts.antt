-- The bytes of texts.
use Rattle.std.proofs.Common.{◌≡◌, ap, sym, ◌∙◌, List, ℕ}
use Rattle.std.specs.Str.{chars, encode_utf8_all, IsUtf8}
use Rattle.std.proofs.lemmas.Str.{encodes-chars}

pub text_bytes : (bytes text : List ℕ) → IsUtf8 bytes → chars bytes ≡ text → bytes ≡ encode_utf8_all text
text_bytes bytes text is_text e = sym (encodes-chars bytes is_text) ∙ ap encode_utf8_all e
