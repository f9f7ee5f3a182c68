-- The characters of a text that grew.
use Rattle.std.proofs.Common.{◌≡◌, ◌<◌, refl, ap, sym, ◌∙◌, ℕ, List, [], ◌∷◌, ◌++◌, true, arith, length}
use Rattle.std.specs.Str.{chars, IsAscii, IsUtf8}
use Rattle.std.proofs.Math.Utf8.{encode, scalar}
use Rattle.std.proofs.lemmas.List.{append-nil}
use Rattle.std.proofs.lemmas.Str.{chars-append, chars-encodes, encodes-append, encodes-chars, length-encode, IsUtf8-from_ascii}
use Rattle.std.specs.Char.{encode_utf8, len_utf8}
use Rattle.std.specs.Str.{encode_utf8_all}

-- by another text
pub chars_grown : (old new more : List ℕ) → IsUtf8 old → new ≡ old ++ more → chars new ≡ chars old ++ chars more
chars_grown old new more text grown = ap chars grown ∙ chars-append old more text

-- by one character
pub chars_pushed : (old new : List ℕ) (c : ℕ) → IsUtf8 old → scalar c ≡ true → new ≡ old ++ encode c → chars new ≡ chars old ++ (c ∷ [])
chars_pushed old new c text is_scalar grown =
    let one : chars (encode c) ≡ c ∷ [] = ap chars (sym (append-nil (encode c))) ∙ chars-encodes (c ∷ []) (rw is_scalar refl) in
    chars_grown old new (encode c) text grown ∙ ap (λ cs. chars old ++ cs) one

-- characters are spelled by one text
pub one_text : {a b : List ℕ} → IsUtf8 a → IsUtf8 b → chars a ≡ chars b → a ≡ b
one_text {a = a} {b = b} first second same = sym (encodes-chars a first) ∙ ap encode_utf8_all same ∙ encodes-chars b second

-- the bytes of a text that grew by another
pub encodes_grown : (old new added : List ℕ) → IsUtf8 added → new ≡ old ++ chars added → encode_utf8_all new ≡ encode_utf8_all old ++ added
encodes_grown old new added text grown = ap encode_utf8_all grown ∙ encodes-append old (chars added) ∙ ap (λ bytes. encode_utf8_all old ++ bytes) (encodes-chars added text)

-- by one character
pub encodes_pushed : (old new : List ℕ) (c : ℕ) → new ≡ old ++ (c ∷ []) → encode_utf8_all new ≡ encode_utf8_all old ++ encode_utf8 c
encodes_pushed old new c grown = ap encode_utf8_all grown ∙ encodes-append old (c ∷ []) ∙ ap (λ bytes. encode_utf8_all old ++ bytes) (append-nil (encode_utf8 c))

-- a character has some bytes
pub bytes_of_one : (c : ℕ) → 0 < length (encode_utf8 c)
bytes_of_one c = grind (arith, length-encode, len_utf8)

-- ASCII is a text
pub ascii_text : (bytes : List ℕ) → IsAscii bytes → IsUtf8 bytes
ascii_text = IsUtf8-from_ascii
