use Rattle.std.proofs.Common.{◌≡◌, ℕ, ◌<◌, ◌==◌, Bool, true, false, List, [], ◌∷◌, ◌++◌, get_or, length, refl, sym, ap, ◌∙◌, arith, eq-eqb, length-append}
use Rattle.std.proofs.lemmas.Bool.{eqb-true}
use Rattle.std.proofs.lemmas.Str.{byte_from_char, char_from_byte, encodes-chars, len_utf8_bounds, length-encode}
use Rattle.std.specs.Str.{chars}
use lib.Utf8.{encode, encodes}
use Rattle.rx_units.specs.Quoted.Faults.{is_grave_accent}
use Rattle.rx_units.specs.Digits.{front_is}
use Rattle.rx_units.proofs.reader.is_template.Goals as goal

module _ (c : ℕ) (cs : List ℕ) where
  abbrev first_byte : ℕ
  first_byte = get_or (encode c ++ encodes cs) 0 0

  some_byte : 0 < length (encode c ++ encodes cs)
  some_byte = omega (arith, length-append (encode c) (encodes cs), length-encode c, (len_utf8_bounds c).0)

  first_is : (a b : Bool) → (c == 96) ≡ a → (first_byte == 96) ≡ b → a ≡ b
  first_is true true h k = refl
  first_is false false h k = refl
  first_is true false h k =
      let character : c ≡ 96 = eqb-true c 96 h in
      let byte : first_byte ≡ 96 = byte_from_char (encode c ++ encodes cs) (encodes cs) c refl (omega (arith, character)) ∙ character in
      sym (eq-eqb first_byte 96 byte) ∙ k
  first_is false true h k =
      let byte : first_byte ≡ 96 = eqb-true first_byte 96 k in
      let character : c ≡ 96 = char_from_byte (encode c ++ encodes cs) (encodes cs) c refl (omega (arith, byte)) some_byte ∙ byte in
      sym h ∙ eq-eqb c 96 character

-- the first character is a grave accent where the first byte is
accent_first : (cs : List ℕ) → front_is is_grave_accent cs ≡ (get_or (encodes cs) 0 0 == 96)
accent_first [] = refl
accent_first (c ∷ cs) = first_is c cs (c == 96) (get_or (encode c ++ encodes cs) 0 0 == 96) refl refl

pub returns : goal.returns
returns c =
    let text = c.args.source_text.now in
    c.starts_with.ensures.byte (omega arith) (omega arith) (λ w o h. h)
    ∙ ap (λ (bs : List ℕ). get_or bs 0 0 == 96) (sym (encodes-chars text c.utf8.source_text))
    ∙ sym (accent_first (chars text))
