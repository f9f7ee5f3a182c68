-- The units of a literal, character by character.
use Rattle.std.proofs.Common.{◌≡◌, ℕ, suc, ◌+◌, ◌%◌, ◌^◌, ◌<◌, Bool, true, false, cond, List, [], ◌∷◌, ◌++◌, length, get_or, drop, refl, sym, ap, ◌∙◌, append_assoc, length-append, arith}
use Rattle.std.proofs.Math.Nat.{mod-eq_of_lt}
use Rattle.std.proofs.lemmas.Bool.{lt-ltb}
use Rattle.std.proofs.lemmas.List.{at_drop_more}
use Rattle.std.proofs.lemmas.Str.{len_utf8_ascii, length-encode}
use lib.Utf8.{encode, encodes}
use Rattle.std.specs.Char.{len_utf8}
use Rattle.std.specs.Str.{IsAscii}
use Rattle.rx_units.specs.declared.code_point.CodePoint.{CodePoint}
use Rattle.rx_units.specs.declared.code_point.EscapeKind.TheVariants as kind
use Rattle.rx_units.specs.Bytes.{byte_units}
use Rattle.rx_units.specs.Units.{character_units, lead_of, literal_units, trail_of, unit}

-- one character of a literal
module _ (cs : List ℕ) (n c at : ℕ) (turn : (n < length cs) × (c ≡ get_or cs n c)) where
  units_turn : (joined : Bool) → literal_units joined at (drop n cs) ≡ character_units joined at (at + len_utf8 c) c kind.None ++ literal_units joined (at + len_utf8 c) (drop (n + 1) cs)
  units_turn joined = at_drop_more (literal_units joined at) cs n c turn.0 ∙ ap (λ x. literal_units joined at (x ∷ drop (n + 1) cs)) (sym turn.1)

  pub bytes_turn : length (encodes (drop n cs)) ≡ len_utf8 c + length (encodes (drop (n + 1) cs))
  bytes_turn =
      at_drop_more (λ xs. length (encodes xs)) cs n c turn.0 ∙ ap (λ x. length (encodes (x ∷ drop (n + 1) cs))) (sym turn.1)
      ∙ length-append (encode c) (encodes (drop (n + 1) cs)) ∙ ap (λ x. x + length (encodes (drop (n + 1) cs))) (length-encode c)

  -- the units so far and those of what is left are all
  pub units_preserved : (joined : Bool) (end : ℕ) (old new all : List CodePoint) → end ≡ at + len_utf8 c
      → old ++ literal_units joined at (drop n cs) ≡ all → new ≡ old ++ character_units joined at end c kind.None
      → new ++ literal_units joined end (drop (n + 1) cs) ≡ all
  units_preserved joined end old new all is h e =
      ap (λ xs. xs ++ literal_units joined end (drop (n + 1) cs)) e
      ∙ append_assoc old _ _ ∙ ap (λ (k : ℕ). old ++ (character_units joined at k c kind.None ++ literal_units joined k (drop (n + 1) cs))) is
      ∙ ap (λ xs. old ++ xs) (sym (units_turn joined)) ∙ h

-- an ASCII character is one unit, joined or not
pub ascii_unit : (joined : Bool) (start end c : ℕ) → c < 128 → character_units joined start end c kind.None ≡ unit start end c kind.None ∷ []
ascii_unit true start end c h = refl
ascii_unit false start end c h =
    ap (λ b. cond b (unit start end c kind.None ∷ []) (unit start end (lead_of c) kind.None ∷ unit start end (trail_of c) kind.None ∷ [])) (lt-ltb c 0x10000 (omega arith))

-- so ASCII text is read byte by byte
pub byte_units_literal : (joined : Bool) (at : ℕ) (bytes : List ℕ) → at + length bytes < 2 ^ 32 → IsAscii bytes → byte_units at bytes ≡ literal_units joined at bytes
byte_units_literal joined at [] fits ascii = refl
byte_units_literal joined at (b ∷ bs) fits ascii =
    let end : (at + 1) % 2 ^ 32 ≡ at + 1 = mod-eq_of_lt (omega arith) in
    let rest = byte_units_literal joined (at + 1) bs (omega arith) (λ i. ascii (suc i)) in
    ap (λ (k : ℕ). unit at k b kind.None ∷ byte_units (at + 1) bs) end
    ∙ ap (λ us. unit at (at + 1) b kind.None ∷ us) rest
    ∙ ap (λ us. us ++ literal_units joined (at + 1) bs) (sym (ascii_unit joined at (at + 1) b (ascii 0)))
    ∙ ap (λ (n : ℕ). character_units joined at (at + n) b kind.None ++ literal_units joined (at + n) bs) (sym (len_utf8_ascii b (ascii 0)))
