-- What an element takes of a text, and how large its value is.
use Rattle.std.proofs.Common.{◌≡◌, ℕ, suc, zero, ◌+◌, ◌<◌, ◌≤◌, true, List, [], ◌∷◌, ◌++◌, length, take, drop, refl, sym, ap, ◌∙◌, subst, arith, inl, inr, length-append}
use Rattle.rx_units.proofs.Common.{nat_tests, All-cons, All-head, All-nil, All-tail, All-take, len_utf8, length-encode, encodes-chars, scalars-chars, All, IsUtf8, chars, drop-append_seam, take-append_seam, encode, encodes, scalar, scalars, Writing, Element, Literal, SpellsTerminator}
use Rattle.rx_units.proofs.Common.{alone, carriage_return, carriage_return_line_feed, SpellsEscape, single, non_escape, null, hexadecimal, four_digits, braced, continuation, SpellsElement, SpellsInString, SpellsInTemplate, legacy_octal, non_octal, dollar, terminator, zero_digit, character}
use Rattle.rx_units.proofs.Common.{escape, element, front, byte_count, both, four_small, two_small}
use Rattle.std.proofs.Math.Utf8.{scalar_cases}
use lib.ListN.{take-append-drop}
use Rattle.rx_units.specs.declared.quoted_text.literal.Literal.TheVariants as literals
use Rattle.rx_units.specs.declared.string_literal_parser.StringLiteralKind.TheVariants as quotes
use Rattle.rx_units.specs.Quoted.Elements.{digit}
use Rattle.rx_units.proofs.Quoted.Fronts.{front_spelled}
use Rattle.rx_units.proofs.Quoted.Rows.{some_characters}
use Rattle.rx_units.proofs.OctalEscapes.{octal_value_small}

abbrev pub AreCharacters : List ℕ → Type 0
AreCharacters us = All (λ c. c ≤ 0x10FFFF) us

first_small : (c : ℕ) (w : List ℕ) → AreCharacters (c ∷ w) → c ≤ 0x10FFFF
first_small c w h = All-head (λ c. c ≤ 0x10FFFF) c w h

terminator_small : (c : ℕ) (w rest : List ℕ) → SpellsTerminator c w rest → c ≤ 0x10FFFF
terminator_small c _ rest (alone h) = grind (arith, nat_tests)
terminator_small _ _ rest _ = omega arith

escape_small : (v : ℕ) (k : Writing) (w rest : List ℕ) → SpellsEscape v k w rest → AreCharacters w → v ≤ 0x10FFFF
escape_small v _ _ rest (single {c} h) a = grind (arith, nat_tests)
escape_small c _ _ rest (non_escape h) a = first_small c [] a
escape_small _ _ _ rest (null h) a = omega arith
escape_small v _ _ rest (hexadecimal {a} {b} h) _ = omega (arith, two_small a b v h)
escape_small v _ _ rest (four_digits {a} {b} {c} {d} h) _ = omega (arith, four_small a b c d v h)
escape_small v _ _ rest (braced x xs h top) a = top
escape_small c _ w rest (continuation t) a = terminator_small c w rest t

string_small : (quote : ℕ) (e : Element) (w rest : List ℕ) → SpellsInString quote e w rest → AreCharacters w → e.value ≤ 0x10FFFF
string_small quote _ _ rest (character {c} h) a = first_small c [] a
string_small quote _ _ rest (escape {v} {k} {w} p) a = escape_small v k w rest p (All-tail (λ c. c ≤ 0x10FFFF) 92 w a)
string_small quote _ _ rest (legacy_octal {v} {w} s) a = omega (arith, octal_value_small v w rest s)
string_small quote _ _ rest (non_octal {c} h) a = first_small c [] (All-tail (λ c. c ≤ 0x10FFFF) 92 (c ∷ []) a)

template_small : (e : Element) (w rest : List ℕ) → SpellsInTemplate e w rest → AreCharacters w → e.value ≤ 0x10FFFF
template_small _ _ rest (character {c} h) a = first_small c [] a
template_small _ _ rest (dollar h) a = omega arith
template_small _ w rest (terminator {c} t) a = terminator_small c w rest t
template_small _ _ rest (escape {v} {k} {w} p) a = escape_small v k w rest p (All-tail (λ c. c ≤ 0x10FFFF) 92 w a)
template_small _ _ rest (zero_digit {c} h) a = first_small c [] (All-tail (λ c. c ≤ 0x10FFFF) 48 (c ∷ []) (All-tail (λ c. c ≤ 0x10FFFF) 92 (48 ∷ c ∷ []) a))
template_small _ _ rest (digit {c} h) a = first_small c [] (All-tail (λ c. c ≤ 0x10FFFF) 92 (c ∷ []) a)

element_small : (l : Literal) (e : Element) (w rest : List ℕ) → SpellsElement l e w rest → AreCharacters w → e.value ≤ 0x10FFFF
element_small (literals.String quotes.Double) e w rest s a = string_small 34 e w rest s a
element_small (literals.String quotes.Single) e w rest s a = string_small 39 e w rest s a
element_small literals.Template e w rest s a = template_small e w rest s a

-- bytes of a part and of what is left
pub byte_split : (n : ℕ) (us : List ℕ) → byte_count (take n us) + byte_count (drop n us) ≡ byte_count us
byte_split zero us = omega arith
byte_split (suc n) [] = refl
byte_split (suc n) (u ∷ us) = omega (arith, byte_split n us)

one_byte : (c : ℕ) → 0 < len_utf8 c
one_byte c = grind (arith, nat_tests)

pub length_le_bytes : (us : List ℕ) → length us ≤ byte_count us
length_le_bytes [] = omega arith
length_le_bytes (u ∷ us) = omega (arith, one_byte u, length_le_bytes us)

-- what stands next, cut from the text
pub record Taken (l : Literal) (e : Element) (n : ℕ) (us : List ℕ) : Type 0 where
  pub within : n ≤ length us
  pub some : 0 < n
  pub whole : us ≡ take n us ++ drop n us
  pub spells : SpellsElement l e (take n us) (drop n us)
  pub small : AreCharacters us → e.value ≤ 0x10FFFF

some_length : (l : Literal) (e : Element) (w rest : List ℕ) → SpellsElement l e w rest → 0 < length w
some_length l e [] rest s = absurd (some_characters l e rest s)
some_length l e (c ∷ w) rest s = omega arith

taken_front : (l : Literal) (e : Element) (n : ℕ) (w rest : List ℕ) → SpellsElement l e w rest → length w ≡ n → Taken l e n (w ++ rest)
taken_front l e n w rest s c =
    let t : take n (w ++ rest) ≡ w = ap (λ (k : ℕ). take k (w ++ rest)) (sym c) ∙ take-append_seam w rest in
    let d : drop n (w ++ rest) ≡ rest = ap (λ (k : ℕ). drop k (w ++ rest)) (sym c) ∙ drop-append_seam w rest in
    record {
      within = omega (arith, length-append w rest, c);
      some = omega (arith, some_length l e w rest s, c);
      whole = sym (take-append-drop n (w ++ rest));
      spells = subst (λ v. SpellsElement l e v (drop n (w ++ rest))) (sym t) (subst (SpellsElement l e w) (sym d) s);
      small = λ a. element_small l e w rest s (subst AreCharacters t (All-take (λ c. c ≤ 0x10FFFF) n (w ++ rest) a));
    }

pub taken : (l : Literal) (us : List ℕ) (e : Element) (n : ℕ) → front l us ≡ element e n → Taken l e n us
taken l us e n h = let f = front_spelled l us e n h in subst (Taken l e n) (sym f.whole) (taken_front l e n f.spelled f.rest f.spells f.count)

-- the bytes of a text are those of its characters
bytes_encoded : (cs : List ℕ) → byte_count cs ≡ length (encodes cs)
bytes_encoded [] = refl
bytes_encoded (c ∷ cs) = omega (arith, bytes_encoded cs, length-append (encode c) (encodes cs), length-encode c)

pub byte_text : (text : List ℕ) → IsUtf8 text → byte_count (chars text) ≡ length text
byte_text text h = bytes_encoded (chars text) ∙ ap length (encodes-chars text h)

scalar_small : (c : ℕ) → scalar c ≡ true → c ≤ 0x10FFFF
scalar_small c h = elim (scalar_cases c h) [ inl p ↦ omega arith | inr p ↦ omega arith ]

scalars_small : (cs : List ℕ) → scalars cs ≡ true → AreCharacters cs
scalars_small [] h = All-nil (λ c. c ≤ 0x10FFFF)
scalars_small (c ∷ cs) h = let b = both (scalar c) (scalars cs) h in All-cons (λ c. c ≤ 0x10FFFF) c cs (scalar_small c b.0) (scalars_small cs b.1)

pub text_characters : (text : List ℕ) → IsUtf8 text → AreCharacters (chars text)
text_characters text h = scalars_small (chars text) (scalars-chars text h)
