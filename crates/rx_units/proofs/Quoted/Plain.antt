-- Characters of ASCII that stand for themselves in each kind of quotes, and escaped backslashes.
use Rattle.std.proofs.Common.{◌≡◌, ℕ, ◌+◌, ◌^◌, ◌<◌, ◌≤◌, true, List, [], ◌∷◌, ◌++◌, length, get_or, drop, refl, sym, ap, ◌∙◌, subst, arith}
use Rattle.rx_units.proofs.Common.{nat_tests, len_utf8_ascii, Span, CodePoint, Literal, Options, IsPlainFront, SpellsElement, character, written, element, escape_at, front, is_plain, Place, Leads, byte_count}
use Rattle.rx_units.specs.declared.code_point.EscapeKind.TheVariants as kind
use Rattle.rx_units.specs.declared.quoted_text.element.Writing.TheVariants as writing
use Rattle.rx_units.specs.declared.quoted_text.literal.Literal.TheVariants as literals
use Rattle.rx_units.specs.declared.string_literal_parser.StringLiteralKind.TheVariants as quotes
use Rattle.rx_units.proofs.Literals.{ascii_unit}
use Rattle.rx_units.proofs.Quoted.Fronts.{spelled_front}
use Rattle.rx_units.proofs.Quoted.Turns.{place, turn}
use Rattle.rx_units.proofs.Quoted.Widths.{Taken, byte_split, taken}

-- such a character is an element of itself
plain_spelled : (l : Literal) (c : ℕ) (rest : List ℕ) → is_plain c ≡ true → SpellsElement l (written c writing.Plain) (c ∷ []) rest
plain_spelled (literals.String quotes.Double) c rest h = character (grind (arith, nat_tests))
plain_spelled l c rest h = character (grind (arith, nat_tests))

plain_front : (c : ℕ) (rest : List ℕ) → is_plain c ≡ true → IsPlainFront c 1 (c ∷ rest)
plain_front c rest h =
    let small : c < 128 = grind (arith, nat_tests) in
    record {
      ascii = small;
      found = λ l. spelled_front l (written c writing.Plain) (c ∷ []) rest (plain_spelled l c rest h);
      bytes = omega (arith, len_utf8_ascii c small);
    }

pub plain_next : (us : List ℕ) (c : ℕ) → 1 ≤ length us → c ≡ get_or us 0 c → is_plain c ≡ true → IsPlainFront c 1 us
plain_next [] c n e h = absurd (omega (arith, n))
plain_next (u ∷ us) c n e h = subst (λ u. IsPlainFront c 1 (u ∷ us)) e (plain_front c us h)

backslash_found : (l : Literal) (rest : List ℕ) → front l (92 ∷ 92 ∷ rest) ≡ element (written 92 writing.Plain) 2
unfolding front escape_at
backslash_found (literals.String quotes.Double) rest = refl
backslash_found l rest = refl

backslash_front : (rest : List ℕ) → IsPlainFront 92 2 (92 ∷ 92 ∷ rest)
backslash_front rest = record {
  ascii = omega arith;
  found = λ l. backslash_found l rest;
  bytes = refl;
}

pub backslash_next : (us : List ℕ) (d e : ℕ) → 2 ≤ length us → 92 ≡ get_or us 0 d → 92 ≡ get_or us 1 e → IsPlainFront 92 2 us
backslash_next (u ∷ v ∷ us) d e n h k = subst (λ u. IsPlainFront 92 2 (u ∷ v ∷ us)) h (subst (λ v. IsPlainFront 92 2 (92 ∷ v ∷ us)) k (backslash_front us))
backslash_next us d e n h k = absurd (omega (arith, n))

-- it is cut from the text
pub plain_taken : {c n : ℕ} {us : List ℕ} → IsPlainFront c n us → Taken literals.Template (written c writing.Plain) n us
plain_taken {c} {n} {us} h = taken literals.Template us (written c writing.Plain) n (h.found literals.Template)

-- it ends within the text
pub plain_fits : {c n : ℕ} {us : List ℕ} → IsPlainFront c n us → (at total : ℕ) → at + byte_count us ≡ total → total < 2 ^ 32 → at + n < 2 ^ 32
plain_fits {c} {n} {us} h at total whole fits = omega (arith, byte_split n us, h.bytes)

-- one more of them is read
module _ (us : List CodePoint) (at : ℕ) (rest : List ℕ) (c n : ℕ) (h : IsPlainFront c n rest) where
  pub plain_turn : (l : Literal) (o : Options) (from : Place) (new : List CodePoint) (more : List ℕ) (span : Span) → Leads l o from (place us at rest)
      → more ≡ drop n rest → span ≡ record { start = at; end = at + n } → new ≡ us ++ record { span = span; value = c; escape_kind = kind.None } ∷ [] → Leads l o from (place new (at + n) more)
  plain_turn l o from new more span lead more_is span_is new_is =
      turn l o from us at rest (written c writing.Plain) n new (at + n) more lead (h.found l) refl (ap (λ (k : ℕ). at + k) (sym h.bytes)) more_is
      (new_is ∙ ap (λ (s : Span). let u : CodePoint = record { span = s; value = c; escape_kind = kind.None } in us ++ u ∷ []) span_is ∙ ap (λ vs. us ++ vs) (sym (ascii_unit o.combine_surrogate_pair at (at + n) c h.ascii)))
