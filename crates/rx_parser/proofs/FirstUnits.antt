-- What stands next, told by the first unit.
use Rattle.std.proofs.Common.{All, ◌≡◌, refl, sym, ap, ◌∙◌, subst, ℕ, ◌+◌, ◌≤◌, Bool, true, false, not, ◌==◌, ◌||◌, Option, Some, None, List, [], ◌∷◌, drop, codes, arith}
use Rattle.std.specs.Int.{from_bool}
use Rattle.std.proofs.lemmas.Bool.{cond-false, cond-true, true≢false}
use Rattle.rx_base.specs.Ascii as ascii
use Rattle.rx_base.specs.Characters.{is_one_of}
use Rattle.rx_units.specs.Cursor.{front}
use Rattle.rx_model.specs.Quantifiers.CountsReading.{counts_read, counts_read_at}
use Rattle.rx_model.specs.Reading.FrontReading.{token_read, group_read}
use Rattle.rx_parser.proofs.Common.{CodePoint, Environment, IsFound, Parse, StandsNext, capturing, found_front, has_some, ignoring, is_legacy_syntax, is_unicode, nat_tests, opener, quantifier, rest, starts, text_environment, text_names, values}
use Rattle.rx_parser.proofs.FrontFound.{front_found, read_after, read_by_first}
use Rattle.rx_parser.specs.declared.found.Found.{Found}
use Rattle.rx_parser.specs.declared.found.Found.TheVariants as found
use Rattle.rx_parser.specs.declared.found.OpenerFound.TheVariants as opener_found

-- units of which the first has this value
front_values : (us : List CodePoint) (c : ℕ) → front us ≡ Some c → values us ≡ c ∷ drop 1 (values us)
front_values [] c is = absurd (let no : ⊥ = cc is in no)
front_values (u ∷ us) c is = let same : u.value ≡ c = cc is in ap (λ c. c ∷ values us) same

-- `(` that no `?` follows, by the units after it; and `(?:`, by all units
capturing_read : (unicode_mode : Bool) (w : List ℕ) → starts 63 w ≡ false → group_read unicode_mode w ≡ token_read (opener (capturing None)) 1
capturing_read m [] h = refl
capturing_read m (c ∷ w) h = cond-false (c == 63) _ _ h

ignoring_read : (unicode_mode : Bool) (w : List ℕ) → starts 63 (drop 1 w) ≡ true → starts 58 (drop 2 w) ≡ true → group_read unicode_mode (drop 1 w) ≡ token_read (opener (ignoring None)) 3
ignoring_read m [] h k = absurd (true≢false (sym h))
ignoring_read m (b ∷ []) h k = absurd (true≢false (sym h))
ignoring_read m (b ∷ c ∷ []) h k = absurd (true≢false (sym k))
ignoring_read m (b ∷ c ∷ d ∷ w) h k = cond-true (c == 63) _ _ h ∙ cond-true (d == 58) _ _ k

-- `*`, `+` and `?`, by their counts, and by whether a `?` follows
sign_read : (e : Environment) (sign min : ℕ) (max : Option ℕ) (lazy : Bool) (w : List ℕ) → is_one_of (codes "*+?") sign ≡ true → counts_read_at (sign ∷ []) ≡ counts_read min max 1
    → lazy ≡ starts 63 w → read_after e sign w ≡ token_read (quantifier min max (not lazy)) (1 + from_bool lazy)
unfolding counts_read_at
sign_read e sign min max true w one counts second = grind (arith, nat_tests)
sign_read e sign min max false w one counts second = grind (arith, nat_tests)

module _ {S U : Type 0} (p : Parse S U) {us : List CodePoint} (here : us ≡ rest p.reader) (small : All (λ (u : CodePoint). u.value ≤ 0x10FFFF) us) where
  abbrev e : Environment
  e = text_environment p.builder.mode p.builder.rules p.reader.units

  -- What is read by a first unit that never stands for itself stands there.
  pub stands : {it : Found} (c : ℕ) → front (rest p.reader) ≡ Some c → is_legacy_syntax c ≡ true → found_front (read_after e c (drop 1 (values us))) ≡ it → StandsNext p it
  stands {it} c is legacy found =
      let read = ap found_front (read_by_first e us c (drop 1 (values us)) (front_values us c (ap front here ∙ is)) legacy) ∙ found in
      subst (λ us. IsFound e us it) here (subst (IsFound e us) read (front_found e us (ap (λ always. always || has_some (text_names p.builder.mode p.reader.units))) small))

  pub capturing_stands : front (rest p.reader) ≡ Some ascii.left_parenthesis → starts ascii.question_mark (drop 1 (values us)) ≡ false → StandsNext p (found.Open opener_found.Capturing 1)
  capturing_stands is alone = stands 40 is refl (ap found_front (capturing_read (is_unicode e.mode) (drop 1 (values us)) alone))

  pub ignoring_stands : front (rest p.reader) ≡ Some ascii.left_parenthesis → starts ascii.question_mark (drop 1 (values us)) ≡ true
      → starts ascii.colon (drop 2 (values us)) ≡ true → StandsNext p (found.Open opener_found.Ignoring 3)
  ignoring_stands is second third = stands 40 is refl (ap found_front (ignoring_read (is_unicode e.mode) (values us) second third))

  pub sign_stands : {sign min : ℕ} {max : Option ℕ} {lazy : Bool} → is_one_of (codes "*+?") sign ≡ true → front (rest p.reader) ≡ Some sign
      → counts_read_at (sign ∷ []) ≡ counts_read min max 1 → lazy ≡ starts ascii.question_mark (drop 1 (values us))
      → StandsNext p (found.Quantifier min max (not lazy) (1 + from_bool lazy))
  sign_stands {sign} {min} {max} {lazy} one is counts second =
      stands sign is (grind (arith, nat_tests)) (ap found_front (sign_read e sign min max lazy (drop 1 (values us)) one counts second))
