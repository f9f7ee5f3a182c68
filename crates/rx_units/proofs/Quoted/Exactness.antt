-- At most one fault stands in a string, and none in one that is decoded.
use Rattle.std.proofs.Common.{◌≡◌, ℕ, ◌+◌, true, false, List, [], ◌∷◌, ◌++◌, length, take, refl, sym, ap, ◌∙◌, arith, ◌⊎◌}
use Rattle.rx_units.proofs.Common.{Result, IfOk, IfErr, MatchResult, take-append_seam, CodePoint, Element, Writing, Options, LegacyKind, StringFault, StringLiteralKind, PassesHex, IsStringOf, string_element_fault, string_fault_at, quote_of, is_string_quote, NothingStands, IsStringFault}
use Rattle.rx_units.proofs.Common.{unopened, followed, legacy, too_large, from_to, empty_at, Place, IsDecoded, byte_count, is_refused}
use Rattle.rx_units.specs.declared.quoted_text.element.Writing.TheVariants as writing
use Rattle.rx_units.specs.declared.quoted_text.literal.Literal.TheVariants as literals
use Rattle.rx_units.specs.declared.string_literal_parser.StringFault.TheVariants as string_fault
use Rattle.rx_units.specs.declared.string_literal_parser.StringLiteral.{StringLiteral}
use Rattle.rx_units.specs.declared.string_literal_parser.StringLiteralKind.TheVariants as quotes
use Rattle.rx_units.specs.Quoted.Faults.{nothing}
use Rattle.rx_units.specs.Quoted.Fronts as read
use Rattle.rx_units.proofs.Quoted.Fronts.{spelled_front, front_spelled, quote_front, closer_found, passes_front}
use Rattle.rx_units.proofs.Quoted.Outcomes.{large_found}
use Rattle.rx_units.proofs.Quoted.Rows.{IsStuck}
use Rattle.rx_units.proofs.Quoted.Stops.{Cause, outside, inside, one_cause, no_cause, without_closer, stops_without, stops_followed, answers_right, answers_fault}

opens_with : (k : StringLiteralKind) → is_string_quote (quote_of (literals.String k)) ≡ true
opens_with quotes.Double = refl
opens_with quotes.Single = refl

abbrev fault_at : read.Front → Place → StringFault
fault_at r p = string_fault_at r p.offset p.rest

module _ (k : StringLiteralKind) (p : Place) where
  nothing_fault : (r : read.Front) → read.front (literals.String k) p.rest ≡ r → NothingStands (literals.String k) p.rest
      → ((w : List ℕ) (count : ℕ) → p.rest ≡ 92 ∷ w → PassesHex w count → ⊥)
      → string_fault.InvalidInput (empty_at p.offset) ≡ fault_at r p
  nothing_fault (read.element e n) h s l = let f = front_spelled (literals.String k) p.rest e n h in absurd (s.no_element e f.spelled f.rest f.whole f.spells)
  nothing_fault read.closer h s l = let c = closer_found (literals.String k) p.rest h in absurd (s.no_quote c.0 c.1)
  nothing_fault (read.too_large n) h s l = let x = large_found k p.rest n h in absurd (l x.w x.count x.begins x.over)
  nothing_fault r h s l = refl

  -- in strict mode code a legacy escape is no element that is allowed
  stuck_at_legacy : (o : Options) (e : Element) (n : ℕ) (what : LegacyKind) → read.front (literals.String k) p.rest ≡ read.element e n → o.strict_mode ≡ true → e.writing ≡ writing.Legacy what → IsStuck (literals.String k) o p
  stuck_at_legacy o e n what h strict is x v more g t allowed =
      let same : read.element x (length v) ≡ read.element e n = sym (spelled_front (literals.String k) x v more t) ∙ ap (read.front (literals.String k)) (sym g) ∙ h in
      let one : x ≡ e = cc same in
      let no : true ≡ false = sym strict ∙ sym (ap (λ (e : Element). is_refused o e.writing) one ∙ ap (is_refused o) is) ∙ allowed in
      cc no

  legacy_is : (e : Element) (w rest : List ℕ) (what : LegacyKind) → p.rest ≡ w ++ rest → e.writing ≡ writing.Legacy what
      → string_fault.LegacyInStrictMode what (from_to p.offset (p.offset + byte_count w)) ≡ fault_at (read.element e (length w)) p
  legacy_is e w rest what h is =
      ap (λ (m : Writing). string_element_fault m p.offset (p.offset + byte_count w)) (sym is)
      ∙ ap (λ v. string_element_fault e.writing p.offset (p.offset + byte_count v)) (sym (ap (take (length w)) h ∙ take-append_seam w rest))

module _ (o : Options) (text : List ℕ) where
  abbrev StringCause : StringFault → Type 0
  StringCause = Cause is_string_quote (string_fault.InvalidInput (empty_at o.span_offset)) fault_at o text

  cause : (f : StringFault) → IsStringFault o text f → StringCause f
  cause _ (unopened h) = outside h refl
  cause _ (nothing {k} {p} a s l) = inside (literals.String k) p (opens_with k)
      (record {
        reached = a;
        stuck = λ e w rest h t x. s.no_element e w rest h t;
        unended = λ h. s.no_quote [] h;
      })
      (nothing_fault k p (read.front (literals.String k) p.rest) refl s l)
  cause _ (followed {k} {p} {c} {cs} a h) =
      inside (literals.String k) p (opens_with k) (stops_followed (literals.String k) o p text c cs a h)
      (ap (λ r. fault_at r p) (sym (quote_front (literals.String k) (c ∷ cs)) ∙ ap (read.front (literals.String k)) (sym h)))
  cause _ (legacy {k} {p} {what} e w rest a h s strict is) =
      let front_is = ap (read.front (literals.String k)) h ∙ spelled_front (literals.String k) e w rest s in
      inside (literals.String k) p (opens_with k)
      (record {
        reached = a;
        stuck = stuck_at_legacy k p o e (length w) what front_is strict is;
        unended = without_closer (literals.String k) o p (read.element e (length w)) front_is refl;
      })
      (legacy_is k p e w rest what h is ∙ ap (λ r. fault_at r p) (sym front_is))
  cause _ (too_large {k} {p} {w} {count} a e l) =
      let front_is = passes_front (literals.String k) p.rest w count e l in
      inside (literals.String k) p (opens_with k) (stops_without (literals.String k) o p text (read.too_large (count + 3)) a front_is refl refl)
      (ap (λ (end : ℕ). string_fault.TooLargeUnicodeEscapeSequence (from_to p.offset end)) (let e : p.offset + 3 + count ≡ p.offset + (count + 3) = omega arith in e) ∙ ap (λ r. fault_at r p) (sym front_is))

  -- At most one fault stands in a string.
  pub one_fault : (f g : StringFault) → IsStringFault o text f → IsStringFault o text g → f ≡ g
  one_fault f g a b = one_cause is_string_quote (string_fault.InvalidInput (empty_at o.span_offset)) fault_at o text f g (cause f a) (cause g b)

  pub no_fault : (k : StringLiteralKind) (us : List CodePoint) (f : StringFault) → IsDecoded (literals.String k) o text us → IsStringFault o text f → ⊥
  no_fault k us f d x = no_cause is_string_quote (string_fault.InvalidInput (empty_at o.span_offset)) fault_at o text (literals.String k) us f (opens_with k) d (cause f x)

  -- What a reader of strings answers, where it answers a decoded string or a fault that stands.
  module _ (result : Result StringLiteral StringFault) (ok : IfOk result (IsStringOf (record { text = text; options = o })))
      (err : IfErr result (λ fault. (fault ≡ string_fault.OutOfMemory) ⊎ IsStringFault o text fault)) where
    pub decodes : (k : StringLiteralKind) (us : List CodePoint) → IsDecoded (literals.String k) o text us → IfErr result (λ fault. fault ≡ string_fault.OutOfMemory)
    decodes k us d = answers_right string_fault.OutOfMemory (IsStringOf (record { text = text; options = o })) (IsStringFault o text) result err (λ f x. no_fault k us f d x)

    pub refuses : (f : StringFault) → IsStringFault o text f → MatchResult result (λ it. ⊥) (λ fault. (fault ≡ string_fault.OutOfMemory) ⊎ (fault ≡ f))
    refuses f x =
        answers_fault string_fault.OutOfMemory (IsStringOf (record { text = text; options = o })) (IsStringFault o text) result f ok err
        (λ it a. no_fault it.kind it.body f a.decoded x) (λ g y. one_fault g f y x)

-- No string that is decoded has a fault.
pub no_fault_decoded : (k : StringLiteralKind) (o : Options) (text : List ℕ) (us : List CodePoint) (f : StringFault) → IsDecoded (literals.String k) o text us → IsStringFault o text f → ⊥
no_fault_decoded k o text us f d x = no_fault o text k us f d x
