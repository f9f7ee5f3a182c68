-- At most one fault stands in a template, and none in one that is decoded.
use Rattle.std.proofs.Common.{◌≡◌, ℕ, ◌+◌, true, false, List, ◌∷◌, ◌++◌, length, take, refl, sym, ap, ◌∙◌, arith, ◌⊎◌}
use Rattle.rx_units.proofs.Common.{Result, IfOk, IfErr, MatchResult, take-append_seam, CodePoint, Element, Writing, Options, TemplateFault, IsTemplateOf, template_element_fault, template_fault_at, is_grave_accent, IsTemplateFault, unopened, ends, ends_escape, followed, not_escape}
use Rattle.rx_units.proofs.Common.{no_hex_digit, one_hex_digit, no_four_digits, no_code_point, too_large, from_to, empty_at, is_closer, Place, IsReached, IsDecoded, byte_count, is_refused}
use Rattle.rx_units.specs.declared.quoted_text.element.Writing.TheVariants as writing
use Rattle.rx_units.specs.declared.quoted_text.literal.Literal.TheVariants as literals
use Rattle.rx_units.specs.declared.template_literal_parser.TemplateFault.TheVariants as template_fault
use Rattle.rx_units.specs.declared.template_literal_parser.TemplateLiteral.{TemplateLiteral}
use Rattle.rx_units.specs.Quoted.Faults.{substitution}
use Rattle.rx_units.specs.Quoted.Fronts as read
use Rattle.rx_units.proofs.Quoted.Fronts.{quote_front, passes_front, spelled_front}
use Rattle.rx_units.proofs.Quoted.Rows.{IsStuck}
use Rattle.rx_units.proofs.Quoted.Stops.{Cause, outside, inside, is_element, one_cause, no_cause, without_closer, stops_without, stops_followed, answers_right, answers_fault}
use Rattle.rx_units.proofs.Quoted.TemplateFaultFronts.{end_read, escape_end_read, substitution_read, no_hex_read, one_hex_read, no_digits_read, no_code_point_read}

abbrev fault_at : read.Front → Place → TemplateFault
fault_at r p = template_fault_at r p.offset p.rest

module _ (o : Options) (text : List ℕ) where
  abbrev TemplateCause : TemplateFault → Type 0
  TemplateCause = Cause is_grave_accent (template_fault.InvalidInput (empty_at o.span_offset)) fault_at o text

  -- With strings as the standard has them digits that are no escape are no element that is allowed.
  stuck_at_digits : (p : Place) (e : Element) (n : ℕ) → read.front literals.Template p.rest ≡ read.element e n → o.standard_strings ≡ true → e.writing ≡ writing.NotEscape → IsStuck literals.Template o p
  stuck_at_digits p e n h standard is x v more g t allowed =
      let same : read.element x (length v) ≡ read.element e n = sym (spelled_front literals.Template x v more t) ∙ ap (read.front literals.Template) (sym g) ∙ h in
      let one : x ≡ e = cc same in
      let no : true ≡ false = sym standard ∙ sym (ap (λ (e : Element). is_refused o e.writing) one ∙ ap (is_refused o) is) ∙ allowed in
      cc no

  digits_are : (p : Place) (e : Element) (w rest : List ℕ) → p.rest ≡ w ++ rest → e.writing ≡ writing.NotEscape
      → template_fault.NotEscapeSequence (from_to p.offset (p.offset + byte_count w)) ≡ fault_at (read.element e (length w)) p
  digits_are p e w rest h is =
      ap (λ (m : Writing). template_element_fault m p.offset (p.offset + byte_count w)) (sym is)
      ∙ ap (λ v. template_element_fault e.writing p.offset (p.offset + byte_count v)) (sym (ap (take (length w)) h ∙ take-append_seam w rest))

  -- the fault of a place at which this is read
  caused : (p : Place) (r : read.Front) (f : TemplateFault) → IsReached literals.Template o text p → read.front literals.Template p.rest ≡ r → is_element r ≡ false → is_closer r ≡ false → f ≡ fault_at r p → TemplateCause f
  caused p r f a h no_element no_closer e =
      inside literals.Template p refl (stops_without literals.Template o p text r a h no_element no_closer) (e ∙ ap (λ r. fault_at r p) (sym h))

  cause : (f : TemplateFault) → IsTemplateFault o text f → TemplateCause f
  cause _ (unopened h) = outside h refl
  cause _ (ends {p} a h) =
      caused p (read.nothing 0) (template_fault.InvalidInput (empty_at p.offset)) a (end_read p.rest h) refl refl (ap (λ (n : ℕ). template_fault.InvalidInput (empty_at n)) (let e : p.offset ≡ p.offset + 0 = omega arith in e))
  cause _ (ends_escape {p} a h) = caused p (read.nothing 1) (template_fault.InvalidInput (empty_at (p.offset + 1))) a (escape_end_read p.rest h) refl refl refl
  cause _ (followed {p} {c} {cs} a h) =
      inside literals.Template p refl (stops_followed literals.Template o p text c cs a h)
      (ap (λ r. fault_at r p) (sym (quote_front literals.Template (c ∷ cs)) ∙ ap (read.front literals.Template) (sym h)))
  cause _ (substitution {p} {rest} a h) = caused p read.substitution (template_fault.TemplateSubstitution (empty_at p.offset)) a (substitution_read p.rest rest h) refl refl refl
  cause _ (not_escape {p} e w rest a h s standard is) =
      let front_is = ap (read.front literals.Template) h ∙ spelled_front literals.Template e w rest s in
      inside literals.Template p refl
      (record {
        reached = a;
        stuck = stuck_at_digits p e (length w) front_is standard is;
        unended = without_closer literals.Template o p (read.element e (length w)) front_is refl;
      })
      (digits_are p e w rest h is ∙ ap (λ r. fault_at r p) (sym front_is))
  cause _ (no_hex_digit {p} {rest} a h none) = caused p (read.invalid_hex 2) (template_fault.InvalidHexEscape (empty_at (p.offset + 2))) a (no_hex_read p.rest rest h none) refl refl refl
  cause _ (one_hex_digit {p} {c} {rest} a h one none) =
      caused p (read.invalid_hex 3) (template_fault.InvalidHexEscape (empty_at (p.offset + 3))) a (one_hex_read p.rest c rest h one none) refl refl refl
  cause _ (no_four_digits {p} {rest} a h brace none) =
      caused p (read.invalid_unicode 2) (template_fault.InvalidUnicodeEscape (from_to p.offset (p.offset + 2))) a (no_digits_read p.rest rest h brace none) refl refl refl
  cause _ (no_code_point {p} {digits} a n) =
      caused p (read.invalid_unicode (length digits + 3)) (template_fault.InvalidUnicodeEscape (from_to p.offset (p.offset + 3 + length digits))) a (no_code_point_read p.rest digits n) refl refl
      (ap (λ (end : ℕ). template_fault.InvalidUnicodeEscape (from_to p.offset end)) (let e : p.offset + 3 + length digits ≡ p.offset + (length digits + 3) = omega arith in e))
  cause _ (too_large {p} {w} {count} a e l) =
      caused p (read.too_large (count + 3)) (template_fault.TooLargeUnicodeEscapeSequence (from_to p.offset (p.offset + 3 + count))) a (passes_front literals.Template p.rest w count e l) refl refl
      (ap (λ (end : ℕ). template_fault.TooLargeUnicodeEscapeSequence (from_to p.offset end)) (let e : p.offset + 3 + count ≡ p.offset + (count + 3) = omega arith in e))

  -- At most one fault stands in a template.
  pub one_fault : (f g : TemplateFault) → IsTemplateFault o text f → IsTemplateFault o text g → f ≡ g
  one_fault f g a b = one_cause is_grave_accent (template_fault.InvalidInput (empty_at o.span_offset)) fault_at o text f g (cause f a) (cause g b)

  -- No template that is decoded has a fault.
  pub no_fault_decoded : (us : List CodePoint) (f : TemplateFault) → IsDecoded literals.Template o text us → IsTemplateFault o text f → ⊥
  no_fault_decoded us f d x = no_cause is_grave_accent (template_fault.InvalidInput (empty_at o.span_offset)) fault_at o text literals.Template us f refl d (cause f x)

  -- What a reader of templates answers, where it answers a decoded template or a fault that stands.
  module _ (result : Result TemplateLiteral TemplateFault) (ok : IfOk result (IsTemplateOf (record { text = text; options = o })))
      (err : IfErr result (λ fault. (fault ≡ template_fault.OutOfMemory) ⊎ IsTemplateFault o text fault)) where
    pub decodes : (us : List CodePoint) → IsDecoded literals.Template o text us → IfErr result (λ fault. fault ≡ template_fault.OutOfMemory)
    decodes us d = answers_right template_fault.OutOfMemory (IsTemplateOf (record { text = text; options = o })) (IsTemplateFault o text) result err (λ f x. no_fault_decoded us f d x)

    pub refuses : (f : TemplateFault) → IsTemplateFault o text f → MatchResult result (λ it. ⊥) (λ fault. (fault ≡ template_fault.OutOfMemory) ⊎ (fault ≡ f))
    refuses f x =
        answers_fault template_fault.OutOfMemory (IsTemplateOf (record { text = text; options = o })) (IsTemplateFault o text) result f ok err
        (λ it a. no_fault_decoded it.body f a.decoded x) (λ g y. one_fault g f y x)
