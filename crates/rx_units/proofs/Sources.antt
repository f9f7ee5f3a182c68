-- A quoted text is decoded in one way, or it has one fault.
use Rattle.std.proofs.Common.{◌≡◌, ℕ, Bool, true, false, List, refl, sym, ap, ◌∙◌, subst, ◌⊎◌, inl, inr}
use Rattle.rx_units.proofs.Common.{CodePoint, Options, Literal, StringFault, TemplateFault, IsStringFault, IsTemplateFault, is_grave_accent, IsDecoded, Decodes, IsQuotedFault, of_string, of_template, plain_options, string_refusal, template_refusal, front_is}
use Rattle.rx_units.specs.declared.quoted_text.literal.Literal.TheVariants as literals
use Rattle.rx_units.specs.declared.reader_fault.ReaderFault.{ReaderFault}
use Rattle.rx_units.specs.declared.reader_fault.ReaderFault.TheVariants as fault
use Rattle.rx_units.specs.declared.string_literal_parser.StringFault.TheVariants as string_fault
use Rattle.rx_units.specs.declared.string_literal_parser.StringLiteralKind.TheVariants as quotes
use Rattle.rx_units.specs.declared.template_literal_parser.TemplateFault.TheVariants as template_fault
use Rattle.rx_units.proofs.Quoted.Exactness as strings
use Rattle.rx_units.proofs.Quoted.Rows.{one_decoding}
use Rattle.rx_units.proofs.Quoted.Stops.{one_literal}
use Rattle.rx_units.proofs.Quoted.TemplateExactness as templates

-- A text is decoded in one way, in whatever quotes it stands.
pub one_decodes : {standard joined : Bool} {text : List ℕ} {us vs : List CodePoint} → Decodes standard joined text us → Decodes standard joined text vs → us ≡ vs
one_decodes {standard} {joined} {text} {us} {vs} a b =
    let o = plain_options standard joined in
    let same = one_literal a.literal b.literal o text a.decoded.last b.decoded.last a.decoded.reached b.decoded.reached in
    one_decoding a.literal o text us vs a.decoded (subst (λ l. IsDecoded l o text vs) (sym same) b.decoded)

clash : {b : Bool} {A : Type 0} → b ≡ true → b ≡ false → A
clash h k = let e : true ≡ false = sym h ∙ k in absurd (let no : ⊥ = cc e in no)

module _ (o : Options) (text : List ℕ) (us : List CodePoint) where
  no_string_fault : (l : Literal) (f : StringFault) → IsDecoded l o text us → front_is is_grave_accent text ≡ false → IsStringFault o text f → ⊥
  no_string_fault (literals.String k) f d h x = strings.no_fault_decoded k o text us f d x
  no_string_fault literals.Template f d h x = clash (ap (front_is is_grave_accent) d.reached.opens) h

  no_template_fault : (l : Literal) (f : TemplateFault) → IsDecoded l o text us → front_is is_grave_accent text ≡ true → IsTemplateFault o text f → ⊥
  no_template_fault (literals.String quotes.Double) f d h x = clash h (ap (front_is is_grave_accent) d.reached.opens)
  no_template_fault (literals.String quotes.Single) f d h x = clash h (ap (front_is is_grave_accent) d.reached.opens)
  no_template_fault literals.Template f d h x = templates.no_fault_decoded o text us f d x

-- No text that is decoded has a fault.
pub no_units_faulty : {standard joined : Bool} {text : List ℕ} {f : ReaderFault} {us : List CodePoint} → IsQuotedFault standard joined text f → Decodes standard joined text us → ⊥
no_units_faulty {standard} {joined} {text} {us = us} (of_string {what} h x) d = no_string_fault (plain_options standard joined) text us d.literal what d.decoded h x
no_units_faulty {standard} {joined} {text} {us = us} (of_template {what} h x) d = no_template_fault (plain_options standard joined) text us d.literal what d.decoded h x

-- At most one fault stands in a text.
pub one_quoted_fault : {standard joined : Bool} {text : List ℕ} {f g : ReaderFault} → IsQuotedFault standard joined text f → IsQuotedFault standard joined text g → f ≡ g
one_quoted_fault {standard} {joined} {text} (of_string {what} h x) (of_string {what = other} k y) = ap fault.String (strings.one_fault (plain_options standard joined) text what other x y)
one_quoted_fault (of_string h x) (of_template k y) = clash k h
one_quoted_fault (of_template h x) (of_string k y) = clash h k
one_quoted_fault {standard} {joined} {text} (of_template {what} h x) (of_template {what = other} k y) = ap fault.Template (templates.one_fault (plain_options standard joined) text what other x y)

-- What is said for the fault of a decoder is the fault of the text, or that memory ran out.
module _ (standard joined : Bool) (text : List ℕ) where
  pub string_stands : (f : StringFault) → front_is is_grave_accent text ≡ false → (f ≡ string_fault.OutOfMemory) ⊎ IsStringFault (plain_options standard joined) text f → (string_refusal f ≡ fault.OutOfMemory) ⊎ IsQuotedFault standard joined text (string_refusal f)
  string_stands string_fault.OutOfMemory h s = inl refl
  string_stands f h s = elim s [ inl m ↦ absurd (let no : ⊥ = cc m in no) | inr x ↦ inr (of_string h x) ]

  pub template_stands : (f : TemplateFault) → front_is is_grave_accent text ≡ true → (f ≡ template_fault.OutOfMemory) ⊎ IsTemplateFault (plain_options standard joined) text f → (template_refusal f ≡ fault.OutOfMemory) ⊎ IsQuotedFault standard joined text (template_refusal f)
  template_stands template_fault.OutOfMemory h s = inl refl
  template_stands f h s = elim s [ inl m ↦ absurd (let no : ⊥ = cc m in no) | inr x ↦ inr (of_template h x) ]

-- Where a fault stands or memory ran out: for a text that is decoded it ran out, and for one with a fault that is the fault.
pub memory_alone : {standard joined : Bool} {text : List ℕ} {f : ReaderFault} {us : List CodePoint} → (f ≡ fault.OutOfMemory) ⊎ IsQuotedFault standard joined text f → Decodes standard joined text us → f ≡ fault.OutOfMemory
memory_alone s d = elim s [ inl m ↦ m | inr x ↦ absurd (no_units_faulty x d) ]

pub fault_alone : {standard joined : Bool} {text : List ℕ} {f g : ReaderFault} → (f ≡ fault.OutOfMemory) ⊎ IsQuotedFault standard joined text f → IsQuotedFault standard joined text g → (f ≡ fault.OutOfMemory) ⊎ (f ≡ g)
fault_alone s x = elim s [ inl m ↦ inl m | inr y ↦ inr (one_quoted_fault y x) ]
