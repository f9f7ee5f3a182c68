use Rattle.std.proofs.Common.{◌≡◌, ℕ, Bool, true, false, List, sym, ◌∙◌, subst, ◌⊎◌}
use Rattle.std.proofs.lemmas.Result.{err_from_is_err_and}
use Rattle.std.specs.Str.{chars}
use Rattle.rx_units.specs.declared.quoted_text.literal.Literal.TheVariants as literals
use Rattle.rx_units.specs.declared.reader_fault.ReaderFault.TheVariants as fault
use Rattle.rx_units.specs.declared.string_literal_parser.StringFault.{StringFault}
use Rattle.rx_units.specs.declared.string_literal_parser.StringFault.TheVariants as string_fault
use Rattle.rx_units.specs.declared.string_literal_parser.StringLiteral.{StringLiteral}
use Rattle.rx_units.specs.declared.template_literal_parser.TemplateFault.{TemplateFault}
use Rattle.rx_units.specs.declared.template_literal_parser.TemplateFault.TheVariants as template_fault
use Rattle.rx_units.specs.declared.template_literal_parser.TemplateLiteral.{TemplateLiteral}
use Rattle.rx_units.specs.Quoted.Answers.{IsStringOf, IsTemplateOf}
use Rattle.rx_units.specs.Quoted.Faults.{IsStringFault, IsTemplateFault, is_grave_accent}
use Rattle.rx_units.specs.Quoted.Texts.{Given}
use Rattle.rx_units.specs.Sources.{Decodes, IsQuotedFault, plain_options, string_refusal, template_refusal}
use Rattle.rx_units.proofs.Sources.{fault_alone, memory_alone, no_units_faulty, string_stands, template_stands}
use Rattle.rx_units.specs.Digits.{front_is}
use Rattle.rx_units.proofs.reader.quoted_units.Goals as goal

-- what the decoder of a text is given
abbrev given : Bool → Bool → List ℕ → Given
given standard joined text = record { text = text; options = plain_options standard joined }

module _ (standard joined : Bool) (text : List ℕ) (g : Given) (same : g ≡ given standard joined text) where
  string_units : (it : StringLiteral) → IsStringOf g it → Decodes standard joined text it.body
  string_units it s = record { literal = literals.String it.kind; decoded = (subst (λ g. IsStringOf g it) same s).decoded }

  template_units : (it : TemplateLiteral) → IsTemplateOf g it → Decodes standard joined text it.body
  template_units it s = record { literal = literals.Template; decoded = (subst (λ g. IsTemplateOf g it) same s).decoded }

  string_refused : (f : StringFault) (b : Bool) → b ≡ front_is is_grave_accent text → b ≡ false → (f ≡ string_fault.OutOfMemory) ⊎ IsStringFault g.options g.text f → (string_refusal f ≡ fault.OutOfMemory) ⊎ IsQuotedFault standard joined text (string_refusal f)
  string_refused f b test is s = string_stands standard joined text f (sym test ∙ is) (subst (λ (g : Given). (f ≡ string_fault.OutOfMemory) ⊎ IsStringFault g.options g.text f) same s)

  template_refused : (f : TemplateFault) (b : Bool) → b ≡ front_is is_grave_accent text → b ≡ true → (f ≡ template_fault.OutOfMemory) ⊎ IsTemplateFault g.options g.text f → (template_refusal f ≡ fault.OutOfMemory) ⊎ IsQuotedFault standard joined text (template_refusal f)
  template_refused f b test is s = template_stands standard joined text f (sym test ∙ is) (subst (λ (g : Given). (f ≡ template_fault.OutOfMemory) ⊎ IsTemplateFault g.options g.text f) same s)

pub returns-in_err-parse-clause-err : goal.returns-in_err-parse-clause-err
returns-in_err-parse-clause-err c =
    let p = err_from_is_err_and c.from_residual-in_err-parse.result c.from_residual-in_err-parse.ensures.1 in
    rw (p.1, p.2) (template_refused c.args.standard c.args.joined (chars c.args.source_text.now) c.in_ok-template.template c.in_ok-template.ensures.ok _ c.is_template.result c.is_template.ensures c.if-is_template.true c.in_err-parse.ensures.err)

pub returns-in_err-parse-clause-decodes : goal.returns-in_err-parse-clause-decodes
returns-in_err-parse-clause-decodes c = λ units d.
    let p = err_from_is_err_and c.from_residual-in_err-parse.result c.from_residual-in_err-parse.ensures.1 in
    let s = template_refused c.args.standard c.args.joined (chars c.args.source_text.now) c.in_ok-template.template c.in_ok-template.ensures.ok _ c.is_template.result c.is_template.ensures c.if-is_template.true c.in_err-parse.ensures.err in
    rw (p.1, p.2) (memory_alone s d)

pub returns-in_err-parse-clause-refuses : goal.returns-in_err-parse-clause-refuses
returns-in_err-parse-clause-refuses c = λ f x.
    let p = err_from_is_err_and c.from_residual-in_err-parse.result c.from_residual-in_err-parse.ensures.1 in
    let s = template_refused c.args.standard c.args.joined (chars c.args.source_text.now) c.in_ok-template.template c.in_ok-template.ensures.ok _ c.is_template.result c.is_template.ensures c.if-is_template.true c.in_err-parse.ensures.err in
    rw (p.1, p.2) (fault_alone s x)

pub returns-in_ok-parse-clause-refuses : goal.returns-in_ok-parse-clause-refuses
returns-in_ok-parse-clause-refuses c = λ f x. no_units_faulty x (template_units c.args.standard c.args.joined (chars c.args.source_text.now) c.in_ok-template.template c.in_ok-template.ensures.ok c.in_ok-parse.field-0 c.in_ok-parse.ensures.ok)

pub returns-in_err-parse-2-clause-err : goal.returns-in_err-parse-2-clause-err
returns-in_err-parse-2-clause-err c =
    let p = err_from_is_err_and c.from_residual-in_err-parse-2.result c.from_residual-in_err-parse-2.ensures.1 in
    rw (p.1, p.2) (string_refused c.args.standard c.args.joined (chars c.args.source_text.now) c.in_ok-string.string c.in_ok-string.ensures.ok _ c.is_template.result c.is_template.ensures c.if-is_template.false c.in_err-parse-2.ensures.err)

pub returns-in_err-parse-2-clause-decodes : goal.returns-in_err-parse-2-clause-decodes
returns-in_err-parse-2-clause-decodes c = λ units d.
    let p = err_from_is_err_and c.from_residual-in_err-parse-2.result c.from_residual-in_err-parse-2.ensures.1 in
    let s = string_refused c.args.standard c.args.joined (chars c.args.source_text.now) c.in_ok-string.string c.in_ok-string.ensures.ok _ c.is_template.result c.is_template.ensures c.if-is_template.false c.in_err-parse-2.ensures.err in
    rw (p.1, p.2) (memory_alone s d)

pub returns-in_err-parse-2-clause-refuses : goal.returns-in_err-parse-2-clause-refuses
returns-in_err-parse-2-clause-refuses c = λ f x.
    let p = err_from_is_err_and c.from_residual-in_err-parse-2.result c.from_residual-in_err-parse-2.ensures.1 in
    let s = string_refused c.args.standard c.args.joined (chars c.args.source_text.now) c.in_ok-string.string c.in_ok-string.ensures.ok _ c.is_template.result c.is_template.ensures c.if-is_template.false c.in_err-parse-2.ensures.err in
    rw (p.1, p.2) (fault_alone s x)

pub returns-in_ok-parse-2-clause-refuses : goal.returns-in_ok-parse-2-clause-refuses
returns-in_ok-parse-2-clause-refuses c = λ f x. no_units_faulty x (string_units c.args.standard c.args.joined (chars c.args.source_text.now) c.in_ok-string.string c.in_ok-string.ensures.ok c.in_ok-parse-2.field-0 c.in_ok-parse-2.ensures.ok)
