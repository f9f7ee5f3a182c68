-- What a reader of a text holds, in either form.
use Rattle.std.proofs.Common.{◌≡◌, sym, ap, ap₂, ◌∙◌, subst, ◌⊎◌, inl, inr, ℕ, ◌+◌, zero-add, Bool, List, length, Result, Ok, Err, MatchResult}
use Rattle.std.specs.Str.{chars, IsUtf8}
use Rattle.rx_parser.proofs.Common.{encodes-chars, Span, Cursor, literal_units, Form, AreUnits, HasNoUnits, of_literal, of_quoted, whole_span, Decodes, IsQuotedFault, no_units_faulty, Literal, Constructor, GivesUnits}
use Rattle.rx_units.specs.declared.reader_fault.ReaderFault.{ReaderFault}
use Rattle.rx_units.specs.declared.reader_fault.ReaderFault.TheVariants.{OutOfMemory}

module _ (standard joined : Bool) (text bytes : List ℕ) where
  -- a text with a fault has no units
  faulty_has_none : (fault : ReaderFault) → IsQuotedFault standard joined text fault → HasNoUnits standard joined text Constructor
  faulty_has_none fault faulty us (of_quoted d) = no_units_faulty faulty d

  -- what is read of a literal
  pub literal_read : (form : Form) (answer : Result Cursor ReaderFault) → form ≡ Literal
      → MatchResult answer (λ r. r ≡ record { units = literal_units joined 0 text; place = 0; first = 0; text = bytes }) (λ fault. fault ≡ OutOfMemory) → GivesUnits standard joined text form answer
  literal_read form (Ok r) is read =
      subst (λ f. AreUnits standard joined text f r.units) (sym is) (subst (AreUnits standard joined text Literal) (sym (ap (λ (r : Cursor). r.units) read)) of_literal)
  literal_read form (Err fault) is read = inl read

  -- what is read of a text in quotes, or why it has no units
  abbrev IsQuotedRead : Result Cursor ReaderFault → Type 0
  IsQuotedRead answer = MatchResult answer (λ r. Decodes standard joined text r.units × (r.place ≡ 0) × (r.first ≡ 1) × (r.text ≡ bytes))
      (λ fault. (fault ≡ OutOfMemory) ⊎ IsQuotedFault standard joined text fault)

  pub quoted_read : (form : Form) (answer : Result Cursor ReaderFault) → form ≡ Constructor → IsQuotedRead answer → GivesUnits standard joined text form answer
  quoted_read form (Ok r) is read = subst (λ f. AreUnits standard joined text f r.units) (sym is) (of_quoted read.0)
  quoted_read form (Err fault) is read =
      elim read [ inl e ↦ inl e | inr faulty ↦ inr (subst (HasNoUnits standard joined text) (sym is) (faulty_has_none fault faulty)) ]

-- the span of the whole text, in bytes
pub whole_text : (bytes : List ℕ) (added : ℕ) (span : Span) → IsUtf8 bytes → span ≡ record { start = 0 + added; end = length bytes + added } → span ≡ whole_span (chars bytes) added
whole_text bytes added span utf8 e = e ∙ ap₂ (λ m n. record { start = m; end = n + added }) (zero-add added) (sym (ap length (encodes-chars bytes utf8)))
