-- What is found after a backslash is what the reader of property escapes answers.
use Rattle.std.proofs.Common.{◌≡◌, ℕ, ◌-◌, ◌∷◌, true, Some, Ok, Err, length, sym, ap, ◌∙◌, subst, arith}
use Rattle.rx_class.proofs.Common.{length-map, Diagnostic, UnicodePropertyEscape, CodePoint, Cursor, move_on, rest, values, Environment, is_unicode, IsPropertyCause, escape_is_first}
use Rattle.rx_class.proofs.Common.{IsAfterBackslash, from_backslash, span_to, KeepsUnits, IsPropertyAfter, IsPropertyHalt, split_values}
use Rattle.rx_base.specs.declared.fault.Fault.TheVariants as fault
use Rattle.rx_model.specs.Refusals.Firsts.{of_property}
use Rattle.rx_class.specs.PropertyReading.Answers.{GivesProperty, some, refused}
use Rattle.rx_class.specs.PropertyReading.Found.{property_refusal}
use Rattle.rx_class.specs.declared.properties.found.PropertyHalt.{PropertyHalt}
use Rattle.rx_class.proofs.EscapeReading.Gives.{from_backslash_values, stands}
use Rattle.rx_model.proofs.Properties.PropertyRefusals.{cause_begins_no_property}

module _ (e : Environment) (added start : ℕ) (old : Cursor) (is : IsAfterBackslash old start) where
  pub property_gives : is_unicode e.mode ≡ true → (it : UnicodePropertyEscape) (new : Cursor) (count : ℕ) → IsPropertyAfter e.mode (values (rest old)) it.negative it.strings it.name it.value count
      → it.span ≡ span_to added start new → new ≡ move_on count old → GivesProperty e added start old new (Ok (Some it))
  property_gives unicode it new count found span moves =
      let b = stands old start is in
      let split = split_values (rest old) found.front found.rest found.whole in
      let counted : count ≡ length split.front = omega (arith, found.count_is, ap length split.front_is, length-map split.front (λ (u : CodePoint). u.value)) in
      some b.backslash split.front split.back (b.whole ∙ ap (λ us. b.backslash ∷ us) split.whole)
      record {
        unicode = unicode;
        text = found.text;
        spelled = found.spelled;
        whole = ap (λ c. c ∷ values split.front) b.value_is ∙ ap (λ w. 92 ∷ w) split.front_is ∙ found.front_is;
      }
      found.obeys span (moves ∙ ap (λ n. move_on n old) counted)

  pub halt_gives : (h : PropertyHalt) (new : Cursor) (diagnostic : Diagnostic) → IsPropertyHalt e.mode (values (rest old)) h
      → diagnostic ≡ property_refusal old.units old.first added (old.place - 1) h → KeepsUnits old new → GivesProperty e added start old new (Err (fault.Diagnostic diagnostic))
  halt_gives h new diagnostic halts is_refusal keeps =
      let here = subst (IsPropertyCause e.mode old.units old.first added (old.place - 1) (from_backslash old)) (sym is_refusal)
      (halts old.units (from_backslash old) old.first added (old.place - 1) (from_backslash_values old start is)) in
      refused here
      (escape_is_first e.mode old.units old.first added (old.place - 1) (from_backslash old) (old.place - 1) diagnostic (of_property here))
      (cause_begins_no_property e old.units old.first added (old.place - 1) (from_backslash old) diagnostic here) keeps
