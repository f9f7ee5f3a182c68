-- At most one refusal of a property escape holds at a place.
use Rattle.std.proofs.Common.{◌≡◌, ◌≢◌, ◌⊎◌, refl, ap, sym, ◌∙◌, subst, ℕ, ◌+◌, false, List, [], ◌∷◌, length, Contains, inl, inr}
use Rattle.std.proofs.lemmas.Bool.{true≢false}
use Rattle.rx_base.specs.declared.diagnostic.Diagnostic.{Diagnostic}
use Rattle.rx_base.specs.declared.diagnostic.Diagnostic.TheVariants.{UnterminatedPattern, InvalidUnicodeProperty, InvalidUnicodePropertyOfStrings, InvalidUnicodePropertyNameNegativeStrings}
use Rattle.rx_base.specs.declared.diagnostic.kinds.PropertyPart.TheVariants as part
use Rattle.rx_base.specs.declared.diagnostic.kinds.Unterminated.TheVariants as what
use Rattle.rx_tables.specs.Properties.{IsValidUnicodeProperty, properties_of_strings}
use Rattle.rx_units.specs.declared.code_point.CodePoint.{CodePoint}
use Rattle.rx_units.specs.Units.{values}
use Rattle.rx_model.specs.declared.mode.Mode.{Mode}
use Rattle.rx_model.specs.declared.mode.Mode.TheVariants.{Sets}
use Rattle.rx_model.specs.Refusals.EscapeCauses as escape
use Rattle.rx_model.specs.Refusals.EscapeCauses.{BeginsProperty, IsPropertyCause}
use Rattle.rx_model.specs.FirstPass.Marks.{starts}
use Rattle.rx_model.specs.Properties.PropertyForms.{HasPair, HasRun, IsKnownRun}
use Rattle.rx_model.specs.Refusals.Reached.{span_between}
use Rattle.rx_model.proofs.Properties.PropertyRuns.{one_pair, one_run}
use Rattle.rx_model.proofs.Properties.PropertyTables.{binary_word, category_word, strings_word}

module _ (mode : Mode) (us : List CodePoint) (start added f : ℕ) where
  data PairFault (name value following : List ℕ) : Diagnostic → Type 0 where
    unclosed : IsValidUnicodeProperty name value → PairFault name value following (UnterminatedPattern (span_between us start added f (f + 4 + length name + length value)) what.PropertyEscape)
    unknown : (IsValidUnicodeProperty name value → ⊥) →
        PairFault name value following (InvalidUnicodeProperty (span_between us start added (f + 4 + length name) (f + 4 + length name + length value)) part.Name)

  data RunFault (run following : List ℕ) : Diagnostic → Type 0 where
    short : (run ≡ []) ⊎ (following ≡ []) → RunFault run following (UnterminatedPattern (span_between us start added f (f + 3 + length run)) what.PropertyEscape)
    open_run : IsKnownRun mode run → following ≢ [] → starts 125 following ≡ false → RunFault run following (UnterminatedPattern (span_between us start added f (f + 3 + length run)) what.PropertyEscape)
    no_run : run ≢ [] → following ≢ [] → (IsKnownRun mode run → ⊥) → (Contains properties_of_strings run → ⊥) →
        RunFault run following (InvalidUnicodeProperty (span_between us start added (f + 3) (f + 3 + length run)) part.NameOrValue)
    negative_run : (back : List ℕ) → mode ≡ Sets → following ≡ 125 ∷ back → Contains properties_of_strings run →
        RunFault run following (InvalidUnicodePropertyNameNegativeStrings (span_between us start added f (f + 4 + length run)) run)
    run_of_strings : following ≢ [] → (IsKnownRun mode run → ⊥) → Contains properties_of_strings run → RunFault run following (InvalidUnicodePropertyOfStrings (span_between us start added (f + 3) (f + 3 + length run)) run)

  -- what stands after the backslash and its letter
  data View (following : List ℕ) : Diagnostic → Type 0 where
    none : starts 123 following ≡ false → View following (UnterminatedPattern (span_between us start added f (f + 2)) what.PropertyEscape)
    pair : {d : Diagnostic} (w name value rest : List ℕ) → following ≡ 123 ∷ w → HasPair w name value rest → PairFault name value rest d → View following d
    run : {d : Diagnostic} (w word rest : List ℕ) → following ≡ 123 ∷ w → HasRun w word rest → RunFault word rest d → View following d

  record Viewed (rest : List CodePoint) (d : Diagnostic) : Type 0 where
    letter : ℕ
    following : List ℕ
    whole : values rest ≡ 92 ∷ letter ∷ following
    view : View following d

  begun : {rest : List CodePoint} {d : Diagnostic} {w : List ℕ} → (b : BeginsProperty mode (values rest) w) → View (123 ∷ w) d → Viewed rest d
  begun {rest} {d} {w} b v = record { letter = b.letter; following = 123 ∷ w; whole = b.whole; view = v }

  viewed : (rest : List CodePoint) (d : Diagnostic) → IsPropertyCause mode us start added f rest d → Viewed rest d
  viewed rest _ (escape.no_property letter following m h is other) = record { letter = letter; following = following; whole = h; view = none other }
  viewed rest _ (escape.unterminated_run w word following b has s) = begun b (run w word following refl has (short s))
  viewed rest _ (escape.unclosed_run w word following b has known goes other) = begun b (run w word following refl has (open_run known goes other))
  viewed rest _ (escape.unclosed_pair w name value following b has valid other) = begun b (pair w name value following refl has (unclosed valid))
  viewed rest _ (escape.unknown_pair w name value following b has no_pair) = begun b (pair w name value following refl has (unknown no_pair))
  viewed rest _ (escape.unknown_run w word following b has some goes no_word no_strings) = begun b (run w word following refl has (no_run some goes no_word no_strings))
  viewed rest _ (escape.of_strings w word following m b has goes no_word strings) = begun b (run w word following refl has (run_of_strings goes no_word strings))
  viewed rest _ (escape.negative_of_strings w word following sets h has no_category no_binary strings) =
      record { letter = 80; following = 123 ∷ w; whole = h; view = run w word (125 ∷ following) refl has (negative_run following sets refl strings) }

  one_pair_fault : (name value following : List ℕ) (d e : Diagnostic) → PairFault name value following d → PairFault name value following e → d ≡ e
  one_pair_fault name value following _ _ (unclosed valid) (unclosed also) = refl
  one_pair_fault name value following _ _ (unclosed valid) (unknown no_pair) = absurd (no_pair valid)
  one_pair_fault name value following _ _ (unknown no_pair) (unclosed valid) = absurd (no_pair valid)
  one_pair_fault name value following _ _ (unknown no_pair) (unknown also) = refl

  known_some : (word : List ℕ) → IsKnownRun mode word → word ≢ []
  known_some word (inl known) = (category_word word known).some
  known_some word (inr (inl known)) = (binary_word word known).some
  known_some word (inr (inr known)) = (strings_word word known.1).some

  not_short : (word following : List ℕ) → word ≢ [] → following ≢ [] → (word ≡ []) ⊎ (following ≡ []) → ⊥
  not_short word following some goes (inl e) = some e
  not_short word following some goes (inr e) = goes e

  -- A known property of strings and a `}` after it have no other fault.
  negative_alone : (word following back : List ℕ) (d : Diagnostic) → mode ≡ Sets → following ≡ 125 ∷ back → Contains properties_of_strings word → RunFault word following d →
      d ≡ InvalidUnicodePropertyNameNegativeStrings (span_between us start added f (f + 4 + length word)) word
  negative_alone word following back _ sets h strings (short s) = absurd (not_short word following (strings_word word strings).some (λ none. let no : [] ≡ 125 ∷ back = sym none ∙ h in let f : ⊥ = cc no in f) s)
  negative_alone word following back _ sets h strings (open_run known goes no_close) = absurd (true≢false (ap (starts 125) (sym h) ∙ no_close))
  negative_alone word following back _ sets h strings (no_run some goes no_word no_strings) = absurd (no_strings strings)
  negative_alone word following back _ sets h strings (run_of_strings goes no_word also) = absurd (no_word (inr (inr (sets, strings))))
  negative_alone word following back _ sets h strings (negative_run back' sets' h' also) = refl

  one_run_fault : (word following : List ℕ) (d e : Diagnostic) → RunFault word following d → RunFault word following e → d ≡ e
  one_run_fault word following _ _ (short s) (short t) = refl
  one_run_fault word following _ _ (short s) (open_run known goes no_close) = refl
  one_run_fault word following _ _ (short s) (no_run some goes no_word no_strings) = absurd (not_short word following some goes s)
  one_run_fault word following _ _ (short s) (run_of_strings goes no_word strings) = absurd (not_short word following (strings_word word strings).some goes s)
  one_run_fault word following _ _ (open_run known goes no_close) (short s) = refl
  one_run_fault word following _ _ (open_run known goes no_close) (open_run also goes' no_close') = refl
  one_run_fault word following _ _ (open_run known goes no_close) (no_run some goes' no_word no_strings) = absurd (no_word known)
  one_run_fault word following _ _ (open_run known goes no_close) (run_of_strings goes' no_word strings) = absurd (no_word known)
  one_run_fault word following _ _ (no_run some goes no_word no_strings) (short s) = absurd (not_short word following some goes s)
  one_run_fault word following _ _ (no_run some goes no_word no_strings) (open_run known goes' no_close) = absurd (no_word known)
  one_run_fault word following _ _ (no_run some goes no_word no_strings) (no_run some' goes' no_word' no_strings') = refl
  one_run_fault word following _ _ (no_run some goes no_word no_strings) (run_of_strings goes' no_word' strings) = absurd (no_strings strings)
  one_run_fault word following _ _ (run_of_strings goes no_word strings) (short s) = absurd (not_short word following (strings_word word strings).some goes s)
  one_run_fault word following _ _ (run_of_strings goes no_word strings) (open_run known goes' no_close) = absurd (no_word known)
  one_run_fault word following _ _ (run_of_strings goes no_word strings) (no_run some goes' no_word' no_strings) = absurd (no_strings strings)
  one_run_fault word following _ _ (run_of_strings goes no_word strings) (run_of_strings goes' no_word' strings') = refl
  one_run_fault word following d _ fault (negative_run back sets h strings) = negative_alone word following back d sets h strings fault
  one_run_fault word following _ e (negative_run back sets h strings) fault = sym (negative_alone word following back e sets h strings fault)

  no_brace : (following w : List ℕ) → starts 123 following ≡ false → following ≡ 123 ∷ w → ⊥
  no_brace following w h e = true≢false (ap (starts 123) (sym e) ∙ h)

  one_view : (following : List ℕ) (d e : Diagnostic) → View following d → View following e → d ≡ e
  one_view following _ _ (none h) (none k) = refl
  one_view following _ _ (none h) (pair w name value rest e has fault) = absurd (no_brace following w h e)
  one_view following _ _ (none h) (run w word rest e has fault) = absurd (no_brace following w h e)
  one_view following _ _ (pair w name value rest e has fault) (none h) = absurd (no_brace following w h e)
  one_view following d e' (pair w name value rest e has fault) (pair v name' value' rest' k has' fault') =
      let here : w ≡ v = cc (e, k) in
      let s = one_pair has (subst (λ w. HasPair w name' value' rest') (sym here) has') in
      one_pair_fault name' value' rest' d e'
      (subst (λ rest. PairFault name' value' rest d) s.rest (subst (λ value. PairFault name' value rest d) s.values_too (subst (λ name. PairFault name value rest d) s.names fault))) fault'
  one_view following _ _ (pair w name value rest e has fault) (run v word rest' k has' fault') =
      let here : w ≡ v = cc (e, k) in absurd (has'.no_pair name value rest (subst (λ w. HasPair w name value rest) here has))
  one_view following _ _ (run w word rest e has fault) (none h) = absurd (no_brace following w h e)
  one_view following _ _ (run w word rest e has fault) (pair v name value rest' k has' fault') =
      let here : w ≡ v = cc (e, k) in absurd (has.no_pair name value rest' (subst (λ w. HasPair w name value rest') (sym here) has'))
  one_view following d e' (run w word rest e has fault) (run v word' rest' k has' fault') =
      let here : w ≡ v = cc (e, k) in
      let s = one_run has.is_run (subst (λ w. HasRun w word' rest') (sym here) has').is_run in
      one_run_fault word' rest' d e' (subst (λ rest. RunFault word' rest d) s.1 (subst (λ word. RunFault word rest d) s.0 fault)) fault'

  pub one_property : (rest : List CodePoint) (d e : Diagnostic) → IsPropertyCause mode us start added f rest d → IsPropertyCause mode us start added f rest e → d ≡ e
  one_property rest d e c k =
      let v = viewed rest d c in
      let w = viewed rest e k in
      let whole : 92 ∷ v.letter ∷ v.following ≡ 92 ∷ w.letter ∷ w.following = sym v.whole ∙ w.whole in
      let same : v.following ≡ w.following = cc whole in
      one_view w.following d e (subst (λ following. View following d) same v.view) w.view
