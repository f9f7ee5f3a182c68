-- Which texts have no units.
use Rattle.std.proofs.Common.{◌≡◌, ◌≢◌, ◌∙◌, refl, ap, sym, subst, ℕ, ◌+◌, Bool, true, false, ◌&&◌, ◌||◌, cond, nat_lt, Option, Some, None, List, [], ◌∷◌, ◌++◌, append-nil, inl, inr, ◌<◌, ◌==◌, arith}
use Rattle.std.proofs.lemmas.Bool.{eqb-true, or_cases}
use Rattle.std.proofs.lemmas.List.Elements.{All-append, All-cons, All-head, All-nil, All-tail}
use Rattle.std.specs.Prelude.{All}
use Rattle.rx_base.specs.Characters.{is_lead, is_trail}
use Rattle.rx_units.specs.declared.code_point.CodePoint.{CodePoint}
use Rattle.rx_units.specs.declared.code_point.EscapeKind.{EscapeKind}
use Rattle.rx_units.specs.declared.options.Options.{Options}
use Rattle.rx_units.specs.declared.quoted_text.element.Element.{Element}
use Rattle.rx_units.specs.declared.quoted_text.element.Writing.{Writing}
use Rattle.rx_units.specs.declared.quoted_text.element.Writing.TheVariants.{LineContinuation}
use Rattle.rx_units.specs.declared.quoted_text.literal.Literal.{Literal as QuotedLiteral}
use Rattle.rx_units.specs.declared.quoted_text.literal.Literal.TheVariants as literals
use Rattle.rx_units.specs.declared.string_literal_parser.StringLiteralKind.TheVariants as quotes
use Rattle.rx_units.specs.Quoted.Elements.{SpellsElement, SpellsInString, SpellsInTemplate, character, escape, quote_of, terminator}
use Rattle.rx_units.specs.Quoted.Elements as element
use Rattle.rx_units.specs.Quoted.Escapes.{SpellsEscape, SpellsTerminator, alone, carriage_return, carriage_return_line_feed, continuation}
use Rattle.rx_units.specs.Quoted.Texts.{IsAllowed, Place, QuotedRow, after_elements, byte_count, is_refused, next_place, place_after_opening}
use Rattle.rx_units.specs.Quoted.Values.{code_points, element_units, given_value, kind_of, pair, text_units, value_units}
use Rattle.rx_units.specs.Sources.{Decodes, plain_options}
use Rattle.rx_units.specs.Units.{lead_of, literal_units, trail_of, unit}
use Rattle.rx_units.proofs.Quoted.Rows.{elements_of, of_elements}
use Rattle.rx_model.specs.declared.form.Form.{Form}
use Rattle.rx_model.specs.declared.form.Form.TheVariants.{Literal, Constructor}
use Rattle.rx_model.specs.Inputs.Texts.{AreUnits, of_literal, of_quoted}
use Rattle.rx_model.proofs.Inputs.Asked.{one_text, some_literal}
use Rattle.rx_place_laws.specs.Texts.{IsEmptyText, IsOfContinuations, IsNarrow, empty_literal, empty_quoted}

-- what holds of no list but the empty one
some_either : (b : Bool) (u v : CodePoint) (us vs : List CodePoint) → cond b (u ∷ us) (v ∷ vs) ≢ []
some_either true u v us vs h = cc h
some_either false u v us vs h = cc h

none_in_both : (us vs : List CodePoint) → us ++ vs ≡ [] → (us ≡ []) × (vs ≡ [])
none_in_both [] vs h = (refl, h)
none_in_both (u ∷ us) vs h = absurd (let no : ⊥ = cc h in no)

-- Units that are joined are some where they were.
none_joined : (us : List CodePoint) → code_points us ≡ [] → us ≡ []
none_joined [] h = refl
none_joined (u ∷ []) h = h
none_joined (u ∷ v ∷ us) h = absurd (some_either (is_lead u.value && is_trail v.value) (pair u v) u (code_points us) (code_points (v ∷ us)) h)

none_read : (b : Bool) (us : List CodePoint) → cond b (code_points us) us ≡ [] → us ≡ []
none_read true us h = none_joined us h
none_read false us h = h

none_given : (b : Bool) → cond b (code_points []) [] ≡ []
none_given true = refl
none_given false = refl

-- An element gives no units where it gives no value, as a line continuation alone does.
no_value : (joined : Bool) (start end : ℕ) (k : EscapeKind) (value : Option ℕ) → value_units joined start end k value ≡ [] → value ≡ None
no_value joined start end k None h = refl
no_value joined start end k (Some c) h =
    absurd (some_either (joined || nat_lt c 0x10000) (unit start end c k) (unit start end (lead_of c) k) [] (unit start end (trail_of c) k ∷ []) h)

continues : (standard : Bool) (how : Writing) (value : ℕ) → given_value standard how value ≡ None → (how ≡ LineContinuation) × (standard ≡ true)
continues true LineContinuation value h = (refl, refl)
continues false LineContinuation value h = absurd (let no : ⊥ = cc h in no)
continues standard how value h = absurd (let no : ⊥ = cc h in no)

abbrev Continues : Element → Type 0
Continues e = e.writing ≡ LineContinuation

module _ (l : QuotedLiteral) (o : Options) where
  -- What some elements give is nothing only where they are line continuations.
  record Nothing (p : Place) (es : List Element) : Type 0 where
    before : p.units ≡ []
    continue : All Continues es
    standard : es ≢ [] → o.standard_strings ≡ true

  nothing_given : (p : Place) (es : List Element) (rest : List ℕ) (row : QuotedRow l es p.rest rest) → (after_elements l o p es rest row).units ≡ [] → Nothing p es
  nothing_given p [] rest row h = record { before = h; continue = All-nil Continues; standard = λ some. absurd (some refl) }
  nothing_given p (e ∷ es) rest row h =
      let more = nothing_given (next_place o p e row.0 row.1) es rest row.4 h in
      let parts = none_in_both p.units (element_units o p.offset (p.offset + byte_count row.0) e) more.before in
      let it = continues o.standard_strings e.writing e.value (no_value o.combine_surrogate_pair p.offset (p.offset + byte_count row.0) (kind_of e.writing) (given_value o.standard_strings e.writing e.value) parts.1) in
      record { before = parts.0; continue = All-cons Continues e es it.0 more.continue; standard = λ some. it.1 }

  -- And line continuations give nothing.
  gives_none : (start end : ℕ) (e : Element) → Continues e → o.standard_strings ≡ true → element_units o start end e ≡ []
  gives_none start end e continue standard =
      ap (λ b. value_units o.combine_surrogate_pair start end (kind_of e.writing) (given_value b e.writing e.value)) standard
      ∙ ap (λ how. value_units o.combine_surrogate_pair start end (kind_of e.writing) (given_value true how e.value)) continue

  give_none : (p : Place) (es : List Element) (rest : List ℕ) (row : QuotedRow l es p.rest rest) → All Continues es → o.standard_strings ≡ true → (after_elements l o p es rest row).units ≡ p.units
  give_none p [] rest row all standard = refl
  give_none p (e ∷ es) rest row all standard =
      give_none (next_place o p e row.0 row.1) es rest row.4 (All-tail Continues e es all) standard
      ∙ ap (λ us. p.units ++ us) (gives_none p.offset (p.offset + byte_count row.0) e (All-head Continues e es all) standard) ∙ append-nil p.units

  are_allowed : (es : List Element) → All Continues es → All (IsAllowed o) es
  are_allowed [] all = All-nil (IsAllowed o)
  are_allowed (e ∷ es) all = All-cons (IsAllowed o) e es (ap (is_refused o) (All-head Continues e es all)) (are_allowed es (All-tail Continues e es all))

  none_of : (inner : List ℕ) (es : List Element) (rest : List ℕ) (row : QuotedRow l es inner rest) → All Continues es → (es ≢ [] → o.standard_strings ≡ true)
      → (after_elements l o (place_after_opening o inner) es rest row).units ≡ []
  none_of inner [] rest row all standard = refl
  none_of inner (e ∷ es) rest row all standard = give_none (place_after_opening o inner) (e ∷ es) rest row all (standard (λ no. let k : ⊥ = cc no in k))

module _ (standard joined : Bool) (text : List ℕ) where
  decoded_to_none : Decodes standard joined text [] → IsOfContinuations standard text
  decoded_to_none d =
      let l = d.literal in
      let o = plain_options standard joined in
      let it = elements_of l o text [] d.decoded in
      let p = place_after_opening o it.0 in
      let rest : List ℕ = quote_of l ∷ [] in
      let found = nothing_given l o p it.1 rest it.2 (none_read (standard && joined) (after_elements l o p it.1 rest it.2).units (sym it.5)) in
      record { literal = l; elements = it.1; inner = it.0; row = it.2; whole = it.3; continue = found.continue; standard_if_some = found.standard }

  none_decoded : IsOfContinuations standard text → Decodes standard joined text []
  none_decoded it =
      let l = it.literal in
      let o = plain_options standard joined in
      let rest : List ℕ = quote_of l ∷ [] in
      let none = none_of l o it.inner it.elements rest it.row it.continue it.standard_if_some in
      record {
        literal = l;
        decoded = of_elements l o text [] (
          it.inner,
          it.elements,
          it.row,
          it.whole,
          are_allowed l o it.elements it.continue,
          sym (ap (λ us. text_units o us) none ∙ none_given (standard && joined)),
        );
      }

  -- A text has no units exactly where it is empty.
  pub empty_where_none : (form : Form) → AreUnits standard joined text form [] → IsEmptyText standard text form
  empty_where_none Literal are = empty_literal (no_characters text (one_text standard joined text Literal (literal_units joined 0 text) [] of_literal are))
    where
      no_characters : (cs : List ℕ) → literal_units joined 0 cs ≡ [] → cs ≡ []
      no_characters [] h = refl
      no_characters (c ∷ cs) h = absurd (some_literal joined (c ∷ cs) h)
  empty_where_none Constructor are = empty_quoted (decoded_to_none (decodes_of are))
    where
      decodes_of : {us : List CodePoint} → AreUnits standard joined text Constructor us → Decodes standard joined text us
      decodes_of (of_quoted d) = d

  pub none_where_empty : (form : Form) → IsEmptyText standard text form → AreUnits standard joined text form []
  none_where_empty _ (empty_literal e) = subst (λ cs. AreUnits standard joined cs Literal []) (sym e) of_literal
  none_where_empty _ (empty_quoted it) = of_quoted (none_decoded it)

-- Its characters are ASCII, <LS> and <PS>.
one_narrow : (c : ℕ) (cs : List ℕ) → IsNarrow c → All IsNarrow cs → All IsNarrow (c ∷ cs)
one_narrow c cs h k = All-cons IsNarrow c cs h k

ascii_narrow : (c : ℕ) (cs : List ℕ) → c < 0x80 → All IsNarrow cs → All IsNarrow (c ∷ cs)
ascii_narrow c cs h k = one_narrow c cs (inl h) k

narrow_by : (c : ℕ) → (c == 10 || (c == 0x2028 || c == 0x2029)) ≡ true → IsNarrow c
narrow_by c h = elim (or_cases (c == 10) (c == 0x2028 || c == 0x2029) h) [
  | inl e ↦ inl (let is : c ≡ 10 = eqb-true c 10 e in omega arith)
  | inr e ↦ elim (or_cases (c == 0x2028) (c == 0x2029) e) [ inl f ↦ inr (inl (eqb-true c 0x2028 f)) | inr f ↦ inr (inr (eqb-true c 0x2029 f)) ]
]

terminator_narrow : (c : ℕ) (w rest : List ℕ) → SpellsTerminator c w rest → All IsNarrow w
terminator_narrow _ _ rest (alone {c} h) = one_narrow c [] (narrow_by c h) (All-nil IsNarrow)
terminator_narrow _ _ rest (carriage_return h) = ascii_narrow 13 [] (omega arith) (All-nil IsNarrow)
terminator_narrow _ _ rest carriage_return_line_feed = ascii_narrow 13 (10 ∷ []) (omega arith) (ascii_narrow 10 [] (omega arith) (All-nil IsNarrow))

escape_narrow : (v : ℕ) (k : Writing) (w rest : List ℕ) → k ≡ LineContinuation → SpellsEscape v k w rest → All IsNarrow w
escape_narrow v _ w rest h (continuation {c} t) = terminator_narrow c w rest t
escape_narrow v k w rest h s = absurd (let no : ⊥ = cc h in no)

after_backslash : (v : ℕ) (k : Writing) (w rest : List ℕ) → k ≡ LineContinuation → SpellsEscape v k w rest → All IsNarrow (92 ∷ w)
after_backslash v k w rest h s = ascii_narrow 92 w (omega arith) (escape_narrow v k w rest h s)

string_narrow : (quote : ℕ) (e : Element) (w rest : List ℕ) → Continues e → SpellsInString quote e w rest → All IsNarrow w
string_narrow quote _ _ rest h (escape {v} {k} {w} s) = after_backslash v k w rest h s
string_narrow quote e w rest h s = absurd (let no : ⊥ = cc h in no)

template_narrow : (e : Element) (w rest : List ℕ) → Continues e → SpellsInTemplate e w rest → All IsNarrow w
template_narrow _ _ rest h (element.escape {v} {k} {w} s) = after_backslash v k w rest h s
template_narrow e w rest h s = absurd (let no : ⊥ = cc h in no)

element_narrow : (l : QuotedLiteral) (e : Element) (w rest : List ℕ) → Continues e → SpellsElement l e w rest → All IsNarrow w
element_narrow (literals.String quotes.Double) e w rest h s = string_narrow 34 e w rest h s
element_narrow (literals.String quotes.Single) e w rest h s = string_narrow 39 e w rest h s
element_narrow literals.Template e w rest h s = template_narrow e w rest h s

row_narrow : (l : QuotedLiteral) (es : List Element) (us rest : List ℕ) → QuotedRow l es us rest → All Continues es → All IsNarrow rest → All IsNarrow us
row_narrow l [] us rest row all more = subst (All IsNarrow) (sym row.1) more
row_narrow l (e ∷ es) us rest row all more =
    subst (All IsNarrow) (sym row.2)
    (All-append IsNarrow row.0 row.1 (element_narrow l e row.0 row.1 (All-head Continues e es all) row.3) (row_narrow l es row.1 rest row.4 (All-tail Continues e es all) more))

quote_narrow : (l : QuotedLiteral) (cs : List ℕ) → All IsNarrow cs → All IsNarrow (quote_of l ∷ cs)
quote_narrow (literals.String quotes.Double) cs more = ascii_narrow 34 cs (omega arith) more
quote_narrow (literals.String quotes.Single) cs more = ascii_narrow 39 cs (omega arith) more
quote_narrow literals.Template cs more = ascii_narrow 96 cs (omega arith) more

pub empty_narrow : (standard : Bool) (text : List ℕ) (form : Form) → IsEmptyText standard text form → All IsNarrow text
empty_narrow standard text _ (empty_literal e) = subst (All IsNarrow) (sym e) (All-nil IsNarrow)
empty_narrow standard text _ (empty_quoted it) =
    subst (All IsNarrow) (sym it.whole)
    (quote_narrow it.literal it.inner (row_narrow it.literal it.elements it.inner (quote_of it.literal ∷ []) it.row it.continue (quote_narrow it.literal [] (All-nil IsNarrow))))
