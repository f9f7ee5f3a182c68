-- Elements one after another: a text is decoded in one way, and no text with a fault is.
use Rattle.std.proofs.Common.{◌≡◌, ℕ, ◌-◌, List, [], ◌∷◌, ◌++◌, All, length, length-append, take, drop, refl, sym, ap, ap₂, ◌∙◌, subst, arith}
use Rattle.rx_units.proofs.Common.{drop-append_seam, take-append_seam, All-nil, All-cons, All-head, All-tail, CodePoint, Element, Literal, Options, SpellsTerminator, alone, carriage_return, carriage_return_line_feed, quote_of, SpellsElement, SpellsInString, SpellsInTemplate, character}
use Rattle.rx_units.proofs.Common.{escape, legacy_octal, non_octal, dollar, terminator, zero_digit, element, closer, front, text_units, Place, next_place, IsAllowed, Leads, no_element, one_more, place_after_opening, IsReached, IsDecoded, QuotedRow, after_elements}
use Rattle.rx_units.specs.declared.quoted_text.literal.Literal.TheVariants as literals
use Rattle.rx_units.specs.declared.string_literal_parser.StringLiteralKind.TheVariants as quotes
use Rattle.rx_units.specs.Quoted.Elements.{digit}
use Rattle.rx_units.specs.Sequences.{ElementRow}
use Rattle.rx_units.proofs.Quoted.Fronts.{spelled_front, quote_front}
use Rattle.rx_units.proofs.Sequences.{row_append, one}

some_terminator : (c : ℕ) (w rest : List ℕ) → w ≡ [] → SpellsTerminator c w rest → ⊥
some_terminator c _ rest h (alone k) = cc h
some_terminator c w rest h s = cc h

none_in_string : (quote : ℕ) (e : Element) (w rest : List ℕ) → w ≡ [] → SpellsInString quote e w rest → ⊥
none_in_string quote _ _ rest h (character k) = cc h
none_in_string quote e w rest h s = cc h

none_in_template : (e : Element) (w rest : List ℕ) → w ≡ [] → SpellsInTemplate e w rest → ⊥
none_in_template _ w rest h (terminator {c} t) = some_terminator c w rest h t
none_in_template e w rest h s = cc h

-- No element is spelled by nothing.
pub some_characters : (l : Literal) (e : Element) (rest : List ℕ) → SpellsElement l e [] rest → ⊥
some_characters (literals.String quotes.Double) e rest s = none_in_string 34 e [] rest refl s
some_characters (literals.String quotes.Single) e rest s = none_in_string 39 e [] rest refl s
some_characters literals.Template e rest s = none_in_template e [] rest refl s

-- Two elements that one text begins with are one, and leave the same rest.
pub one_front : (l : Literal) (q : Unit {0}) (e f : Element) (w rest v more : List ℕ) → w ++ rest ≡ v ++ more → SpellsElement l e w rest → SpellsElement l f v more → (e ≡ f) × (rest ≡ more)
one_front l q e f w rest v more h s t =
    let same : element e (length w) ≡ element f (length v) = sym (spelled_front l e w rest s) ∙ ap (front l) h ∙ spelled_front l f v more t in
    (cc same, sym (drop-append_seam w rest) ∙ ap₂ drop (cc same) h ∙ drop-append_seam v more)

-- No element begins at the closing quote.
pub none_at_quote : (l : Literal) (us : List ℕ) → (more : List ℕ) × (us ≡ quote_of l ∷ more) → (e : Element) (w rest : List ℕ) → us ≡ w ++ rest → SpellsElement l e w rest → ⊥
none_at_quote l us at_quote e w rest h s =
    let k : closer ≡ element e (length w) = sym (quote_front l at_quote.0) ∙ ap (front l) (sym at_quote.1 ∙ h) ∙ spelled_front l e w rest s in
    cc k

module _ (l : Literal) (o : Options) where
  -- As elements that are allowed stand one after another, a place says what those before it give.
  abbrev AllowedAt : Place → Element → List ℕ → List ℕ → Type 0
  AllowedAt p e w rest = (p.rest ≡ w ++ rest) × SpellsElement l e w rest × IsAllowed o e

  -- the characters between a place and what follows an element
  abbrev between : Place → List ℕ → List ℕ
  between p rest = take (length p.rest - length rest) p.rest

  abbrev after_allowed : Place → Element → List ℕ → Place
  after_allowed p e rest = next_place o p e (between p rest) rest

  are_between : (p : Place) (w rest : List ℕ) → p.rest ≡ w ++ rest → between p rest ≡ w
  are_between p w rest h =
      let n : length p.rest - length rest ≡ length w = omega (arith, ap length h, length-append w rest) in
      ap₂ take n h ∙ take-append_seam w rest

  abbrev AllowedRow : List Element → Place → Place → Type 0
  AllowedRow es p q = ElementRow AllowedAt after_allowed es p p.rest q q.rest

  leads_row : {from p : Place} → Leads l o from p → (es : List Element) × AllowedRow es from p
  leads_row no_element = ([], (refl, refl))
  leads_row {from} (one_more {p} e w rest a h s k) =
      let r = leads_row a in
      let same = are_between p w rest h in
      (r.0 ++ (e ∷ []), row_append AllowedAt after_allowed r.0 (e ∷ []) from from.rest p p.rest (next_place o p e w rest) rest r.1 (w, rest, h, (h, s, k), (ap (λ v. next_place o p e v rest) same, refl)))

  -- no element that is allowed stands at a place
  abbrev pub IsStuck : Place → Type 0
  IsStuck p = (e : Element) (w rest : List ℕ) → p.rest ≡ w ++ rest → SpellsElement l e w rest → IsAllowed o e → ⊥

  pub one_stop : {from p q : Place} → Leads l o from p → Leads l o from q → IsStuck p → IsStuck q → p ≡ q
  one_stop {from} {p} {q} a b stuck ended =
      let r = leads_row a in
      let s = leads_row b in
      (one AllowedAt after_allowed (λ p e f w more v rest h x y. one_front l tt e f w more v rest h x.1 y.1) (λ p us. IsStuck p) (λ p us stuck e w rest h x. stuck e w rest x.0 x.1 x.2)
      r.0 s.0 from from.rest p p.rest q q.rest r.1 stuck s.1 ended).1

  pub stuck_at_quote : (p : Place) (more : List ℕ) → p.rest ≡ quote_of l ∷ more → IsStuck p
  stuck_at_quote p more h e w rest whole s k = none_at_quote l p.rest (more, h) e w rest whole s

  same_inner : (text inner other : List ℕ) → text ≡ quote_of l ∷ inner → text ≡ quote_of l ∷ other → inner ≡ other
  same_inner text inner other h k = let e : quote_of l ∷ inner ≡ quote_of l ∷ other = sym h ∙ k in cc e

  pub one_reached : (text : List ℕ) (p q : Place) → IsReached l o text p → IsReached l o text q → IsStuck p → IsStuck q → p ≡ q
  one_reached text p q a b stuck ended =
      one_stop a.leads (subst (λ inner. Leads l o (place_after_opening o inner) q) (sym (same_inner text a.inner b.inner a.opens b.opens)) b.leads) stuck ended

  -- A text is decoded in one way.
  pub one_decoding : (text : List ℕ) (us vs : List CodePoint) → IsDecoded l o text us → IsDecoded l o text vs → us ≡ vs
  one_decoding text us vs a b =
      let same = one_reached text a.last b.last a.reached b.reached (stuck_at_quote a.last [] a.closes) (stuck_at_quote b.last [] b.closes) in
      a.units_are ∙ ap (λ (p : Place). text_units o p.units) same ∙ sym b.units_are

  of_allowed : (es : List Element) (p q : Place) → AllowedRow es p q → (row : QuotedRow l es p.rest q.rest) × All (IsAllowed o) es × (after_elements l o p es q.rest row ≡ q)
  of_allowed [] p q r = ((refl, r.1), All-nil (IsAllowed o), r.0)
  of_allowed (e ∷ es) p q r =
      let same = ap (λ w. next_place o p e w r.1) (are_between p r.0 r.1 r.2) in
      let more = of_allowed es (next_place o p e r.0 r.1) q (subst (λ from. ElementRow AllowedAt after_allowed es from r.1 q q.rest) same r.4) in
      ((r.0, r.1, r.2, r.3.1, more.0), All-cons (IsAllowed o) e es r.3.2 more.1, more.2)

  row_leads : {from : Place} (p : Place) → Leads l o from p → (es : List Element) (rest : List ℕ) (row : QuotedRow l es p.rest rest) → All (IsAllowed o) es →
      Leads l o from (after_elements l o p es rest row) × ((after_elements l o p es rest row).rest ≡ rest)
  row_leads p a [] rest row k = (a, row.1)
  row_leads p a (e ∷ es) rest row k = row_leads (next_place o p e row.0 row.1) (one_more e row.0 row.1 a row.2 row.3 (All-head (IsAllowed o) e es k)) es rest row.4 (All-tail (IsAllowed o) e es k)

  -- What a text that is decoded is, in elements.
  abbrev IsOfElements : List ℕ → List CodePoint → Type 0
  IsOfElements text us = (inner : List ℕ) × (es : List Element) × (row : QuotedRow l es inner (quote_of l ∷ [])) ×
      (text ≡ quote_of l ∷ inner) × All (IsAllowed o) es × (us ≡ text_units o (after_elements l o (place_after_opening o inner) es (quote_of l ∷ []) row).units)

  pub elements_of : (text : List ℕ) (us : List CodePoint) → IsDecoded l o text us → IsOfElements text us
  elements_of text us d = go d.last d.reached.leads d.closes d.units_are
    where
      go : (p : Place) → Leads l o (place_after_opening o d.reached.inner) p → p.rest ≡ quote_of l ∷ [] → us ≡ text_units o p.units → IsOfElements text us
      go p a closes units_are =
          let r = leads_row a in
          let end : Place = record { units = p.units; offset = p.offset; rest = quote_of l ∷ [] } in
          let same : p ≡ end = ap (λ rest. record { units = p.units; offset = p.offset; rest = rest }) closes in
          let x = of_allowed r.0 (place_after_opening o d.reached.inner) end (subst (AllowedRow r.0 (place_after_opening o d.reached.inner)) same r.1) in
          (d.reached.inner, r.0, x.0, d.reached.opens, x.1, units_are ∙ ap (λ (p : Place). text_units o p.units) (same ∙ sym x.2))

  pub of_elements : (text : List ℕ) (us : List CodePoint) → IsOfElements text us → IsDecoded l o text us
  of_elements text us x =
      let a = row_leads (place_after_opening o x.0) no_element x.1 (quote_of l ∷ []) x.2 x.4 in
      record {
        last = after_elements l o (place_after_opening o x.0) x.1 (quote_of l ∷ []) x.2;
        reached = record { inner = x.0; opens = x.3; leads = a.0 };
        closes = a.1;
        units_are = x.5;
      }
