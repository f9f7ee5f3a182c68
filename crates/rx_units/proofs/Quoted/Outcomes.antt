-- What stands where reading stops, against what is decoded and against the faults.
use Rattle.std.proofs.Common.{◌≡◌, ℕ, ◌+◌, ◌==◌, Bool, true, false, ◌&&◌, ◌||◌, List, [], ◌∷◌, length, take, drop, refl, sym, ap, ◌∙◌, subst, arith, inl, inr}
use Rattle.rx_units.proofs.Common.{eqb-true, len_utf8, Span, CodePoint, Element, Writing, LegacyKind, Literal, Options, Stop, StringLiteralKind, PassesHex, IsStop, string_element_fault, string_fault_at, text_span, quote_of, SpellsElement, SpellsInString, character, escape, legacy_octal}
use Rattle.rx_units.proofs.Common.{non_octal, SpellsEscape, single, non_escape, null, hexadecimal, four_digits, braced, continuation, IsStringFault, followed, legacy, too_large, from_to, is_closer, seen_front, Given, Place, IsReached, IsDecoded, byte_count, is_refused, text_units, chosen, told_apart}
use Rattle.rx_units.specs.declared.quoted_text.element.Writing.TheVariants as writing
use Rattle.rx_units.specs.declared.string_literal_parser.LegacyKind.TheVariants as legacy_kind
use Rattle.rx_units.specs.declared.quoted_text.literal.Literal.TheVariants as literals
use Rattle.rx_units.specs.declared.string_literal_parser.StringLiteralKind.TheVariants as quotes
use Rattle.rx_units.specs.Quoted.Faults.{nothing}
use Rattle.rx_units.specs.declared.string_literal_parser.StringFault.TheVariants as string_fault
use Rattle.rx_units.specs.Quoted.Fronts as read
use Rattle.rx_units.proofs.Quoted.Escapes.{Passes, passes_found}
use Rattle.rx_units.proofs.Quoted.Fronts.{closer_found, nothing_stands, passes_front}
use Rattle.rx_units.proofs.Quoted.ReadForms.{legacy_read, string_rows}
use Rattle.rx_units.proofs.Quoted.Turns.{place}
use Rattle.rx_units.proofs.Quoted.Widths.{taken}

abbrev is_large : read.Front → Bool
is_large (read.too_large n) = true
is_large _ = false

abbrev NoLarge : read.Front → Type 0
NoLarge r = is_large r ≡ false

-- Digits that pass 32 bits stand here.
pub record Large (n : ℕ) (us : List ℕ) : Type 0 where
  pub w : List ℕ
  pub count : ℕ
  pub begins : us ≡ 92 ∷ w
  pub over : PassesHex w count
  pub count_is : n ≡ count + 3

large_of : (n m : ℕ) (w : List ℕ) → Passes m w → read.too_large m ≡ read.too_large n → Large n (92 ∷ w)
large_of n m w p h = record {
  w = w;
  count = p.count;
  begins = refl;
  over = p.over;
  count_is = (let k : n ≡ m = cc h in k) ∙ p.count_is;
}

escape_large : (w : List ℕ) (n : ℕ) (r : read.EscapeRead) → read.escape_at w ≡ r → read.string_escape r w ≡ read.too_large n → Large n (92 ∷ w)
escape_large w n read.digit e h = absurd (told_apart is_large h (legacy_read NoLarge (λ e n. refl) refl w) refl)
escape_large w n (read.passes m) e h = large_of n m w (passes_found m w e) h
escape_large w n r e h = absurd (let no : ⊥ = cc h in no)

string_large : (quote : ℕ) (us : List ℕ) (n : ℕ) → read.string_front quote us ≡ read.too_large n → Large n us
string_large quote [] n h = absurd (let no : ⊥ = cc h in no)
string_large quote (c ∷ w) n h =
    string_rows (λ r. r ≡ read.too_large n → Large n (c ∷ w)) quote c w (λ q e. absurd (let no : ⊥ = cc e in no)) (λ b e. subst (λ c. Large n (c ∷ w)) (sym b) (escape_large w n (read.escape_at w) refl e))
    (λ l e. absurd (let no : ⊥ = cc e in no)) (λ q b l e. absurd (let no : ⊥ = cc e in no)) h

pub large_found : (k : StringLiteralKind) (us : List ℕ) (n : ℕ) → read.front (literals.String k) us ≡ read.too_large n → Large n us
unfolding read.front
large_found quotes.Double us n h = string_large 34 us n h
large_found quotes.Single us n h = string_large 39 us n h

-- at a closing quote that does not end the text
pub followed_there : (l : Literal) (us : List ℕ) → read.front l us ≡ read.closer → (length us == 1) ≡ false → (c : ℕ) × (cs : List ℕ) × (us ≡ quote_of l ∷ c ∷ cs)
followed_there l us h no_end = let found = closer_found l us h in go found.0 found.1
  where
    go : (more : List ℕ) → us ≡ quote_of l ∷ more → (c : ℕ) × (cs : List ℕ) × (us ≡ quote_of l ∷ c ∷ cs)
    go [] e = let no : true ≡ false = sym (ap (λ us. length us == 1) e) ∙ no_end in absurd (let k : ⊥ = cc no in k)
    go (c ∷ cs) e = (c, cs, e)

-- An escape that strings and templates share is allowed.
pub escape_allowed : (o : Options) (v : ℕ) (k : Writing) (w rest : List ℕ) → SpellsEscape v k w rest → is_refused o k ≡ false
escape_allowed o v _ _ rest (single h) = refl
escape_allowed o v k w rest s = refl

-- a legacy escape in strict mode code
record StrictLegacy (o : Options) (e : Element) : Type 0 where
  what : LegacyKind
  strict : o.strict_mode ≡ true
  is : e.writing ≡ writing.Legacy what

pub allowed_refused : {A : Type 0} {b : Bool} → b ≡ false → b ≡ true → A
allowed_refused h k = let no : false ≡ true = sym h ∙ k in absurd (let n : ⊥ = cc no in n)

-- What is not allowed in a string is one.
string_refused : (o : Options) (quote : ℕ) (e : Element) (w rest : List ℕ) → SpellsInString quote e w rest → is_refused o e.writing ≡ true → StrictLegacy o e
string_refused o quote _ _ rest (character h) r = allowed_refused refl r
string_refused o quote _ _ rest (escape {v} {k} {w} p) r = allowed_refused (escape_allowed o v k w rest p) r
string_refused o quote _ _ rest (legacy_octal s) r = record { what = legacy_kind.Octal; strict = r; is = refl }
string_refused o quote _ _ rest (non_octal h) r = record { what = legacy_kind.NonOctalDecimal; strict = r; is = refl }

each_refused : (o : Options) (k : StringLiteralKind) (e : Element) (w rest : List ℕ) → SpellsElement (literals.String k) e w rest → is_refused o e.writing ≡ true → StrictLegacy o e
each_refused o quotes.Double e w rest s r = string_refused o 34 e w rest s r
each_refused o quotes.Single e w rest s r = string_refused o 39 e w rest s r

module _ (k : StringLiteralKind) (o : Options) (text : List ℕ) (p : Place) (reached : IsReached (literals.String k) o text p) where
  refused_stands : (e : Element) (n : ℕ) → read.front (literals.String k) p.rest ≡ read.element e n → is_refused o e.writing ≡ true
      → IsStringFault o text (string_element_fault e.writing p.offset (p.offset + byte_count (take n p.rest)))
  refused_stands e n h r =
      let t = taken (literals.String k) p.rest e n h in
      let l = each_refused o k e (take n p.rest) (drop n p.rest) t.spells r in
      subst (λ (m : Writing). IsStringFault o text (string_element_fault m p.offset (p.offset + byte_count (take n p.rest)))) (sym l.is)
      (legacy e (take n p.rest) (drop n p.rest) reached t.whole t.spells l.strict l.is)

  large_stands : (n : ℕ) → Large n p.rest → IsStringFault o text (string_fault.TooLargeUnicodeEscapeSequence (from_to p.offset (p.offset + n)))
  large_stands n l =
      subst (λ (end : ℕ). IsStringFault o text (string_fault.TooLargeUnicodeEscapeSequence (from_to p.offset end))) (let e : p.offset + 3 + l.count ≡ p.offset + n = omega (arith, l.count_is) in e)
      (too_large reached l.begins l.over)

  nothing_here : (f : read.Front) → f ≡ read.front (literals.String k) p.rest → ((e : Element) (n : ℕ) → f ≡ read.element e n → ⊥) → (f ≡ read.closer → ⊥) → ((n : ℕ) → f ≡ read.too_large n → ⊥)
      → IsStringFault o text (string_fault.InvalidInput (from_to p.offset p.offset))
  nothing_here f h no_element no_closer no_large =
      nothing reached (nothing_stands (literals.String k) p.rest (λ e n x. no_element e n (h ∙ x)) (λ x. no_closer (h ∙ x)))
      (λ w count e x. no_large (count + 3) (h ∙ passes_front (literals.String k) p.rest w count e x))

  -- where a string is not decoded, its fault stands
  pub string_fault_stands : (f : read.Front) → f ≡ read.front (literals.String k) p.rest
      → ((e : Element) (n : ℕ) → read.front (literals.String k) p.rest ≡ read.element e n → is_refused o e.writing ≡ true)
      → (is_closer f && (length p.rest == 1)) ≡ false → IsStringFault o text (string_fault_at f p.offset p.rest)
  string_fault_stands (read.element e n) h ends no_end = refused_stands e n (sym h) (ends e n (sym h))
  string_fault_stands read.closer h ends no_end = let c = followed_there (literals.String k) p.rest (sym h) no_end in followed reached c.2
  string_fault_stands (read.nothing n) h ends no_end = nothing_here (read.nothing n) h (λ e n x. let no : ⊥ = cc x in no) (λ x. let no : ⊥ = cc x in no) (λ n x. let no : ⊥ = cc x in no)
  string_fault_stands read.substitution h ends no_end = nothing_here read.substitution h (λ e n x. let no : ⊥ = cc x in no) (λ x. let no : ⊥ = cc x in no) (λ n x. let no : ⊥ = cc x in no)
  string_fault_stands (read.invalid_hex m) h ends no_end = nothing_here (read.invalid_hex m) h (λ e n x. let no : ⊥ = cc x in no) (λ x. let no : ⊥ = cc x in no) (λ n x. let no : ⊥ = cc x in no)
  string_fault_stands (read.invalid_unicode m) h ends no_end = nothing_here (read.invalid_unicode m) h (λ e n x. let no : ⊥ = cc x in no) (λ x. let no : ⊥ = cc x in no) (λ n x. let no : ⊥ = cc x in no)
  string_fault_stands (read.too_large n) h ends no_end = large_stands n (large_found k p.rest n (sym h))

-- at the closing quote that ends the text
pub end_there : (l : Literal) (rest : List ℕ) (f : read.Front) → f ≡ read.front l rest → (is_closer f && (length rest == 1)) ≡ true → rest ≡ quote_of l ∷ []
end_there l rest read.closer h e = let c = closer_found l rest (sym h) in go c.0 c.1 (eqb-true (length rest) 1 e)
  where
    go : (more : List ℕ) → rest ≡ quote_of l ∷ more → length rest ≡ 1 → rest ≡ quote_of l ∷ []
    go [] h n = h
    go (c ∷ cs) h n = absurd (omega (arith, n, ap length h))
end_there l rest f h e = absurd (let no : ⊥ = cc e in no)

quote_width : (l : Literal) → len_utf8 (quote_of l) ≡ 1
quote_width (literals.String quotes.Double) = refl
quote_width l = refl

module _ (l : Literal) (o : Options) (text inner : List ℕ) (stop : Stop) (opens : text ≡ quote_of l ∷ inner) (stops : IsStop l o inner stop) where
  -- where elements lead after an opening quote
  pub stop_reached : IsReached l o text (place stop.units stop.offset stop.rest.now)
  stop_reached = record {
    inner = inner;
    opens = opens;
    leads = stops.leads;
  }

  -- a text that ends where reading stops is decoded
  pub decoded_there : (is_closer (seen_front stop.found) && (length stop.rest.now == 1)) ≡ true → (units : List CodePoint) → units ≡ text_units o stop.units → IsDecoded l o text units
  decoded_there end units units_are = record {
    last = place stop.units stop.offset stop.rest.now;
    reached = stop_reached;
    closes = end_there l stop.rest.now (seen_front stop.found) stops.found end;
    units_are = units_are;
  }

  -- such a text ends after one more byte
  pub ends_after : (is_closer (seen_front stop.found) && (length stop.rest.now == 1)) ≡ true → stop.offset + 1 ≡ o.span_offset + byte_count text
  ends_after end = omega (arith, stops.bytes, ap byte_count opens, ap byte_count (end_there l stop.rest.now (seen_front stop.found) stops.found end), quote_width l)

abbrev pub given : List ℕ → Options → Given
given text o = record { text = text; options = o }

-- a span that covers the text
pub whole_span : (text : List ℕ) (o : Options) (span : Span) (end : ℕ) → span ≡ from_to o.span_offset end → end ≡ o.span_offset + byte_count text → span ≡ text_span (given text o)
whole_span text o span end is ends = is ∙ ap (from_to o.span_offset) ends

-- what a parser is given is what it holds
pub given_decoded : (l : Literal) (o : Options) (text held : List ℕ) (g : Given) (us : List CodePoint) → text ≡ held → given held o ≡ g → IsDecoded l g.options g.text us → IsDecoded l o text us
given_decoded l o text held g us h same d = subst (λ (g : Given). IsDecoded l g.options g.text us) (sym (ap (λ text. given text o) h ∙ same)) d
