-- A pattern that is read is nested, and one that is read from a literal has the span of its text.
use Rattle.std.proofs.Common.{◌≡◌, refl, ap, sym, ◌∙◌, subst, ℕ, zero, suc, ◌+◌, ◌≤◌, Bool, true, false, ◌||◌, cond, nat_lt, arith, lit≤, List, [], ◌∷◌, ◌++◌, length}
use Rattle.std.specs.Prelude.{◌==◌, ◌&&◌, if◌then◌else◌}
use Rattle.std.specs.Char.{len_utf8}
use Rattle.std.specs.Str.{IsUtf8, chars}
use Rattle.std.proofs.lemmas.List.{length-append, take_all}
use Rattle.std.proofs.lemmas.Str.{length-encode, chars-nil, encodes-chars, scalars-chars, chars-encodes}
use lib.Utf8.{encode, encodes, scalars}
use Rattle.rx_ast.specs.Tree.{mirror}
use Rattle.rx_ast.specs.Parts.{IsNestedPattern}
use Rattle.rx_ast.specs.declared.term.Pattern.{Pattern}
use Rattle.rx_units.specs.declared.code_point.CodePoint.{CodePoint}
use Rattle.rx_units.specs.declared.code_point.EscapeKind.TheVariants as kind
use Rattle.rx_units.specs.Cursor.{AreEnds}
use Rattle.rx_units.specs.Sources.{Decodes}
use Rattle.rx_units.specs.Units.{character_units, end_of, lead_of, literal_units, offset_at, trail_of, unit}
use Rattle.rx_units.proofs.DecodedUnits.{decoded_ends}
use Rattle.rx_units.proofs.Ends.{literal_ends}
use Rattle.rx_model.specs.declared.form.Form.{Form}
use Rattle.rx_model.specs.declared.form.Form.TheVariants.{Literal, Constructor}
use Rattle.rx_model.specs.declared.mode.Mode.{Mode}
use Rattle.rx_model.specs.Inputs.Environment.{Environment, environment, is_unicode}
use Rattle.rx_model.specs.Inputs.Inputs.{Asks, Input}
use Rattle.rx_model.specs.Inputs.Texts.{AreUnits, first_offset, is_quote, literal_text, of_literal, of_quoted, some_units, stand_in}
use Rattle.rx_model.specs.Reading.Headline.{IsReadAs}
use Rattle.rx_model.specs.Reading.Rows.{Row}
use Rattle.rx_model.specs.Trees.Events as event
use Rattle.rx_model.specs.Trees.Events.{Events, disjunction_events}
use Rattle.rx_model.proofs.Inputs.Asked.{literal_asks, one_asked}
use Rattle.rx_model.proofs.Reading.NestedSpans.{spanned_is_nested}
use Rattle.rx_paint.specs.Runs.{HaveNoOther, pattern_tokens}
use Rattle.rx_paint.proofs.NoOther.{no_token_is_other}

-- units that end no earlier than those before them, nor than a first offset
abbrev Rise : ℕ → List CodePoint → Type 0
Rise first [] = Unit {0}
Rise first (u ∷ us) = (first ≤ u.span.end) × Rise u.span.end us

ends_rise : (text : List ℕ) (first : ℕ) (us : List CodePoint) → AreEnds text first us → Rise first us
ends_rise text first [] ends = tt
ends_rise text first (u ∷ us) ends = (ends.0, ends_rise text u.span.end us ends.2)

some_rise : (form : Form) (us : List CodePoint) → Rise (first_offset form) us → Rise (first_offset form) (some_units us)
some_rise Literal [] rise = (lit≤ tt, (lit≤ tt, (lit≤ tt, (lit≤ tt, tt))))
some_rise Constructor [] rise = (lit≤ tt, (lit≤ tt, (lit≤ tt, (lit≤ tt, tt))))
some_rise form (u ∷ us) rise = rise

first_le : (first : ℕ) (us : List CodePoint) (place : ℕ) → Rise first us → first ≤ offset_at first us place
first_le first us zero rise = omega arith
first_le first [] (suc place) rise = omega arith
first_le first (u ∷ us) (suc place) rise = omega (arith, rise.0, first_le u.span.end us place rise.1)

offsets_rise : (first : ℕ) (us : List CodePoint) → Rise first us → (i j : ℕ) → i ≤ j → offset_at first us i ≤ offset_at first us j
offsets_rise first us rise zero j le = first_le first us j rise
offsets_rise first us rise (suc i) zero le = absurd (omega arith)
offsets_rise first [] rise (suc i) (suc j) le = omega arith
offsets_rise first (u ∷ us) rise (suc i) (suc j) le = offsets_rise u.span.end us rise.1 i j (omega arith)

-- the units of a text rise, as those of each text that is UTF-8 do
own_rise : (standard joined : Bool) (form : Form) (cs bytes : List ℕ) (us : List CodePoint) → IsUtf8 bytes → cs ≡ chars bytes → AreUnits standard joined cs form us → Rise (first_offset form) us
own_rise standard joined _ cs bytes _ utf8 is of_literal = subst (λ cs. Rise 0 (literal_units joined 0 cs)) (sym is) (ends_rise bytes 0 (literal_units joined 0 (chars bytes)) (literal_ends bytes joined utf8))
own_rise standard joined _ cs bytes us utf8 is (of_quoted d) = ends_rise bytes 1 us (decoded_ends bytes standard joined us utf8 (subst (λ cs. Decodes standard joined cs us) is d))

stand_in_scalars : (form : Form) (cs : List ℕ) → scalars cs ≡ true → scalars (stand_in form cs) ≡ true
stand_in_scalars Literal [] s = refl
stand_in_scalars Literal (c ∷ cs) s = s
stand_in_scalars Constructor [] s = s
stand_in_scalars Constructor (c ∷ []) s = s
stand_in_scalars Constructor (c ∷ d ∷ []) s = elim (is_quote c && c == d) as (λ b. scalars (if b then 34 ∷ 40 ∷ 63 ∷ 58 ∷ 41 ∷ 34 ∷ [] else c ∷ d ∷ []) ≡ true) [ true ↦ refl | false ↦ s ]
stand_in_scalars Constructor (c ∷ d ∷ e ∷ cs) s = s

asked_rise : (input : Input) (mode : Mode) (us : List CodePoint) (bytes : List ℕ) → IsUtf8 bytes → input.text ≡ chars bytes → Asks input mode us → Rise (first_offset input.form) us
asked_rise input mode us bytes utf8 is asks =
    let cs = stand_in input.form input.text in
    let s = stand_in_scalars input.form input.text (ap scalars is ∙ scalars-chars bytes utf8) in
    subst (Rise (first_offset input.form)) (sym asks.units_are)
    (some_rise input.form asks.own (own_rise input.standard_strings (is_unicode mode) input.form cs (encodes cs) asks.own (cs, (s, refl)) (sym (chars-encodes cs s)) asks.own_are))

module _ (input : Input) (mode : Mode) (p : Pattern) (bytes : List ℕ) (utf8 : IsUtf8 bytes) (is : input.text ≡ chars bytes) (read : IsReadAs input mode p) where
  rising : (i j : ℕ) → i ≤ j → offset_at (first_offset input.form) read.units i ≤ offset_at (first_offset input.form) read.units j
  rising = offsets_rise (first_offset input.form) read.units (asked_rise input mode read.units bytes utf8 is read.asked)

  -- A pattern that is read is nested.
  pub read_nested : IsNestedPattern (mirror p)
  read_nested = spanned_is_nested mode input.rules p read.units (first_offset input.form) input.text_offset rising read.spanned

  -- It has no token Other.
  pub read_no_other : HaveNoOther (pattern_tokens (mirror p))
  read_no_other = no_token_is_other mode input.rules p read.units (first_offset input.form) input.text_offset rising read.spanned

-- a row of events that ends with the end of a node leads to its offset
row_end : (e : Environment) (o : ℕ → ℕ) (es : Events) (n i j : ℕ) (us rest : List CodePoint) → Row e o (es ++ (event.leave n ∷ [])) i us j rest → n ≡ o j
row_end e o [] n i j us rest row = row.0 ∙ ap o row.1.0
row_end e o ((event.enter m) ∷ es) n i j us rest row = row_end e o es n i j us rest row.1
row_end e o ((event.leave m) ∷ es) n i j us rest row = row_end e o es n i j us rest row.1
row_end e o ((event.token t) ∷ es) n i j us rest row = row_end e o es n (i + length row.0) j row.1 rest row.4
row_end e o ((event.inside c) ∷ es) n i j us rest row = row_end e o es n (i + length row.0) j row.1 rest row.4
row_end e o ((event.modified m) ∷ es) n i j us rest row = row_end e o es n (i + length row.0) j row.1 rest row.4

after_character : (joined : Bool) (first start end c : ℕ) (us : List CodePoint) → end_of first (character_units joined start end c kind.None ++ us) ≡ end_of end us
after_character joined first start end c us =
    elim (joined || nat_lt c 0x10000) as (λ b. end_of first (cond b (unit start end c kind.None ∷ []) (unit start end (lead_of c) kind.None ∷ unit start end (trail_of c) kind.None ∷ []) ++ us) ≡ end_of end us) [ true ↦ refl | false ↦ refl ]

-- the units of a literal end with its text
literal_end : (joined : Bool) (cs : List ℕ) (at : ℕ) → end_of at (literal_units joined at cs) ≡ at + length (encodes cs)
literal_end joined [] at = omega arith
literal_end joined (c ∷ cs) at =
    let more = literal_end joined cs (at + len_utf8 c) in
    let parts = length-append (encode c) (encodes cs) in
    let one = length-encode c in
    after_character joined at at (at + len_utf8 c) c (literal_units joined (at + len_utf8 c) cs) ∙ (let e : end_of (at + len_utf8 c) (literal_units joined (at + len_utf8 c) cs) ≡ at + length (encode c ++ encodes cs) = omega arith in e)

same_text : (cs : List ℕ) (b : ℕ) (bs : List ℕ) → encodes cs ≡ b ∷ bs → encodes (literal_text cs) ≡ b ∷ bs
same_text [] b bs is = let e : [] ≡ b ∷ bs = is in cc
same_text (c ∷ cs) b bs is = is

-- the bytes of a literal are those of its characters, and so are those of what stands in for an empty one
pub text_encoded : (bytes : List ℕ) → IsUtf8 bytes → encodes (literal_text (chars bytes)) ≡ literal_text bytes
unfolding encode
text_encoded [] utf8 = ap (λ cs. encodes (literal_text cs)) chars-nil
text_encoded (b ∷ bs) utf8 = same_text (chars (b ∷ bs)) b bs (encodes-chars (b ∷ bs) utf8)

module _ (input : Input) (mode : Mode) (p : Pattern) (bytes : List ℕ) (utf8 : IsUtf8 bytes) (is : input.text ≡ chars bytes) (literal : input.form ≡ Literal) (at_start : input.text_offset ≡ 0) (read : IsReadAs input mode p) where
  units_are : read.units ≡ literal_units (is_unicode mode) 0 (literal_text (chars bytes))
  units_are = (one_asked input mode mode read.units (literal_units (is_unicode mode) 0 (literal_text input.text)) read.asked (literal_asks input mode literal read.asked.mode_asked)).1 ∙ ap (λ cs. literal_units (is_unicode mode) 0 (literal_text cs)) is

  last_offset : offset_at 0 read.units (length read.units) ≡ length (literal_text bytes)
  last_offset =
      let cs = literal_text (chars bytes) in
      ap (end_of 0) (take_all (length read.units) read.units (omega arith)) ∙ ap (end_of 0) units_are ∙ literal_end (is_unicode mode) cs 0
      ∙ (let e : 0 + length (encodes cs) ≡ length (encodes cs) = omega arith in e) ∙ ap length (text_encoded bytes utf8)

  span_start : p.span.start ≡ 0
  span_start =
      let row = read.spanned in
      let first = ap first_offset literal in
      row.0 ∙ (let e : first_offset input.form + input.text_offset ≡ 0 = omega arith in e)

  span_end : p.span.end ≡ length (literal_text bytes)
  span_end =
      let first = ap first_offset literal in
      let us = read.units in
      let o : ℕ → ℕ = λ place. offset_at (first_offset input.form) us place + input.text_offset in
      let row = read.spanned.1 in
      let last = row_end (environment mode input.rules p) o (disjunction_events p.body) p.span.end 0 (length us) us [] row in
      let from = ap (λ first. offset_at first us (length us)) first in
      let end = last_offset in
      last ∙ (let e : offset_at (first_offset input.form) us (length us) + input.text_offset ≡ length (literal_text bytes) = omega arith in e)

  -- A pattern that is read from a literal has the span of its text.
  pub read_span : p.span ≡ record { start = 0; end = length (literal_text bytes) }
  read_span = ap (λ (n : ℕ). record { start = n; end = p.span.end }) span_start ∙ ap (λ (n : ℕ). record { start = 0; end = n }) span_end
