-- What holds of the units to which a quoted text is decoded: where they end, and how large their values are.
use Rattle.std.proofs.Common.{◌≡◌, ℕ, ◌+◌, ◌<◌, ◌≤◌, Bool, true, false, ◌&&◌, ◌==◌, Option, Some, None, append-nil, List, [], ◌∷◌, ◌++◌, length, refl, sym, ap, ◌∙◌, subst, arith, append_assoc, length-append}
use Rattle.rx_units.proofs.Common.{All-append, All-nil, All-tail, IsCharBoundary-at_seam, chars-encodes, encode_ascii, encodes-append, encodes-chars, scalars-chars, All, IsCharBoundary, IsUtf8, chars, encode, encodes, scalar, scalars, CodePoint, Options, Element, Writing, Literal, AreEnds}
use Rattle.rx_units.proofs.Common.{quote_of, code_points, element_units, given_value, kind_of, text_units, value_units, IsReached, Leads, Place, next_place, byte_count, no_element, one_more, place_after_opening, Decodes, plain_options, both, either_way}
use Rattle.rx_units.specs.declared.code_point.EscapeKind.{EscapeKind}
use Rattle.rx_units.specs.declared.quoted_text.element.Writing.TheVariants as writing
use Rattle.rx_units.specs.declared.quoted_text.literal.Literal.TheVariants as literals
use Rattle.rx_units.specs.declared.string_literal_parser.StringLiteralKind.TheVariants as quotes
use Rattle.rx_units.specs.Units.{character_units, end_of}
use Rattle.rx_units.proofs.CodePoints.{AreCodePoints, character_code_points, character_narrow}
use Rattle.rx_units.proofs.Ends.{end_more, ends_more}
use Rattle.rx_units.proofs.Quoted.Fronts.{spelled_front}
use Rattle.rx_units.proofs.Quoted.Turns.{onward}
use Rattle.rx_units.proofs.Quoted.Widths.{AreCharacters, byte_text, taken}
use Rattle.rx_units.proofs.Quoted.Pairs.{all_joined, ends_joined, pair_small}

abbrev IsSmall : Option ℕ → Type 0
IsSmall None = Unit {0}
IsSmall (Some value) = value ≤ 0x10FFFF

given_small : (standard : Bool) (how : Writing) (value : ℕ) → value ≤ 0x10FFFF → IsSmall (given_value standard how value)
given_small standard writing.LineContinuation value h = either_way IsSmall standard None (Some value) tt h
given_small standard writing.LineTerminator value h = either_way (λ n. n ≤ 0x10FFFF) (standard && value == 13) 10 value (omega arith) h
given_small standard how value h = h

-- What holds of the units of each character holds of all.
module _ (l : Literal) (o : Options) (P : CodePoint → Type 0) (each : (start end c : ℕ) (k : EscapeKind) → c ≤ 0x10FFFF → All P (character_units o.combine_surrogate_pair start end c k)) where
  value_holds : (start end : ℕ) (k : EscapeKind) (m : Option ℕ) → IsSmall m → All P (value_units o.combine_surrogate_pair start end k m)
  value_holds start end k None small = All-nil P
  value_holds start end k (Some value) small = each start end value k small

  all_units : (inner : List ℕ) (p : Place) → AreCharacters inner → Leads l o (place_after_opening o inner) p → All P p.units
  all_units inner _ small no_element = All-nil P
  all_units inner _ small (one_more {p} e w rest a h s k) =
      let here : AreCharacters (w ++ rest) = subst AreCharacters h ((onward a).characters small) in
      let value : e.value ≤ 0x10FFFF = (taken l (w ++ rest) e (length w) (spelled_front l e w rest s)).small here in
      let end : ℕ = p.offset + byte_count w in
      All-append P p.units (element_units o p.offset end e) (all_units inner p small a)
      (value_holds p.offset end (kind_of e.writing) (given_value o.standard_strings e.writing e.value) (given_small o.standard_strings e.writing e.value value))

  reached_units : (text : List ℕ) (p : Place) → AreCharacters text → IsReached l o text p → All P p.units
  reached_units text p small r = all_units r.inner p (All-tail (λ c. c ≤ 0x10FFFF) (quote_of l) r.inner (subst AreCharacters r.opens small)) r.leads

-- They are code points.
pub decoded_code_points : {standard joined : Bool} {text : List ℕ} {us : List CodePoint} → All (λ c. c ≤ 0x10FFFF) text → Decodes standard joined text us → AreCodePoints us
decoded_code_points {standard} {joined} {text} {us} small d =
    let P : CodePoint → Type 0 = λ unit. unit.value ≤ 0x10FFFF in
    let own = d.decoded.last.units in
    let all = reached_units d.literal (plain_options standard joined) P (character_code_points joined) text d.decoded.last small d.decoded.reached in
    subst (All P) (sym d.decoded.units_are) (either_way (All P) (standard && joined) (code_points own) own (all_joined P pair_small own all) all)

never_joined : (standard : Bool) (us : List CodePoint) → text_units (plain_options standard false) us ≡ us
never_joined true us = refl
never_joined false us = refl

-- Where pairs are not joined they are UTF-16 code units.
pub decoded_narrow : {standard : Bool} {text : List ℕ} {us : List CodePoint} → All (λ c. c ≤ 0x10FFFF) text → Decodes standard false text us → All (λ u. u.value < 0x10000) us
decoded_narrow {standard} {text} {us} small d =
    subst (All (λ u. u.value < 0x10000)) (sym (d.decoded.units_are ∙ never_joined standard d.decoded.last.units))
    (reached_units d.literal (plain_options standard false) (λ u. u.value < 0x10000) character_narrow text d.decoded.last small d.decoded.reached)

scalar_parts : (w rest : List ℕ) → scalars (w ++ rest) ≡ true → (scalars w ≡ true) × (scalars rest ≡ true)
scalar_parts [] rest h = (refl, h)
scalar_parts (c ∷ w) rest h =
    let first = both (scalar c) (scalars (w ++ rest)) h in
    let parts = scalar_parts w rest first.1 in
    (ap (λ b. b && scalars w) first.0 ∙ parts.0, parts.1)

bytes_of : (w : List ℕ) → scalars w ≡ true → byte_count w ≡ length (encodes w)
bytes_of w h = ap byte_count (sym (chars-encodes w h)) ∙ byte_text (encodes w) (w, (h, refl))

quote_encoded : (l : Literal) → encode (quote_of l) ≡ quote_of l ∷ []
quote_encoded (literals.String quotes.Double) = encode_ascii 34 (omega arith)
quote_encoded (literals.String quotes.Single) = encode_ascii 39 (omega arith)
quote_encoded literals.Template = encode_ascii 96 (omega arith)

module _ (bytes : List ℕ) where
  -- how a place lies in the bytes, where units begin at an offset
  record LiesAt (first : ℕ) (p : Place) : Type 0 where
    before : List ℕ
    whole : bytes ≡ before ++ encodes p.rest
    offset_is : p.offset ≡ length before
    scalars_after : scalars p.rest ≡ true
    ends_before : end_of first p.units ≤ p.offset
    ends : AreEnds bytes first p.units

  -- the units of a value after others
  value_lies : (first start end : ℕ) (joined : Bool) (k : EscapeKind) (us : List CodePoint) (m : Option ℕ) → AreEnds bytes first us → end_of first us ≤ end → IsCharBoundary bytes end
      → AreEnds bytes first (us ++ value_units joined start end k m) × (end_of first (us ++ value_units joined start end k m) ≤ end)
  value_lies first start end joined k us None ends order cut = (subst (AreEnds bytes first) (sym (append-nil us)) ends, subst (λ us. end_of first us ≤ end) (sym (append-nil us)) order)
  value_lies first start end joined k us (Some value) ends order cut = (
    ends_more bytes joined first start end value k us ends order cut,
    omega (arith, end_more bytes joined first start end value k us),
  )

  lies_after : (first : ℕ) (o : Options) (p : Place) (e : Element) (w rest : List ℕ) → p.rest ≡ w ++ rest → LiesAt first p → LiesAt first (next_place o p e w rest)
  lies_after first o p e w rest h at =
      let parts = scalar_parts w rest (ap scalars (sym h) ∙ at.scalars_after) in
      let end : p.offset + byte_count w ≡ length (at.before ++ encodes w) = omega (arith, at.offset_is, bytes_of w parts.0, length-append at.before (encodes w)) in
      let whole : bytes ≡ (at.before ++ encodes w) ++ encodes rest = at.whole ∙ ap (λ xs. at.before ++ xs) (ap encodes h ∙ encodes-append w rest) ∙ sym (append_assoc at.before (encodes w) (encodes rest)) in
      let cut = IsCharBoundary-at_seam bytes (at.before ++ encodes w) (encodes rest) whole (rest, (parts.1, refl)) in
      let units = value_lies first p.offset (p.offset + byte_count w) o.combine_surrogate_pair (kind_of e.writing) p.units (given_value o.standard_strings e.writing e.value) at.ends
      (omega (arith, at.ends_before)) (subst (IsCharBoundary bytes) (sym end) cut) in
      record {
        before = at.before ++ encodes w;
        whole = whole;
        offset_is = end;
        scalars_after = parts.1;
        ends_before = units.1;
        ends = units.0;
      }

  lies : (first : ℕ) (l : Literal) (o : Options) (from p : Place) → LiesAt first from → Leads l o from p → LiesAt first p
  lies first l o from _ at no_element = at
  lies first l o from _ at (one_more {p} e w rest a h s k) = lies_after first o p e w rest h (lies first l o from p at a)

  module _ (standard joined : Bool) (us : List CodePoint) (utf8 : IsUtf8 bytes) (d : Decodes standard joined (chars bytes) us) where
    quote_first : bytes ≡ (quote_of d.literal ∷ []) ++ encodes d.decoded.reached.inner
    quote_first = sym (encodes-chars bytes utf8) ∙ ap encodes d.decoded.reached.opens ∙ ap (λ q. q ++ encodes d.decoded.reached.inner) (quote_encoded d.literal)

    scalars_inside : scalars d.decoded.reached.inner ≡ true
    scalars_inside = (both (scalar (quote_of d.literal)) (scalars d.decoded.reached.inner) (ap scalars (sym d.decoded.reached.opens) ∙ scalars-chars bytes utf8)).1

    -- After the quote the text may be cut.
    pub decoded_start : IsCharBoundary bytes 1
    decoded_start = IsCharBoundary-at_seam bytes (quote_of d.literal ∷ []) (encodes d.decoded.reached.inner) quote_first (d.decoded.reached.inner, (scalars_inside, refl))

    -- Each unit ends where the text may be cut.
    pub decoded_ends : AreEnds bytes 1 us
    decoded_ends =
        let o = plain_options standard joined in
        let from : LiesAt 1 (place_after_opening o d.decoded.reached.inner) = record {
          before = quote_of d.literal ∷ [];
          whole = quote_first;
          offset_is = refl;
          scalars_after = scalars_inside;
          ends_before = omega arith;
          ends = tt;
        } in
        let own = d.decoded.last.units in
        let ends = (lies 1 d.literal o (place_after_opening o d.decoded.reached.inner) d.decoded.last from d.decoded.reached.leads).ends in
        subst (AreEnds bytes 1) (sym d.decoded.units_are) (either_way (AreEnds bytes 1) (standard && joined) (code_points own) own (ends_joined bytes 1 own ends) ends)
