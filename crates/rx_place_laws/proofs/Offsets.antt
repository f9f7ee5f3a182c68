-- The units of a text end between characters of it.
use Rattle.std.proofs.Common.{◌≡◌, ◌∙◌, refl, ap, sym, subst, ℕ, zero, suc, ◌+◌, Bool, true, false, ◌||◌, ◌&&◌, cond, nat_lt, Option, Some, None, List, [], ◌∷◌, ◌++◌, length, length-append, append-nil, append_assoc, arith}
use Rattle.std.proofs.lemmas.Str.{length-encode}
use Rattle.std.specs.Prelude.{encode_utf8_all}
use Rattle.std.specs.Char.{len_utf8}
use lib.Utf8.{encode}
use Rattle.rx_base.specs.Characters.{is_lead, is_trail}
use Rattle.rx_units.specs.declared.code_point.CodePoint.{CodePoint}
use Rattle.rx_units.specs.declared.code_point.EscapeKind.{EscapeKind}
use Rattle.rx_units.specs.declared.code_point.EscapeKind.TheVariants as kind
use Rattle.rx_units.specs.declared.options.Options.{Options}
use Rattle.rx_units.specs.declared.quoted_text.element.Element.{Element}
use Rattle.rx_units.specs.declared.quoted_text.literal.Literal.{Literal}
use Rattle.rx_units.specs.declared.quoted_text.literal.Literal.TheVariants as literals
use Rattle.rx_units.specs.declared.string_literal_parser.StringLiteralKind.TheVariants as quotes
use Rattle.rx_units.specs.Quoted.Elements.{quote_of}
use Rattle.rx_units.specs.Quoted.Texts.{IsDecoded, Leads, Place, byte_count, next_place, no_element, one_more, place_after_opening}
use Rattle.rx_units.specs.Quoted.Values.{code_points, element_units, given_value, kind_of, pair, text_units, value_units}
use Rattle.rx_units.specs.Sources.{Decodes, plain_options}
use Rattle.rx_units.specs.Units.{character_units, lead_of, literal_units, offset_at, trail_of, unit}
use Rattle.rx_place_laws.specs.Between.{IsBetweenCharacters}

-- each of these units ends where this holds
abbrev pub End : (ℕ → Type 0) → List CodePoint → Type 0
End P [] = Unit {0}
End P (u ∷ us) = P u.span.end × End P us

either_way : (P : List CodePoint → Type 0) (b : Bool) (us vs : List CodePoint) → P us → P vs → P (cond b us vs)
either_way P true us vs h k = h
either_way P false us vs h k = k

module _ (P : ℕ → Type 0) where
  both : (us vs : List CodePoint) → End P us → End P vs → End P (us ++ vs)
  both [] vs ends more = more
  both (u ∷ us) vs ends more = (ends.0, both us vs ends.1 more)

  -- so it holds at each offset
  pub at_offset : (first : ℕ) (us : List CodePoint) (place : ℕ) → P first → End P us → P (offset_at first us place)
  at_offset first us zero start ends = start
  at_offset first [] (suc place) start ends = start
  at_offset first (u ∷ us) (suc place) start ends = at_offset u.span.end us place ends.0 ends.1

  of_character : (joined : Bool) (start end c : ℕ) (k : EscapeKind) → P end → End P (character_units joined start end c k)
  of_character joined start end c k h =
      either_way (End P) (joined || nat_lt c 0x10000) (unit start end c k ∷ []) (unit start end (lead_of c) k ∷ unit start end (trail_of c) k ∷ []) (h, tt) (h, (h, tt))

  of_value : (joined : Bool) (start end : ℕ) (k : EscapeKind) (value : Option ℕ) → P end → End P (value_units joined start end k value)
  of_value joined start end k None h = tt
  of_value joined start end k (Some value) h = of_character joined start end value k h

  joined_units : (us : List CodePoint) → End P us → End P (code_points us)
  joined_units [] ends = tt
  joined_units (u ∷ []) ends = ends
  joined_units (u ∷ v ∷ us) ends =
      either_way (End P) (is_lead u.value && is_trail v.value) (pair u v ∷ code_points us) (u ∷ code_points (v ∷ us)) (ends.1.0, joined_units us ends.1.1) (ends.0, joined_units (v ∷ us) ends.1)

  of_text : (o : Options) (us : List CodePoint) → End P us → End P (text_units o us)
  of_text o us ends = either_way (End P) (o.standard_strings && o.combine_surrogate_pair) (code_points us) us (joined_units us ends) ends

-- so many bytes after the beginning
bytes_are : (cs : List ℕ) → byte_count cs ≡ length (encode_utf8_all cs)
bytes_are [] = refl
bytes_are (c ∷ cs) = omega (arith, length-append (encode c) (encode_utf8_all cs), length-encode c, bytes_are cs)

bytes_of_both : (cs ds : List ℕ) → byte_count (cs ++ ds) ≡ byte_count cs + byte_count ds
bytes_of_both [] ds = omega arith
bytes_of_both (c ∷ cs) ds = omega (arith, bytes_of_both cs ds)

pub between : (text front back : List ℕ) (added place : ℕ) → text ≡ front ++ back → place ≡ byte_count front + added → IsBetweenCharacters text added place
between text front back added place cut is = record { front = front; back = back; cut = cut; place_is = omega (arith, is, bytes_are front) }

module _ (text : List ℕ) (added : ℕ) where
  abbrev At : ℕ → Type 0
  At place = IsBetweenCharacters text added (place + added)

  pub at_start : At 0
  at_start = between text [] text added (0 + added) refl refl

  -- of characters that stand in the text, each being itself
  pub literal_ends : (joined : Bool) (front cs back : List ℕ) (at : ℕ) → text ≡ front ++ (cs ++ back) → at ≡ byte_count front → End At (literal_units joined at cs)
  literal_ends joined front [] back at cut is = tt
  literal_ends joined front (c ∷ cs) back at cut is =
      let whole : text ≡ (front ++ c ∷ []) ++ (cs ++ back) = cut ∙ sym (append_assoc front (c ∷ []) (cs ++ back)) in
      let end : at + len_utf8 c ≡ byte_count (front ++ c ∷ []) = omega (arith, is, bytes_of_both front (c ∷ [])) in
      both At (character_units joined at (at + len_utf8 c) c kind.None) (literal_units joined (at + len_utf8 c) cs)
      (of_character At joined at (at + len_utf8 c) c kind.None (between text (front ++ c ∷ []) (cs ++ back) added (at + len_utf8 c + added) whole (ap (λ n. n + added) end)))
      (literal_ends joined (front ++ c ∷ []) cs back (at + len_utf8 c) whole end)

  pub literal_offset : (joined : Bool) (place : ℕ) → At (offset_at 0 (literal_units joined 0 text) place)
  literal_offset joined place = at_offset At 0 (literal_units joined 0 text) place at_start (literal_ends joined [] text [] 0 (sym (append-nil text)) refl)

  -- what holds of a place in a quoted text
  record IsIn (p : Place) : Type 0 where
    front : List ℕ
    cut : text ≡ front ++ p.rest
    offset_is : p.offset ≡ byte_count front
    ends : End At p.units

  onward : (o : Options) (p : Place) (e : Element) (w rest : List ℕ) → p.rest ≡ w ++ rest → IsIn p → IsIn (next_place o p e w rest)
  onward o p e w rest stands is =
      let end : ℕ = p.offset + byte_count w in
      let whole : text ≡ (is.front ++ w) ++ rest = is.cut ∙ ap (λ cs. is.front ++ cs) stands ∙ sym (append_assoc is.front w rest) in
      let bytes : end ≡ byte_count (is.front ++ w) = omega (arith, is.offset_is, bytes_of_both is.front w) in
      record {
        front = is.front ++ w;
        cut = whole;
        offset_is = bytes;
        ends = both At p.units (element_units o p.offset end e) is.ends
            (of_value At o.combine_surrogate_pair p.offset end (kind_of e.writing) (given_value o.standard_strings e.writing e.value) (between text (is.front ++ w) rest added (end + added) whole (ap (λ n. n + added) bytes)));
      }

  led : (l : Literal) (o : Options) (from p : Place) → Leads l o from p → IsIn from → IsIn p
  led l o from _ no_element is = is
  led l o from _ (one_more {p} e w rest leads stands spells allowed) is = onward o p e w rest stands (led l o from p leads is)

  quote_byte : (l : Literal) → byte_count (quote_of l ∷ []) ≡ 1
  quote_byte (literals.String quotes.Double) = refl
  quote_byte (literals.String quotes.Single) = refl
  quote_byte literals.Template = refl

  decoded_ends : (l : Literal) (standard joined : Bool) (us : List CodePoint) → IsDecoded l (plain_options standard joined) text us → End At us
  decoded_ends l standard joined us d =
      let o = plain_options standard joined in
      let inner = d.reached.inner in
      let start : IsIn (place_after_opening o inner) = record { front = quote_of l ∷ []; cut = d.reached.opens; offset_is = sym (quote_byte l); ends = tt } in
      subst (End At) (sym d.units_are) (of_text At o d.last.units (led l o (place_after_opening o inner) d.last d.reached.leads start).ends)

  after_quote : (l : Literal) (standard joined : Bool) (us : List CodePoint) → IsDecoded l (plain_options standard joined) text us → At 1
  after_quote l standard joined us d = between text (quote_of l ∷ []) d.reached.inner added (1 + added) d.reached.opens (ap (λ n. n + added) (sym (quote_byte l)))

  -- of a quoted text
  pub quoted_offset : (standard joined : Bool) (us : List CodePoint) (place : ℕ) → Decodes standard joined text us → At (offset_at 1 us place)
  quoted_offset standard joined us place d =
      at_offset At 1 us place (after_quote d.literal standard joined us d.decoded) (decoded_ends d.literal standard joined us d.decoded)
