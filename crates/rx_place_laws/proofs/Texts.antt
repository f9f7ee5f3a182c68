-- In which text the offsets of an input stand between characters.
use Rattle.std.proofs.Common.{◌≡◌, ◌∙◌, refl, ap, sym, subst, ◌⊎◌, inl, inr, ℕ, ◌+◌, Bool, true, false, ◌&&◌, ◌||◌, ◌==◌, List, [], ◌∷◌, arith, if◌then◌else◌}
use Rattle.std.proofs.lemmas.Bool.{and_parts, eqb-true, or_cases}
use Rattle.std.proofs.lemmas.Bool.Decides.{nat_tests}
use Rattle.rx_units.specs.declared.code_point.CodePoint.{CodePoint}
use Rattle.rx_units.specs.declared.quoted_text.literal.Literal.{Literal as QuotedLiteral}
use Rattle.rx_units.specs.declared.quoted_text.literal.Literal.TheVariants as literals
use Rattle.rx_units.specs.declared.string_literal_parser.StringLiteralKind.TheVariants as quotes
use Rattle.rx_units.specs.Quoted.Elements.{quote_of}
use Rattle.rx_units.specs.Quoted.Texts.{no_element, place_after_opening}
use Rattle.rx_units.specs.Quoted.Values.{text_units}
use Rattle.rx_units.specs.Sources.{Decodes, plain_options}
use Rattle.rx_units.specs.Units.{literal_units, offset_at}
use Rattle.rx_model.specs.declared.form.Form.{Form}
use Rattle.rx_model.specs.declared.form.Form.TheVariants.{Literal, Constructor}
use Rattle.rx_model.specs.declared.mode.Mode.{Mode}
use Rattle.rx_model.specs.Inputs.Environment.{is_unicode}
use Rattle.rx_model.specs.Inputs.Inputs.{Asks, AsksFor, Input}
use Rattle.rx_model.specs.Inputs.Texts.{AreUnits, first_offset, is_quote, literal_text, of_literal, of_quoted, quoted_text, some_units, stand_in}
use Rattle.rx_model.proofs.Inputs.Asked.{one_mode, one_text, some_are_own, some_literal}
use Rattle.rx_place_laws.specs.Between.{AreAscii, HasUnitsBefore, IsBetweenCharacters}
use Rattle.rx_place_laws.specs.Texts as texts
use Rattle.rx_place_laws.specs.Texts.{IsTextOf, StandBetweenCharacters, empty_text}
use Rattle.rx_place_laws.proofs.Offsets.{at_offset, between, literal_ends, literal_offset, quoted_offset}
use Rattle.rx_place_laws.proofs.Utf16.{counted, counted_as_ascii, empty_is_ascii}

-- The offsets of the units of a text stand between characters of it.
pub units_offset : (standard joined : Bool) (text : List ℕ) (form : Form) (us : List CodePoint) (added place : ℕ) → AreUnits standard joined text form us
    → IsBetweenCharacters text added (offset_at (first_offset form) us place + added)
units_offset standard joined text _ _ added place of_literal = literal_offset text added joined place
units_offset standard joined text _ us added place (of_quoted d) = quoted_offset text added standard joined us place d

-- those of `(?:)` after a quote
group_offset : (added place : ℕ) → IsBetweenCharacters (empty_text Constructor) added (offset_at 1 (some_units []) place + added)
group_offset added place =
    let text = empty_text Constructor in
    at_offset (λ n. IsBetweenCharacters text added (n + added)) 1 (some_units []) place (between text (34 ∷ []) (40 ∷ 63 ∷ 58 ∷ 41 ∷ 34 ∷ []) added (1 + added) refl refl)
    (literal_ends text added true (34 ∷ []) (40 ∷ 63 ∷ 58 ∷ 41 ∷ []) (34 ∷ []) 1 refl refl)

-- Two equal quotes are decoded to no units.
no_text_units : (standard joined : Bool) → text_units (plain_options standard joined) [] ≡ []
no_text_units true true = refl
no_text_units true false = refl
no_text_units false joined = refl

between_quotes : (standard joined : Bool) (l : QuotedLiteral) → Decodes standard joined (quote_of l ∷ quote_of l ∷ []) []
between_quotes standard joined l =
    record {
      literal = l;
      decoded = record {
        last = place_after_opening (plain_options standard joined) (quote_of l ∷ []);
        reached = record { inner = quote_of l ∷ []; opens = refl; leads = no_element };
        closes = refl;
        units_are = sym (no_text_units standard joined);
      };
    }

one_quote : (c : ℕ) → is_quote c ≡ (c == 34 || (c == 39 || c == 96))
one_quote c = grind (arith, nat_tests)

two_quotes : (standard joined : Bool) (c d : ℕ) → (is_quote c && c == d) ≡ true → Decodes standard joined (c ∷ d ∷ []) []
two_quotes standard joined c d h =
    let both = and_parts (is_quote c) (c == d) h in
    let same : c ≡ d = eqb-true c d both.1 in
    let alike : (l : QuotedLiteral) → (c == quote_of l) ≡ true → Decodes standard joined (c ∷ d ∷ []) [] = λ l e.
    let is : c ≡ quote_of l = eqb-true c (quote_of l) e in
    let pair : quote_of l ∷ quote_of l ∷ [] ≡ c ∷ d ∷ [] = cc in
    subst (λ text. Decodes standard joined text []) pair (between_quotes standard joined l) in
    elim (or_cases (c == 34) (c == 39 || c == 96) (sym (one_quote c) ∙ both.0)) [
      | inl e ↦ alike (literals.String quotes.Double) e
      | inr e ↦ elim (or_cases (c == 39) (c == 96) e) [ inl f ↦ alike (literals.String quotes.Single) f | inr f ↦ alike literals.Template f ]
    ]

-- what a quoted text is read as: itself, or where it is two equal quotes `"(?:)"`
quoted_as : (standard joined : Bool) (text : List ℕ) → (quoted_text text ≡ text) ⊎ ((quoted_text text ≡ empty_text Constructor) × Decodes standard joined text [])
quoted_as standard joined [] = inl refl
quoted_as standard joined (c ∷ []) = inl refl
quoted_as standard joined (c ∷ d ∷ []) = by (is_quote c && c == d) refl
  where
    by : (b : Bool) → (is_quote c && c == d) ≡ b
        → ((if b then empty_text Constructor else c ∷ d ∷ []) ≡ c ∷ d ∷ []) ⊎ (((if b then empty_text Constructor else c ∷ d ∷ []) ≡ empty_text Constructor) × Decodes standard joined (c ∷ d ∷ []) [])
    by true h = inr (refl, two_quotes standard joined c d h)
    by false h = inl refl
quoted_as standard joined (c ∷ d ∷ e ∷ rest) = inl refl

module _ (standard joined : Bool) (added : ℕ) where
  -- a text, or what stands in for it where it has no units
  data Stands (form : Form) (text : List ℕ) : List ℕ → Type 0 where
    itself : (AreUnits standard joined text form [] → ⊥) → Stands form text text
    instead : AreUnits standard joined text form [] → Stands form text (empty_text form)

  -- the offsets of some units stand between characters of it
  record Told (form : Form) (text : List ℕ) (us : List CodePoint) : Type 0 where
    told : List ℕ
    stands : Stands form text told
    each : (place : ℕ) → IsBetweenCharacters told added (offset_at (first_offset form) us place + added)

  told_literal : (text : List ℕ) → Told Literal text (literal_units joined 0 (literal_text text))
  told_literal [] = record { told = empty_text Literal; stands = instead of_literal; each = λ place. literal_offset (empty_text Literal) added joined place }
  told_literal (c ∷ cs) =
      record {
        told = c ∷ cs;
        stands = itself (λ none. some_literal joined (c ∷ cs) (one_text standard joined (c ∷ cs) Literal _ [] of_literal none));
        each = λ place. literal_offset (c ∷ cs) added joined place;
      }

  told_own : (text : List ℕ) (own : List CodePoint) → AreUnits standard joined text Constructor own → Told Constructor text (some_units own)
  told_own text [] are = record { told = empty_text Constructor; stands = instead are; each = λ place. group_offset added place }
  told_own text (u ∷ us) are =
      record {
        told = text;
        stands = itself (λ none. let no = one_text standard joined text Constructor (u ∷ us) [] are none in let k : ⊥ = cc no in k);
        each = λ place. units_offset standard joined text Constructor (u ∷ us) added place are;
      }

  told_group : (text : List ℕ) (own : List CodePoint) → Decodes standard joined text [] → AreUnits standard joined (empty_text Constructor) Constructor own → Told Constructor text (some_units own)
  told_group text [] none are = record { told = empty_text Constructor; stands = instead (of_quoted none); each = λ place. group_offset added place }
  told_group text (u ∷ us) none are =
      record { told = empty_text Constructor; stands = instead (of_quoted none); each = λ place. units_offset standard joined (empty_text Constructor) Constructor (u ∷ us) added place are }

  told_in : (form : Form) (text : List ℕ) (own : List CodePoint) → AreUnits standard joined (stand_in form text) form own → Told form text (some_units own)
  told_in Literal text own are =
      let is : literal_units joined 0 (literal_text text) ≡ own = one_text standard joined (literal_text text) Literal _ own of_literal are in
      subst (Told Literal text) (some_are_own (literal_units joined 0 (literal_text text)) (some_literal joined text) ∙ ap some_units is) (told_literal text)
  told_in Constructor text own are =
      elim (quoted_as standard joined text) [
        | inl e ↦ told_own text own (subst (λ t. AreUnits standard joined t Constructor own) e are)
        | inr e ↦ told_group text own e.1 (subst (λ t. AreUnits standard joined t Constructor own) e.0 are)
      ]

-- the text of an input
module _ (input : Input) where
  text_of : (mode : Mode) (text : List ℕ) → AsksFor input mode → Stands input.standard_strings (is_unicode mode) input.text_offset input.form input.text text → IsTextOf input text
  text_of mode _ asks (itself none) = texts.own asks none
  text_of mode _ asks (instead none) = texts.stand_in asks none

  -- The offsets of the units that an input asks to read stand between characters of its text, or of what stands in for it.
  pub asked_offsets : (mode : Mode) (us : List CodePoint) → Asks input mode us
      → (text : List ℕ) × IsTextOf input text × ((place : ℕ) → IsBetweenCharacters text input.text_offset (offset_at (first_offset input.form) us place + input.text_offset))
  asked_offsets mode us asked =
      let it = told_in input.standard_strings (is_unicode mode) input.text_offset input.form input.text asked.own asked.own_are in
      let each : (place : ℕ) → IsBetweenCharacters it.told input.text_offset (offset_at (first_offset input.form) us place + input.text_offset) =
      subst (λ us. (place : ℕ) → IsBetweenCharacters it.told input.text_offset (offset_at (first_offset input.form) us place + input.text_offset)) (sym asked.units_are) it.each in
      (it.told, text_of mode it.told asked.mode_asked it.stands, each)

  -- The same in UTF-16, where its own text is counted in itself, or is ASCII.
  counted_in : (text : List ℕ) (place : ℕ) → IsTextOf input text → (text ≡ input.text) ⊎ AreAscii input.text → IsBetweenCharacters text input.text_offset place
      → HasUnitsBefore input.text text input.text_offset place
  counted_in text place is (inl e) it = subst (λ own. HasUnitsBefore own text input.text_offset place) e (counted text input.text_offset place it)
  counted_in _ place (texts.own asks none) (inr h) it = counted input.text input.text_offset place it
  counted_in _ place (texts.stand_in asks none) (inr h) it = counted_as_ascii (empty_text input.form) input.text_offset place it input.text h (empty_is_ascii input.form)

  -- So do places that are all such offsets.
  pub stand_between : (HoldOf : (ℕ → Type 0) → Type 0) (mode : Mode) (us : List CodePoint) → Asks input mode us
      → ((P : ℕ → Type 0) → ((place : ℕ) → P (offset_at (first_offset input.form) us place + input.text_offset)) → P input.text_offset → HoldOf P) → StandBetweenCharacters input HoldOf
  stand_between HoldOf mode us asked hold =
      let it = asked_offsets mode us asked in
      let start : IsBetweenCharacters it.0 input.text_offset input.text_offset = between it.0 [] it.0 input.text_offset input.text_offset refl (omega arith) in
      record {
        text = it.0;
        text_is = it.1;
        between = hold (IsBetweenCharacters it.0 input.text_offset) it.2 start;
        units = λ alike. hold (HasUnitsBefore input.text it.0 input.text_offset) (λ place. counted_in it.0 _ it.1 alike (it.2 place)) (counted_in it.0 input.text_offset it.1 alike start);
      }

  -- There is one such text.
  not_both : (m n : Mode) → AsksFor input m → AsksFor input n → (AreUnits input.standard_strings (is_unicode m) input.text input.form [] → ⊥) → AreUnits input.standard_strings (is_unicode n) input.text input.form [] → ⊥
  not_both m n a b none are = none (subst (λ mode. AreUnits input.standard_strings (is_unicode mode) input.text input.form []) (sym (one_mode input m n a b)) are)

  pub one_text_of : (text other : List ℕ) → IsTextOf input text → IsTextOf input other → text ≡ other
  one_text_of _ _ (texts.own a none) (texts.own b none_too) = refl
  one_text_of _ _ (texts.own {mode = m} a none) (texts.stand_in {mode = n} b are) = absurd (not_both m n a b none are)
  one_text_of _ _ (texts.stand_in {mode = n} b are) (texts.own {mode = m} a none) = absurd (not_both m n a b none are)
  one_text_of _ _ (texts.stand_in a none) (texts.stand_in b none_too) = refl
