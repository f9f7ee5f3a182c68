-- What stands in for an empty text, and that it is read.
use Rattle.std.proofs.Common.{◌≡◌, refl, ap, sym, ◌∙◌, subst, ℕ, Bool, true, false, ◌==◌, ◌&&◌, ◌||◌, ◌⊎◌, inl, inr, List, [], ◌∷◌, None, arith, drop, if◌then◌else◌}
use Rattle.std.specs.Str.{chars, IsUtf8}
use Rattle.std.proofs.lemmas.Bool.{and_parts, eqb-true, or_cases}
use Rattle.rx_parser.proofs.Common.{nat_tests, CodePoint, Form, AreUnits, HasNoUnits, is_quote, literal_text, of_literal, of_quoted, quoted_text, some_units, stand_in, encodes-chars, Decodes, plain_options, one_decodes}
use lib.Utf8.{encode, encodes}
use Rattle.rx_units.specs.declared.options.Options.{Options}
use Rattle.rx_units.specs.declared.quoted_text.element.Writing.TheVariants.{Plain}
use Rattle.rx_units.specs.declared.quoted_text.literal.Literal.{Literal}
use Rattle.rx_units.specs.declared.quoted_text.literal.Literal.TheVariants as literals
use Rattle.rx_units.specs.declared.string_literal_parser.StringLiteralKind.TheVariants as quotes
use Rattle.rx_units.specs.Quoted.Elements.{character, is_string_character, written}
use Rattle.rx_units.specs.Quoted.Texts.{next_place, place_after_opening, IsDecoded, Leads, Place, no_element, one_more}
use Rattle.rx_units.specs.Quoted.Values.{text_units}
use Rattle.rx_units.specs.Cursor.{Cursor, front, rest}
use Rattle.rx_model.specs.declared.form.Form.TheVariants.{Literal as of_slashes, Constructor}
use Rattle.rx_model.proofs.Inputs.Asked.{some_literal}

-- in double quotes
abbrev pub string : Literal
string = literals.String quotes.Double

module _ (o : Options) (from : Place) where
  -- one more character that stands for itself
  pub character_more : (p : Place) (c : ℕ) (rest : List ℕ) → Leads string o from p → p.rest ≡ c ∷ rest → is_string_character 34 c ≡ true
      → Leads string o from (next_place o p (written c Plain) (c ∷ []) rest)
  character_more p c rest leads stands is = one_more (written c Plain) (c ∷ []) rest leads stands (character is) refl

-- `"(?:)"`
abbrev pub empty_group : List ℕ
empty_group = 34 ∷ 40 ∷ 63 ∷ 58 ∷ 41 ∷ 34 ∷ []

group_decoded : (o : Options) → (us : List CodePoint) × IsDecoded string o empty_group us
group_decoded o =
    let inner : List ℕ = 40 ∷ 63 ∷ 58 ∷ 41 ∷ 34 ∷ [] in
    let p0 = place_after_opening o inner in
    let p1 = next_place o p0 (written 40 Plain) (40 ∷ []) (63 ∷ 58 ∷ 41 ∷ 34 ∷ []) in
    let p2 = next_place o p1 (written 63 Plain) (63 ∷ []) (58 ∷ 41 ∷ 34 ∷ []) in
    let p3 = next_place o p2 (written 58 Plain) (58 ∷ []) (41 ∷ 34 ∷ []) in
    let p4 = next_place o p3 (written 41 Plain) (41 ∷ []) (34 ∷ []) in
    let one = character_more o p0 p0 40 (63 ∷ 58 ∷ 41 ∷ 34 ∷ []) no_element refl refl in
    let two = character_more o p0 p1 63 (58 ∷ 41 ∷ 34 ∷ []) one refl refl in
    let three = character_more o p0 p2 58 (41 ∷ 34 ∷ []) two refl refl in
    let four = character_more o p0 p3 41 (34 ∷ []) three refl refl in
    (text_units o p4.units, record { last = p4; reached = record { inner = inner; opens = refl; leads = four }; closes = refl; units_are = refl })

-- what stands in where a test holds
either_of : (b : Bool) (text other : List ℕ) → ((if b then other else text) ≡ text) ⊎ ((if b then other else text) ≡ other)
either_of true text other = inr refl
either_of false text other = inl refl

either : (text : List ℕ) → (quoted_text text ≡ text) ⊎ (quoted_text text ≡ empty_group)
either [] = inl refl
either (c ∷ []) = inl refl
either (c ∷ d ∷ []) = either_of (is_quote c && c == d) (c ∷ d ∷ []) empty_group
either (c ∷ d ∷ e ∷ rest) = inl refl

group_decodes : (standard joined : Bool) → Decodes standard joined empty_group (group_decoded (plain_options standard joined)).0
group_decodes standard joined = record { literal = string; decoded = (group_decoded (plain_options standard joined)).1 }

-- for a text that is not read nothing stands in
pub none_stands_in : (standard joined : Bool) (form : Form) (text : List ℕ) → HasNoUnits standard joined (stand_in form text) form → stand_in form text ≡ text
none_stands_in standard joined of_slashes text none = absurd (none _ of_literal)
none_stands_in standard joined Constructor text none = elim (either text) [
  | inl e ↦ e
  | inr e ↦ absurd (none _ (of_quoted (subst (λ t. Decodes standard joined t (group_decoded (plain_options standard joined)).0) (sym e) (group_decodes standard joined))))
]

-- It is decoded to the units of `(?:)` after a quote,
group_units : (standard joined : Bool) → (group_decoded (plain_options standard joined)).0 ≡ some_units []
unfolding group_decoded
group_units true true = refl
group_units true false = refl
group_units false true = refl
group_units false false = refl

pub group_read : (standard joined : Bool) (us : List CodePoint) → Decodes standard joined (chars empty_group) us → us ≡ some_units []
unfolding chars
group_read standard joined us d = one_decodes d (group_decodes standard joined) ∙ group_units standard joined

-- which a text in quotes alone may be read from.
pub none_quoted : (standard joined : Bool) (form : Form) (text : List ℕ) (us : List CodePoint) → AreUnits standard joined (stand_in form text) form us → us ≡ [] → form ≡ Constructor
none_quoted standard joined of_slashes text _ of_literal e = absurd (some_literal joined text e)
none_quoted standard joined Constructor text us units e = refl

-- A reader at its start that sees nothing has no units.
none_in_front : (us : List CodePoint) → front us ≡ None → us ≡ []
none_in_front [] e = refl
none_in_front (u ∷ us) e = absurd (let no : ⊥ = cc e in no)

pub none_left : (r : Cursor) → r.place ≡ 0 → front (rest r) ≡ None → r.units ≡ []
none_left r start left = none_in_front r.units (ap (λ n. front (drop n r.units)) (sym start) ∙ left)

-- The characters of a text that is empty, and of one that is not:
own_literal : (cs : List ℕ) → (cs ≡ [] → ⊥) → cs ≡ literal_text cs
own_literal [] some = absurd (some refl)
own_literal (c ∷ cs) some = refl

pub literal_stands : (bytes : List ℕ) → IsUtf8 bytes → (bytes ≡ [] → ⊥) → chars bytes ≡ literal_text (chars bytes)
literal_stands bytes utf8 some = own_literal (chars bytes) (λ e. some (sym (encodes-chars bytes utf8) ∙ ap encodes e))

pub empty_literal : (bytes : List ℕ) → bytes ≡ [] → chars (40 ∷ 63 ∷ 58 ∷ 41 ∷ []) ≡ literal_text (chars bytes)
unfolding chars
empty_literal bytes e = subst (λ b. chars (40 ∷ 63 ∷ 58 ∷ 41 ∷ []) ≡ literal_text (chars b)) (sym e) refl

-- the same of a text in quotes
abbrev pub AreQuotes : List ℕ → Type 0
AreQuotes text = (text ≡ 34 ∷ 34 ∷ []) ⊎ ((text ≡ 39 ∷ 39 ∷ []) ⊎ (text ≡ 96 ∷ 96 ∷ []))

one_quote : (c : ℕ) → is_quote c ≡ (c == 34 || (c == 39 || c == 96))
one_quote c = grind (arith, nat_tests)

two_quotes : (c d : ℕ) → (is_quote c && c == d) ≡ true → AreQuotes (c ∷ d ∷ [])
two_quotes c d h =
    let both = and_parts (is_quote c) (c == d) h in
    let same : c ≡ d = eqb-true c d both.1 in
    let alike : (q : ℕ) → (c == q) ≡ true → c ∷ d ∷ [] ≡ q ∷ q ∷ [] = λ q e. let is : c ≡ q = eqb-true c q e in cc in
    elim (or_cases (c == 34) (c == 39 || c == 96) (sym (one_quote c) ∙ both.0)) [
      | inl e ↦ inl (alike 34 e)
      | inr e ↦ inr (elim (or_cases (c == 39) (c == 96) e) [ inl e ↦ inl (alike 39 e) | inr e ↦ inr (alike 96 e) ])
    ]

some_quoted : (cs : List ℕ) → (AreQuotes cs → ⊥) → cs ≡ quoted_text cs
some_quoted [] some = refl
some_quoted (c ∷ []) some = refl
some_quoted (c ∷ d ∷ []) some = by (is_quote c && c == d) refl
  where
    by : (b : Bool) → (is_quote c && c == d) ≡ b → c ∷ d ∷ [] ≡ (if b then empty_group else c ∷ d ∷ [])
    by true h = absurd (some (two_quotes c d h))
    by false h = refl
some_quoted (c ∷ d ∷ e ∷ rest) some = refl

pub quoted_stands : (bytes : List ℕ) → IsUtf8 bytes → (bytes ≡ 34 ∷ 34 ∷ [] → ⊥) → (bytes ≡ 39 ∷ 39 ∷ [] → ⊥) → (bytes ≡ 96 ∷ 96 ∷ [] → ⊥) → chars bytes ≡ quoted_text (chars bytes)
unfolding encode
quoted_stands bytes utf8 double single grave =
    let own : (text : List ℕ) → chars bytes ≡ text → bytes ≡ encodes text = λ text e. sym (encodes-chars bytes utf8) ∙ ap encodes e in
    some_quoted (chars bytes) (λ quotes. elim quotes [
      | inl e ↦ double (own (34 ∷ 34 ∷ []) e)
      | inr more ↦ elim more [ inl e ↦ single (own (39 ∷ 39 ∷ []) e) | inr e ↦ grave (own (96 ∷ 96 ∷ []) e) ]
    ])

pub empty_quoted : (bytes : List ℕ) → AreQuotes bytes → chars empty_group ≡ quoted_text (chars bytes)
unfolding chars
empty_quoted bytes quotes =
    let P : List ℕ → Type 0 = λ b. chars empty_group ≡ quoted_text (chars b) in
    elim quotes [
      | inl e ↦ subst P (sym e) refl
      | inr more ↦ elim more [ inl e ↦ subst P (sym e) refl | inr e ↦ subst P (sym e) refl ]
    ]
