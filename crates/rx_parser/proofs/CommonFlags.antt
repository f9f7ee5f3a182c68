-- Flags texts that ask for a mode and for nothing else.
use Rattle.std.proofs.Common.{◌≡◌, refl, sym, subst, ap, ◌∙◌, ℕ, ◌<◌, nat_lt, Bool, true, false, List, [], ◌∷◌, Some, codes}
use Rattle.std.proofs.lemmas.Bool.{ltb-true}
use Rattle.std.proofs.lemmas.List.Elements.{All-weaker}
use Rattle.std.proofs.lemmas.List.Sums.{AllPass-from_list_all}
use Rattle.std.proofs.lemmas.Str.Ascii.{IsAscii-from_all}
use Rattle.std.proofs.lemmas.Str.{chars-IsAscii}
use Rattle.std.specs.List.{list_all}
use Rattle.std.specs.Str.{chars}
use Rattle.rx_parser.proofs.Common.{AreUnits, AsksFor, CodePoint, Constructor, Form, Input, Legacy, Literal, Mode, Sets, Unicode, flags_ok, literal_units, mode_of, of_literal, of_quoted, plain_options, some_flags, values, AreFlagUnits, Decodes}
use Rattle.rx_parser.proofs.StandIns.{character_more, string}
use Rattle.rx_parser.specs.Inputs.{common_flags}
use Rattle.rx_units.specs.Quoted.Elements.{is_string_character, written}
use Rattle.rx_units.specs.Quoted.Texts.{next_place, no_element, place_after_opening}
use Rattle.rx_units.specs.Quoted.Values.{text_units}
use Rattle.rx_units.specs.declared.quoted_text.element.Writing.TheVariants as writing

-- the characters of a text of ASCII
pub own_characters : (bytes text : List ℕ) → bytes ≡ text → list_all (λ b. nat_lt b 128) text ≡ true → chars bytes ≡ text
own_characters bytes text is ascii =
    ap chars is ∙ chars-IsAscii text (IsAscii-from_all text (All-weaker (λ b. nat_lt b 128 ≡ true) (λ b. b < 128) (λ b. ltb-true b 128) text (AllPass-from_list_all (λ b. nat_lt b 128) text ascii)))

no_unit : (standard : Bool) → [] ≡ text_units (plain_options standard true) []
no_unit true = refl
no_unit false = refl

one_unit : (standard : Bool) (u : CodePoint) → u ∷ [] ≡ text_units (plain_options standard true) (u ∷ [])
one_unit true u = refl
one_unit false u = refl

quoted_none : (standard : Bool) → Decodes standard true (codes "\"\"") []
quoted_none standard = record {
  literal = string;
  decoded = record {
    last = place_after_opening (plain_options standard true) (codes "\"");
    reached = record { inner = codes "\""; opens = refl; leads = no_element };
    closes = refl;
    units_are = no_unit standard;
  };
}

-- a letter in double quotes
quoted_letter : (standard : Bool) (c : ℕ) → is_string_character 34 c ≡ true → (us : List CodePoint) × Decodes standard true (34 ∷ c ∷ 34 ∷ []) us × (values us ≡ c ∷ [])
quoted_letter standard c own =
    let o = plain_options standard true in
    let first = place_after_opening o (c ∷ 34 ∷ []) in
    let last = next_place o first (written c writing.Plain) (c ∷ []) (34 ∷ []) in (
      last.units,
      record {
        literal = string;
        decoded = record {
          last = last;
          reached = record { inner = c ∷ 34 ∷ []; opens = refl; leads = character_more o first first c (34 ∷ []) no_element refl own };
          closes = refl;
          units_are = one_unit standard _;
        };
      },
      refl,
    )

-- their units, and what these ask for
common_units : (standard : Bool) (form : Form) (mode : Mode) → (us : List CodePoint) × AreUnits standard true (common_flags form mode) form us × (flags_ok (values us) ≡ true) × (mode ≡ mode_of (values us))
common_units standard Literal Legacy = ([], of_literal, refl, refl)
common_units standard Literal Unicode = (literal_units true 0 (codes "u"), of_literal, refl, refl)
common_units standard Literal Sets = (literal_units true 0 (codes "v"), of_literal, refl, refl)
common_units standard Constructor Legacy = ([], of_quoted (quoted_none standard), refl, refl)
common_units standard Constructor Unicode = let it = quoted_letter standard 117 refl in (it.0, of_quoted it.1, ap flags_ok it.2, sym (ap mode_of it.2))
common_units standard Constructor Sets = let it = quoted_letter standard 118 refl in (it.0, of_quoted it.1, ap flags_ok it.2, sym (ap mode_of it.2))

-- what they ask for
pub common_asks : (input : Input) (text : List ℕ) (mode : Mode) → input.flags ≡ Some text → text ≡ common_flags input.form mode → AsksFor input mode
common_asks input text mode given common =
    let it = common_units input.standard_strings input.form mode in
    record {
      flags = it.0;
      flags_are = subst (λ flags. AreFlagUnits input.standard_strings input.form flags it.0) (ap Some (sym common) ∙ sym given) (some_flags it.1);
      are_right = it.2;
      mode_is = it.3;
    }
