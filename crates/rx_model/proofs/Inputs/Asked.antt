-- An input asks to read at most one list of units, in one mode, and some units.
use Rattle.std.proofs.Common.{◌≡◌, ◌≢◌, refl, ap, sym, ◌∙◌, subst, ℕ, ◌+◌, Bool, true, false, cond, ◌||◌, List, [], ◌∷◌, ◌++◌, Option}
use Rattle.std.specs.Prelude.{nat_lt}
use Rattle.std.specs.Char.{len_utf8}
use Rattle.rx_units.specs.declared.code_point.CodePoint.{CodePoint}
use Rattle.rx_units.specs.declared.code_point.EscapeKind.TheVariants as escape_kind
use Rattle.rx_units.specs.Units.{lead_of, literal_units, trail_of, unit, values}
use Rattle.rx_units.proofs.Sources.{one_decodes}
use Rattle.rx_model.specs.declared.form.Form.{Form}
use Rattle.rx_model.specs.declared.form.Form.TheVariants.{Literal}
use Rattle.rx_model.specs.declared.mode.Mode.{Mode}
use Rattle.rx_model.specs.declared.mode.Mode.TheVariants.{Legacy, Unicode, Sets}
use Rattle.rx_model.specs.Inputs.Environment.{is_unicode}
use Rattle.rx_model.specs.Inputs.Flags.{mode_of}
use Rattle.rx_model.specs.declared.rules.Rules.{Rules}
use Rattle.rx_model.specs.Inputs.Inputs.{Asks, AsksFor, Input, flags_for, literal_alone}
use Rattle.rx_model.specs.Inputs.Texts.{AreFlagUnits, AreUnits, literal_text, no_flags, of_literal, of_quoted, some_flags, some_units, stand_in}

pub one_text : (standard joined : Bool) (text : List ℕ) (form : Form) (us vs : List CodePoint) → AreUnits standard joined text form us → AreUnits standard joined text form vs → us ≡ vs
one_text standard joined text _ _ _ of_literal of_literal = refl
one_text standard joined text _ us vs (of_quoted d) (of_quoted e) = one_decodes d e

pub literal_has_units : (standard joined : Bool) (text : List ℕ) → (us : List CodePoint) × AreUnits standard joined text Literal us
literal_has_units standard joined text = (literal_units joined 0 text, of_literal)

pub one_flags : (standard : Bool) (form : Form) (flags : Option (List ℕ)) (us vs : List CodePoint) → AreFlagUnits standard form flags us → AreFlagUnits standard form flags vs → us ≡ vs
one_flags standard form _ _ _ no_flags no_flags = refl
one_flags standard form _ us vs (some_flags {text} a) (some_flags b) = one_text standard true text form us vs a b

pub one_mode : (input : Input) (m n : Mode) → AsksFor input m → AsksFor input n → m ≡ n
one_mode input m n a b =
    let flags = one_flags input.standard_strings input.form input.flags a.flags b.flags a.flags_are b.flags_are in
    a.mode_is ∙ ap (λ flags. mode_of (values flags)) flags ∙ sym b.mode_is

pub one_asked : (input : Input) (m n : Mode) (us vs : List CodePoint) → Asks input m us → Asks input n vs → (m ≡ n) × (us ≡ vs)
one_asked input m n us vs a b =
    let mode = one_mode input m n a.mode_asked b.mode_asked in
    let standard = input.standard_strings in
    let text = stand_in input.form input.text in
    let own = one_text standard (is_unicode n) text input.form a.own b.own (subst (λ k. AreUnits standard (is_unicode k) text input.form a.own) mode a.own_are) b.own_are in
    (mode, a.units_are ∙ ap some_units own ∙ sym b.units_are)

-- No input asks to read no units.
some_are_some : (own : List CodePoint) → some_units own ≢ []
some_are_some [] h = let no : ⊥ = cc h in no
some_are_some (u ∷ us) h = let no : ⊥ = cc h in no

pub asked_some : (input : Input) (mode : Mode) (us : List CodePoint) → Asks input mode us → us ≢ []
asked_some input mode us asked none = some_are_some asked.own (sym asked.units_are ∙ none)

-- Units that are some are read themselves.
pub some_are_own : (own : List CodePoint) → own ≢ [] → own ≡ some_units own
some_are_own [] some = absurd (some refl)
some_are_own (u ∷ us) some = refl

-- A literal is never read from no units.
literal_is_some : (joined : Bool) (at c : ℕ) (cs : List ℕ) → literal_units joined at (c ∷ cs) ≢ []
literal_is_some joined at c cs =
    let end : ℕ = at + len_utf8 c in
    let alone : CodePoint = unit at end c escape_kind.None in
    let lead : CodePoint = unit at end (lead_of c) escape_kind.None in
    let trail : CodePoint = unit at end (trail_of c) escape_kind.None in
    elim (joined || nat_lt c 0x10000) as (λ b. cond b (alone ∷ []) (lead ∷ trail ∷ []) ++ literal_units joined end cs ≢ []) [
      | true ↦ (λ h. let no : ⊥ = cc h in no)
      | false ↦ (λ h. let no : ⊥ = cc h in no)
    ]

pub some_literal : (joined : Bool) (text : List ℕ) → literal_units joined 0 (literal_text text) ≢ []
some_literal joined [] = literal_is_some joined 0 40 (63 ∷ 58 ∷ 41 ∷ [])
some_literal joined (c ∷ cs) = literal_is_some joined 0 c cs

-- A literal asks for the units of its text.
pub literal_asks : (input : Input) (mode : Mode) → input.form ≡ Literal → AsksFor input mode → Asks input mode (literal_units (is_unicode mode) 0 (literal_text input.text))
literal_asks input mode literal asks =
    let own = literal_units (is_unicode mode) 0 (literal_text input.text) in
    record {
      mode_asked = asks;
      own = own;
      own_are = subst (λ form. AreUnits input.standard_strings (is_unicode mode) (stand_in form input.text) form own) (sym literal) of_literal;
      units_are = some_are_own own (some_literal (is_unicode mode) input.text);
    }

-- A text that is read by itself asks for its mode, and for its units.
alone_asks_for : (text : List ℕ) (mode : Mode) (rules : Rules) (standard : Bool) → AsksFor (literal_alone text mode rules standard) mode
alone_asks_for text Legacy rules standard = record { flags = literal_units true 0 (flags_for Legacy); flags_are = some_flags of_literal; are_right = refl; mode_is = refl }
alone_asks_for text Unicode rules standard = record { flags = literal_units true 0 (flags_for Unicode); flags_are = some_flags of_literal; are_right = refl; mode_is = refl }
alone_asks_for text Sets rules standard = record { flags = literal_units true 0 (flags_for Sets); flags_are = some_flags of_literal; are_right = refl; mode_is = refl }

pub alone_asks : (text : List ℕ) (mode : Mode) (rules : Rules) (standard : Bool) → Asks (literal_alone text mode rules standard) mode (literal_units (is_unicode mode) 0 (literal_text text))
alone_asks text mode rules standard = literal_asks (literal_alone text mode rules standard) mode refl (alone_asks_for text mode rules standard)
