-- At most one refusal is the first of an input, and none of a valid one.
use Rattle.std.proofs.Common.{◌≡◌, refl, ap, sym, ◌∙◌, subst, ℕ, Bool, true, false, List, Option, Some}
use Rattle.rx_base.specs.declared.diagnostic.Diagnostic.{Diagnostic}
use Rattle.rx_base.specs.declared.diagnostic.Diagnostic.TheVariants.{InvalidInput}
use Rattle.rx_units.specs.declared.code_point.CodePoint.{CodePoint}
use Rattle.rx_units.specs.Units.{values}
use Rattle.rx_model.specs.declared.form.Form.{Form}
use Rattle.rx_model.specs.declared.mode.Mode.{Mode}
use Rattle.rx_model.specs.Inputs.Environment.{is_unicode}
use Rattle.rx_model.specs.Inputs.Flags.{flags_ok}
use Rattle.rx_model.specs.Inputs.Inputs.{Asks, AsksFor, Input}
use Rattle.rx_model.specs.Inputs.Texts.{AreFlagUnits, AreUnits, HasNoUnits, first_offset, no_flags, some_flags, stand_in}
use Rattle.rx_model.specs.Reading.Headline.{IsFirstRefusal, IsValid, no_flags_text, no_text, of_flags, of_text, whole_span}
use Rattle.rx_model.specs.Reading.Reading.{Reads}
use Rattle.rx_model.specs.Refusals.Causes as cause
use Rattle.rx_model.specs.Refusals.Causes.{IsCause}
use Rattle.rx_model.specs.Refusals.FlagCauses.{IsFlagCause}
use Rattle.rx_model.specs.Refusals.Firsts.{IsFirst, of_groups, of_places}
use Rattle.rx_model.specs.declared.rules.Rules.{Rules}
use Rattle.rx_model.proofs.Inputs.Asked.{one_asked, one_flags, one_mode}
use Rattle.rx_model.proofs.Refusals.FlagCauses.{cause_refuses, one_cause}
use Rattle.rx_model.proofs.Refusals.OneCause.{one_first}
use Rattle.rx_model.proofs.Refusals.Refusals.{class_laws, refused}

-- flags that have units are no text that has none
unread_text : (standard : Bool) (form : Form) (flags : Option (List ℕ)) (us : List CodePoint) → AreFlagUnits standard form flags us → (text : List ℕ) → flags ≡ Some text
    → HasNoUnits standard true text form → ⊥
unread_text standard form _ _ no_flags text e none = absurd (let no : ⊥ = cc e in no)
unread_text standard form _ us (some_flags {text = spelled} a) text e none = let same : spelled ≡ text = cc e in none us (subst (λ it. AreUnits standard true it form us) same a)

pub first_is_cause : (mode : Mode) (rules : Rules) (us : List CodePoint) (start added : ℕ) (d : Diagnostic) → IsFirst mode rules us start added d → IsCause mode rules us start added d
first_is_cause mode rules us start added d (of_groups c other) = c
first_is_cause mode rules us start added d (of_places none few k) = cause.at_place k.place none few k.holds

module _ (input : Input) where
  abbrev start : ℕ
  start = first_offset input.form

  abbrev standard : Bool
  standard = input.standard_strings

  unread : {text : List ℕ} {flags : List CodePoint} → input.flags ≡ Some text → HasNoUnits standard true text input.form → AreFlagUnits standard input.form input.flags flags → ⊥
  unread {text} {flags} is none are = unread_text standard input.form input.flags flags are text is none

  -- flags that are refused are not right
  not_right : {flags : List CodePoint} {d : Diagnostic} {mode : Mode} → AreFlagUnits standard input.form input.flags flags → IsFlagCause flags start input.flags_offset d → AsksFor input mode → ⊥
  not_right {flags} {d} are c asks =
      let same = one_flags standard input.form input.flags flags asks.flags are asks.flags_are in
      let no : false ≡ true = sym (cause_refuses flags start input.flags_offset d c) ∙ ap (λ us. flags_ok (values us)) same ∙ asks.are_right in
      cc no

  -- a text that has no units asks for none
  no_units : {m n : Mode} {us : List CodePoint} → AsksFor input m → HasNoUnits standard (is_unicode m) (stand_in input.form input.text) input.form → Asks input n us → ⊥
  no_units {m} {n} {us} asks none asked =
      let same = one_mode input n m asked.mode_asked asks in
      none asked.own (subst (λ mode. AreUnits standard (is_unicode mode) (stand_in input.form input.text) input.form asked.own) same asked.own_are)

  pub one_refusal : (d e : Diagnostic) → IsFirstRefusal input d → IsFirstRefusal input e → d ≡ e
  one_refusal _ _ (no_flags_text {text} is none) (no_flags_text {text = other} is_too none_too) =
      let both : Some text ≡ Some other = sym is ∙ is_too in
      let same : text ≡ other = cc both in
      ap (λ it. InvalidInput (whole_span it input.flags_offset)) same
  one_refusal _ _ (no_flags_text is none) (of_flags are k) = absurd (unread is none are)
  one_refusal _ _ (no_flags_text is none) (no_text asks none_too) = absurd (unread is none asks.flags_are)
  one_refusal _ _ (no_flags_text is none) (of_text asked g) = absurd (unread is none asked.mode_asked.flags_are)
  one_refusal _ _ (of_flags are c) (no_flags_text is none) = absurd (unread is none are)
  one_refusal d e (of_flags {flags} are c) (of_flags {flags = others} are_too k) =
      let same = one_flags standard input.form input.flags others flags are_too are in
      one_cause flags start input.flags_offset d e c (subst (λ us. IsFlagCause us start input.flags_offset e) same k)
  one_refusal _ _ (of_flags are c) (no_text asks none) = absurd (not_right are c asks)
  one_refusal _ _ (of_flags are c) (of_text asked g) = absurd (not_right are c asked.mode_asked)
  one_refusal _ _ (no_text asks none) (no_flags_text is none_too) = absurd (unread is none_too asks.flags_are)
  one_refusal _ _ (no_text asks none) (of_flags are k) = absurd (not_right are k asks)
  one_refusal _ _ (no_text asks none) (no_text asks_too none_too) = refl
  one_refusal _ _ (no_text asks none) (of_text asked g) = absurd (no_units asks none asked)
  one_refusal _ _ (of_text asked f) (no_flags_text is none) = absurd (unread is none asked.mode_asked.flags_are)
  one_refusal _ _ (of_text asked f) (of_flags are k) = absurd (not_right are k asked.mode_asked)
  one_refusal _ _ (of_text asked f) (no_text asks none) = absurd (no_units asks none asked)
  one_refusal d e (of_text {mode} {us} asked f) (of_text {mode = other} {us = vs} asked_too g) =
      let same = one_asked input other mode vs us asked_too asked in
      let added = input.text_offset in
      one_first mode input.rules us start added (class_laws mode input.rules us start added) d e f (subst (λ m. IsFirst m input.rules us start added e) same.0 (subst (λ it. IsFirst other input.rules it start added e) same.1 g))

  pub none_of_valid : (d : Diagnostic) → IsFirstRefusal input d → IsValid input → ⊥
  none_of_valid _ (no_flags_text is none) v = unread is none v.asked.mode_asked.flags_are
  none_of_valid _ (of_flags are c) v = not_right are c v.asked.mode_asked
  none_of_valid _ (no_text asks none) v = no_units asks none v.asked
  none_of_valid d (of_text {mode} {us} asked f) v =
      let same = one_asked input v.mode mode v.units us v.asked asked in
      let added = input.text_offset in
      refused mode input.rules us start added (class_laws mode input.rules us start added) d (first_is_cause mode input.rules us start added d f) v.pattern
      (subst (λ m. Reads m input.rules v.pattern us) same.0 (subst (λ it. Reads v.mode input.rules v.pattern it) same.1 v.reads))
