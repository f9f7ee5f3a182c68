-- From what is answered to flags and to units, to what is answered to an input.
use Rattle.std.proofs.Common.{◌≡◌, refl, ap, sym, ◌∙◌, subst, ℕ, Bool, true, false, ◌||◌, ◌⊎◌, List, Some, Result, Ok, Err, IsErrAnd, inl, inr, IfErr, if◌then◌else◌}
use Rattle.rx_parser.proofs.Common.{err_from_is_err_and, Pattern, InvalidInput, Fault, CodePoint, values, Mode, Legacy, Unicode, Sets, is_unicode, mode_by, AreFlagUnits, AreUnits, HasNoUnits, first_offset, some_flags, some_units, stand_in, IsFaultOf, IsFirstRefusal, IsParsed, IsValid, no_flags_text}
use Rattle.rx_parser.proofs.Common.{no_memory, no_text, of_flags, of_text, refused, whole_span, AnswersUnits, IsRefused, flags_ok, mode_of, modes_of, Asks, AsksFor, Input, IsFlagCause}
use Rattle.rx_base.specs.Flags.{holds}
use Rattle.rx_base.specs.declared.diagnostic.Diagnostic.{Diagnostic}
use Rattle.rx_base.specs.declared.fault.Fault.TheVariants as fault
use Rattle.rx_model.proofs.Refusals.OneRefusal.{none_of_valid}
use Rattle.rx_parser.proofs.StandIns.{none_stands_in}

-- what is passed on is the fault
passed_on : {A : Type 0} (r : Result A Fault) (it : Fault) → IsErrAnd r (λ e. e ≡ it) → r ≡ Err it
passed_on r it h = let p = err_from_is_err_and r h in p.1 ∙ ap Err p.2

modes_give : (sets unicode : Bool) → mode_by (sets || unicode) sets ≡ (if sets then Sets else (if unicode then Unicode else Legacy))
modes_give true unicode = refl
modes_give false true = refl
modes_give false false = refl

-- the mode of the two truth values that flags give
pub mode_of_modes : (flags : List ℕ) (modes : Bool × Bool) → modes ≡ modes_of flags → mode_by modes.0 modes.1 ≡ mode_of flags
mode_of_modes flags modes h =
    ap (λ (p : Bool × Bool). mode_by p.0 p.1) h ∙ modes_give (holds flags 118) (holds flags 117)

module _ (input : Input) where
  -- on valid input memory is wanting
  no_other : (it : Fault) → IsFaultOf input it → IsValid input → it ≡ fault.OutOfMemory
  no_other it no_memory valid = refl
  no_other it (refused {refusal = d} h) valid = absurd (none_of_valid input d h valid)

  fault_parsed : {A : Type 0} (tree : A → Pattern) (it : Fault) → IsFaultOf input it → IsParsed tree input (Err it)
  fault_parsed tree it h = record { valid = tt; complete = no_other it h; read = tt; refused = h }

  -- a fault that is passed on
  pub passed_fault : {A : Type 0} (r : Result A Fault) (it : Fault) → IsErrAnd r (λ e. e ≡ it) → IsFaultOf input it → IfErr r (IsFaultOf input)
  passed_fault r it passed h = subst (λ r. IfErr r (IsFaultOf input)) (sym (passed_on r it passed)) h

  -- the same as the answer to the input
  pub passed_parsed : (r : Result (Pattern × Mode) Fault) (it : Fault) → IsErrAnd r (λ e. e ≡ it) → IsFaultOf input it → IsParsed (λ (p : Pattern × Mode). p.0) input r
  passed_parsed r it passed h = subst (IsParsed (λ (p : Pattern × Mode). p.0) input) (sym (passed_on r it passed)) (fault_parsed (λ (p : Pattern × Mode). p.0) it h)

  -- A text that is not decoded is refused as a whole,
  unread_fault : (it : Fault) (d : Diagnostic) (Unread : Type 0) → (Unread → IsFirstRefusal input d) → (it ≡ fault.OutOfMemory) ⊎ ((it ≡ fault.Diagnostic d) × Unread) → IsFaultOf input it
  unread_fault it d Unread says (inl e) = subst (IsFaultOf input) (sym e) no_memory
  unread_fault it d Unread says (inr h) = subst (IsFaultOf input) (sym h.0) (refused (says h.1))

  -- be it that of the flags,
  pub unread_flags : (text : List ℕ) (it : Fault) → input.flags ≡ Some text
      → (it ≡ fault.OutOfMemory) ⊎ ((it ≡ fault.Diagnostic (InvalidInput (whole_span text input.flags_offset))) × HasNoUnits input.standard_strings true text input.form) → IsFaultOf input it
  unread_flags text it given h = unread_fault it (InvalidInput (whole_span text input.flags_offset)) (HasNoUnits input.standard_strings true text input.form) (no_flags_text given) h

  -- or that of the pattern, for which nothing stood in.
  pub unread_text : (mode : Mode) (joined : Bool) (text : List ℕ) (it : Fault) → AsksFor input mode → is_unicode mode ≡ joined → text ≡ stand_in input.form input.text
      → (it ≡ fault.OutOfMemory) ⊎ ((it ≡ fault.Diagnostic (InvalidInput (whole_span text input.text_offset))) × HasNoUnits input.standard_strings joined text input.form) → IsFaultOf input it
  unread_text mode joined text it asks unicode stands h =
      unread_fault it (InvalidInput (whole_span text input.text_offset)) (HasNoUnits input.standard_strings joined text input.form) (λ none.
      let none_too : HasNoUnits input.standard_strings (is_unicode mode) (stand_in input.form input.text) input.form =
      subst (λ j. HasNoUnits input.standard_strings j (stand_in input.form input.text) input.form) (sym unicode) (subst (λ t. HasNoUnits input.standard_strings joined t input.form) stands none) in
      let own : text ≡ input.text = stands ∙ none_stands_in input.standard_strings (is_unicode mode) input.form input.text none_too in
      subst (λ t. IsFirstRefusal input (InvalidInput (whole_span t input.text_offset))) (sym own) (no_text asks none_too)) h

  -- flags that are read, and wrong
  pub wrong_flags : (text : List ℕ) (us : List CodePoint) (d : Diagnostic) → input.flags ≡ Some text → AreUnits input.standard_strings true text input.form us
      → IsFlagCause us (first_offset input.form) input.flags_offset d → IsFaultOf input (fault.Diagnostic d)
  wrong_flags text us d given units cause = refused (of_flags (subst (λ flags. AreFlagUnits input.standard_strings input.form flags us) (sym given) (some_flags units)) cause)

  -- flags that are right
  pub right_flags : (text : List ℕ) (us : List CodePoint) (modes : Bool × Bool) → input.flags ≡ Some text → AreUnits input.standard_strings true text input.form us → flags_ok (values us) ≡ true
      → modes ≡ modes_of (values us) → AsksFor input (mode_by modes.0 modes.1)
  right_flags text us modes given units right gives = record {
    flags = us;
    flags_are = subst (λ flags. AreFlagUnits input.standard_strings input.form flags us) (sym given) (some_flags units);
    are_right = right;
    mode_is = mode_of_modes (values us) modes gives;
  }

  -- the units of a text, or of what stands in for it
  pub text_asked : (mode : Mode) (joined : Bool) (text : List ℕ) (own us : List CodePoint) → AsksFor input mode → is_unicode mode ≡ joined → text ≡ stand_in input.form input.text
      → AreUnits input.standard_strings joined text input.form own → us ≡ some_units own → Asks input mode us
  text_asked mode joined text own us asks unicode stands units is = record {
    mode_asked = asks;
    own = own;
    own_are = subst (λ j. AreUnits input.standard_strings j (stand_in input.form input.text) input.form own) (sym unicode) (subst (λ t. AreUnits input.standard_strings joined t input.form own) stands units);
    units_are = is;
  }

  -- a text that is read, and its units
  module _ (mode : Mode) (us : List CodePoint) (asked : Asks input mode us) where
    units_fault : (it : Fault) → IsRefused mode input.rules us (first_offset input.form) input.text_offset it → IsFaultOf input it
    units_fault fault.OutOfMemory h = no_memory
    units_fault (fault.Diagnostic d) h = refused (of_text asked h)

    pub units_parsed : (answer : Result Pattern Fault) → AnswersUnits mode input.rules us (first_offset input.form) input.text_offset answer → IsParsed (λ (p : Pattern). p) input answer
    units_parsed (Ok p) a = record {
      valid = record { mode = mode; units = us; asked = asked; pattern = p; reads = a.whole.reads };
      complete = λ _. tt;
      read = (mode, record { units = us; asked = asked; reads = a.whole.reads; only = a.only; spanned = a.whole.spanned; groups = a.groups });
      refused = tt;
    }
    units_parsed (Err it) a = fault_parsed (λ (p : Pattern). p) it (units_fault it a.refused)
