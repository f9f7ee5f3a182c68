-- Which refusal of a text is answered, and that a text that is refused reads as no tree.
use Rattle.std.proofs.Common.{◌≡◌, ◌≢◌, refl, ℕ, ◌≤◌, List, Result, Ok, Err, IfErr, IfOk}
use Rattle.rx_base.specs.declared.diagnostic.Diagnostic.{Diagnostic as Refusal}
use Rattle.rx_parser.proofs.Common.{Fault, Pattern, CodePoint, Mode, IsCauseAtPlace, at_place, IsFirst, IsFirstInClass, no_item, of_groups, of_places, yielding_of, HasNoClash, IsPlace, text_groups, most_groups, AnswersUnits, IsRefused, IsWhole, Rules, Reads, tells_groups}
use Rattle.rx_base.specs.declared.fault.Fault.TheVariants as fault
use Rattle.rx_model.proofs.Refusals.OneCause.{class_is_first, said_is_first}
use Rattle.rx_model.proofs.Refusals.Refusals.{class_laws, refused}
use Rattle.rx_parser.proofs.Endings.{reads_only}

module _ (mode : Mode) (rules : Rules) (us : List CodePoint) (first added : ℕ) where
  module _ (no_clash : HasNoClash mode rules.duplicate_names us) (limit : text_groups mode us ≤ most_groups) where
    -- A cause that says what stands at its place is the first.
    pub cause_refused : (place : ℕ) (cause : Refusal) → yielding_of cause ≢ no_item → IsCauseAtPlace mode rules us first added place cause → IsRefused mode rules us first added (fault.Diagnostic cause)
    cause_refused place cause says c = of_places no_clash limit (said_is_first mode rules us first added (class_laws mode rules us first added) place cause c says)

    -- So is the first of a class that begins at a place that is reached.
    pub class_refused : (place : ℕ) (at_class : List CodePoint) (cause : Refusal) → IsPlace mode rules us place at_class → IsFirstInClass mode us first added place at_class cause
        → IsRefused mode rules us first added (fault.Diagnostic cause)
    class_refused place at_class cause p c = of_places no_clash limit (class_is_first mode rules us first added (class_laws mode rules us first added) place at_class cause p c)

  -- A first refusal holds, so that the text reads as no tree.
  none_reads : (cause : Refusal) → IsFirst mode rules us first added cause → (p : Pattern) → Reads mode rules p us → ⊥
  none_reads cause (of_groups c other) = refused mode rules us first added (class_laws mode rules us first added) cause c
  none_reads cause (of_places none few c) = refused mode rules us first added (class_laws mode rules us first added) cause (at_place c.place none few c.holds)

  -- Where the text reads as some tree memory ran out.
  wanting : (it : Fault) → IsRefused mode rules us first added it → (p : Pattern) → Reads mode rules p us → it ≡ fault.OutOfMemory
  wanting fault.OutOfMemory h p reads = refl
  wanting (fault.Diagnostic cause) h p reads = absurd (none_reads cause h p reads)

  -- What is read or refused is answered so.
  pub answered : (answer : Result Pattern Fault) → IfOk answer (IsWhole mode rules us first added) → IfErr answer (IsRefused mode rules us first added) → AnswersUnits mode rules us first added answer
  answered (Ok p) whole refused = record {
    whole = whole;
    only = reads_only mode rules p us whole.reads;
    groups = tells_groups mode rules p us whole.reads.spelled;
    refused = tt;
    complete = λ q reads. tt;
  }
  answered (Err it) whole refused =
      record { whole = tt; only = tt; groups = tt; refused = refused; complete = λ p reads. wanting it refused p reads }
