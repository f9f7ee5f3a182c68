-- What holds of the offset of each place holds at the ends of the spans of each refusal.
use Rattle.std.proofs.Common.{ℕ, ◌+◌, true, false, List}
use Rattle.rx_base.specs.declared.diagnostic.Diagnostic.{Diagnostic}
use Rattle.rx_units.specs.declared.code_point.CodePoint.{CodePoint}
use Rattle.rx_units.specs.Units.{offset_at}
use Rattle.rx_model.specs.declared.mode.Mode.{Mode}
use Rattle.rx_model.specs.declared.rules.Rules.{Rules}
use Rattle.rx_model.specs.Refusals.Causes as cause
use Rattle.rx_model.specs.Refusals.Causes.{IsCause, IsCauseAtPlace}
use Rattle.rx_model.specs.Refusals.ClassCauses.{IsClassCause, escape_in_class, negative_strings, property_in_class}
use Rattle.rx_model.specs.Refusals.EscapeCauses.{IsEscapeCause, IsPropertyCause, no_property, too_many_hex_digits}
use Rattle.rx_model.specs.Refusals.FlagCauses.{IsFlagCause, unknown}
use Rattle.rx_place_laws.specs.Ends.{HoldsInRefusal}

module _ (P : ℕ → Type 0) (us : List CodePoint) (first added : ℕ) (each : (place : ℕ) → P (offset_at first us place + added)) where
  -- of flags
  pub in_flags : (d : Diagnostic) → IsFlagCause us first added d → HoldsInRefusal P d
  in_flags _ (unknown before unit offence none) = record { first = (each _, each _); second = tt }
  in_flags _ _ = record { first = (each _, each _); second = tt }

  module _ (mode : Mode) where
    of_escape : (place : ℕ) (rest : List CodePoint) (d : Diagnostic) → IsEscapeCause mode us first added place rest d → HoldsInRefusal P d
    of_escape place rest _ (too_many_hex_digits count following unicode whole passes) = record { first = (each _, each _); second = tt }
    of_escape place rest _ _ = record { first = (each _, each _); second = tt }

    of_property : (place : ℕ) (rest : List CodePoint) (d : Diagnostic) → IsPropertyCause mode us first added place rest d → HoldsInRefusal P d
    of_property place rest _ (no_property letter following unicode whole begins none) = record { first = (each _, each _); second = tt }
    of_property place rest _ _ = record { first = (each _, each _); second = tt }

    in_class : (from place : ℕ) (at_class : List CodePoint) (d : Diagnostic) → IsClassCause mode us first added from at_class place d → HoldsInRefusal P d
    in_class from _ at_class d (escape_in_class place rest at k) = of_escape place rest d k
    in_class from _ at_class d (property_in_class place rest at k) = of_property place rest d k
    in_class from _ at_class _ (negative_strings true begin place rest negative) = record { first = (each _, each _); second = tt }
    in_class from _ at_class _ (negative_strings false begin place rest negative) = record { first = (each _, each _); second = tt }
    in_class from _ at_class _ _ = record { first = (each _, each _); second = tt }

    at_place : (rules : Rules) (place : ℕ) (d : Diagnostic) → IsCauseAtPlace mode rules us first added place d → HoldsInRefusal P d
    at_place rules _ d (cause.of_escape place rest at k) = of_escape place rest d k
    at_place rules _ d (cause.of_property place rest at k) = of_property place rest d k
    at_place rules _ d (cause.of_class from place at_class at k) = in_class from place at_class d k
    at_place rules _ _ _ = record { first = (each _, each _); second = tt }

    -- of a text, where it holds of what is added too
    pub in_text : P added → (rules : Rules) (d : Diagnostic) → IsCause mode rules us first added d → HoldsInRefusal P d
    in_text start rules _ (cause.duplicated_names a b clash) = record { first = (each _, each _); second = (each _, each _) }
    in_text start rules _ (cause.too_many_groups none many) = record { first = (start, start); second = tt }
    in_text start rules d (cause.at_place place none few k) = at_place rules place d k
