-- A text that is refused reads as no tree, and no place is reached beyond the one at which a refusal holds.
use Rattle.std.proofs.Common.{ap, ◌∙◌, ◌∷◌, ℕ, List, arith}
use Rattle.rx_base.specs.declared.diagnostic.Diagnostic.{Diagnostic}
use Rattle.rx_ast.specs.declared.term.Pattern.{Pattern}
use Rattle.rx_units.specs.declared.code_point.CodePoint.{CodePoint}
use Rattle.rx_units.specs.Units.{values}
use Rattle.rx_model.specs.declared.mode.Mode.{Mode}
use Rattle.rx_model.specs.Refusals.Causes as cause
use Rattle.rx_model.specs.Refusals.Causes.{IsCause, IsCauseAtPlace}
use Rattle.rx_model.specs.Refusals.ClassCauses.{IsClassCause}
use Rattle.rx_model.specs.Refusals.Firsts.{NoneBeyond, NoneBeyondInClass}
use Rattle.rx_model.specs.Refusals.Reached.{IsPlace, class_environment}
use Rattle.rx_model.specs.Reading.Reading.{Reads}
use Rattle.rx_model.specs.declared.rules.Rules.{Rules}
use Rattle.rx_model.proofs.FirstPass.Apart.{tells_apart}
use Rattle.rx_model.proofs.Refusals.Beyond.{ClassLaws, cause_ends, blocked_beyond, ends_beyond, ends_refuse}
use Rattle.rx_model.proofs.Classes.ClassBeyond.{at_bracket_is, after_bracket, class_blocked, item_beyond}
use Rattle.rx_model.proofs.Classes.ClassFaults.{stuck}
use Rattle.rx_model.proofs.Classes.OneInClass.{one_in_class, two_in_class}
use Rattle.rx_model.proofs.FirstPass.OwnGroups.{tells_groups}

pub refused : (mode : Mode) (rules : Rules) (us : List CodePoint) (start added : ℕ) → ClassLaws mode rules us start added → (d : Diagnostic) → IsCause mode rules us start added d → (p : Pattern) → Reads mode rules p us → ⊥
refused mode rules us start added laws _ (cause.duplicated_names a b c) p r = (tells_apart mode rules p us r.spelled).no_clash r.early.apart a b c.clash
refused mode rules us start added laws _ (cause.too_many_groups none many) p r = omega (arith, many, r.early.in_limit, (tells_groups mode rules p us r.spelled).groups_are)
refused mode rules us start added laws d (cause.at_place place none few c) p r = ends_refuse mode rules us place (cause_ends mode rules us start added laws place d c) p r

pub none_beyond : (mode : Mode) (rules : Rules) (us : List CodePoint) (start added : ℕ) → ClassLaws mode rules us start added → (place : ℕ) (d : Diagnostic) → IsCauseAtPlace mode rules us start added place d → NoneBeyond mode rules us place
none_beyond mode rules us start added laws place d c = ends_beyond mode rules us place (cause_ends mode rules us start added laws place d c)

pub none_beyond_in_class : (mode : Mode) (rules : Rules) (us : List CodePoint) (start added from : ℕ) (at_class : List CodePoint) (place : ℕ) (d : Diagnostic) → IsClassCause mode us start added from at_class place d →
    NoneBeyondInClass (class_environment mode us) from at_class place × (IsPlace mode rules us from at_class → NoneBeyond mode rules us from)
none_beyond_in_class mode rules us start added from at_class place d c =
    let s = stuck mode us start added from at_class place d c in
    (item_beyond mode us start added from at_class place d s, λ p. blocked_beyond mode rules us from at_class p (class_blocked mode us start added from at_class rules place d s))

-- the classes of every mode
pub class_laws : (mode : Mode) (rules : Rules) (us : List CodePoint) (start added : ℕ) → ClassLaws mode rules us start added
class_laws mode rules us start added = record {
  after_bracket = λ {from} {f} {at_class} {d} c. after_bracket mode us start added from at_class f d (stuck mode us start added from at_class f d c);
  at_bracket = λ {from} {f} {at_class} {d} c.
      let b = at_bracket_is mode us start added from at_class f d (stuck mode us start added from at_class f d c) in
      (values b.1, ap values b.2 ∙ ap (λ x. x ∷ values b.1) b.3);
  blocked = λ {from} {f} {at_class} {d} c. class_blocked mode us start added from at_class rules f d (stuck mode us start added from at_class f d c);
  two = λ {from} {f} {g} {at_class} {d} {e} c k. two_in_class mode us start added from at_class f g d e c k;
  one = λ {from} {f} {g} {at_class} {d} {e} no_sets c k. one_in_class mode us start added from at_class no_sets f g d e c k;
}
