-- What is answered to a request, by what the reader of patterns answers.
use Rattle.std.proofs.Common.{◌≡◌, sym, subst, true, false, codes, ◌++◌, Ok, Err}
use Rattle.json.specs.Json.{Json}
use Rattle.rx_base.specs.declared.diagnostic.Diagnostic.{Diagnostic}
use Rattle.rx_base.specs.declared.fault.Fault.TheVariants as fault
use Rattle.rx_ast.specs.declared.term.Pattern.{Pattern}
use Rattle.rx_model.specs.declared.mode.Mode.{Mode}
use Rattle.rx_model.specs.Inputs.Inputs.{Input}
use Rattle.rx_model.specs.Reading.Headline.{IsAnswered, IsValid}
use Rattle.rx_tools.specs.Spelled.{read_of}
use Rattle.rx_tools.proofs.CanonicalAnswers.{first_of, read_as}
use Rattle.rx_refusal.specs.declared.field.Field.{Field as Side}
use Rattle.rx_json.specs.Values.{object_of}
use Rattle.rx_refusal.specs.Fields.{IsFieldOf}
use Rattle.rx_json_reply.specs.Answers.{IsAnswer, read, refused}
use Rattle.rx_json_reply.specs.Parts.{begun, read_fields, refused_fields}
use Rattle.rx_json_reply.specs.Requests.{Asked, input_of}

module _ (id : Json) (asked : Asked) where
  -- of a pattern that is read
  pub read_is : (input : Input) (it : Pattern × Mode) → input ≡ input_of asked → IsAnswered read_of input (Ok it)
      → IsAnswer id asked (object_of (begun id (codes "ok") ++ read_fields input asked.want it.1 it.0)) true
  read_is input it same answered =
      subst (λ (input : Input). IsAnswer id asked (object_of (begun id (codes "ok") ++ read_fields input asked.want it.1 it.0)) true) (sym same)
      (read it.1 it.0 (read_as read_of (input_of asked) it (subst (λ (input : Input). IsAnswered read_of input (Ok it)) same answered)))

  not_valid : (refusal : Diagnostic) → IsAnswered read_of (input_of asked) (Err (fault.Diagnostic refusal)) → IsValid (input_of asked) → ⊥
  not_valid refusal answered valid = let e = answered.parsed.complete valid in let no : ⊥ = cc e in no

  -- of one that is refused
  pub refused_is : (input : Input) (refusal : Diagnostic) (side : Side) → input ≡ input_of asked → IsAnswered read_of input (Err (fault.Diagnostic refusal)) → IsFieldOf input refusal side
      → IsAnswer id asked (object_of (begun id (codes "refused") ++ refused_fields input side refusal)) false
  refused_is input refusal side same answered lies =
      let there : IsAnswered read_of (input_of asked) (Err (fault.Diagnostic refusal)) = subst (λ (input : Input). IsAnswered read_of input (Err (fault.Diagnostic refusal))) same answered in
      subst (λ (input : Input). IsAnswer id asked (object_of (begun id (codes "refused") ++ refused_fields input side refusal)) false) (sym same)
      (refused refusal side (not_valid refusal there) (first_of (input_of asked) refusal there.parsed.refused) (subst (λ (input : Input). IsFieldOf input refusal side) same lies))
