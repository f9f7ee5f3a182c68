use Rattle.std.proofs.Common.{ap, inl, inr, sym, subst, true, Result}
use Rattle.std.specs.Prelude.{IfOk}
use Rattle.rx_base.specs.declared.out_of_memory.OutOfMemory.{OutOfMemory}
use Rattle.rx_refusal.specs.declared.field.Field.{Field}
use Rattle.rx_refusal.specs.Fields.{IsFieldOf}
use Rattle.std.specs.Str.{chars}
use Rattle.rx_model.specs.Inputs.Texts.{HasNoUnits}
use Rattle.rx_parser.specs.Inputs.{flags_chars}
use Rattle.rx_parser.specs.Texts.{seen_input}
use Rattle.rx_refusal.proofs.Spoiling.{with_units, without_flags, without_units}
use Rattle.rx_refusal.proofs.field.spoilt_field.Goals as goal
use Rattle.rx_refusal.proofs.field.spoilt_field.Goals.{in-Ok, in-Err-OutOfMemory, in-Err-String, in-Err-Template}

pub returns-in_default : goal.returns-in_default
returns-in_default c =
    let it = c.args.input.now in
    λ refusal unnamed. without_flags (seen_input it) refusal unnamed (ap flags_chars c.in_default.is)

pub returns : goal.returns
returns c = λ refusal unnamed.
    let it = c.args.input.now in
    let input = seen_input it in
    let given = ap flags_chars c.in-Some.is in
    let flags = chars c.in-Some.flags.now in
    let Fits : Result Field OutOfMemory → Type 0 = λ r. IfOk r (IsFieldOf input refusal) in
    elim c.match-flag_units.branch [
      | in-Ok w ↦ subst Fits (sym w.result-is) (with_units input refusal unnamed flags _ given w.in-Ok.ensures)
      | in-Err-OutOfMemory w ↦ subst Fits (sym w.result-is) tt
      | in-Err-String w ↦
          let none : HasNoUnits it.options.standard_strings true flags it.form = elim w.in-Err-String.ensures [ inl memory ↦ cc (w.in-Err-String.field-0-is) | inr none ↦ none ] in
          subst Fits (sym w.result-is) (without_units input refusal unnamed flags given none)
      | in-Err-Template w ↦
          let none : HasNoUnits it.options.standard_strings true flags it.form = elim w.in-Err-Template.ensures [ inl memory ↦ cc (w.in-Err-Template.field-0-is) | inr none ↦ none ] in
          subst Fits (sym w.result-is) (without_units input refusal unnamed flags given none)
    ]
