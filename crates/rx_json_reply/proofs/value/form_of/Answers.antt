use Rattle.std.proofs.Common.{◌∙◌, sym, ap}
use Rattle.std.specs.Option.{option_and_then}
use Rattle.rx_json_reply.specs.Faults.{form_named}
use Rattle.rx_json_reply.proofs.Named.{no_form}
use Rattle.rx_json_reply.proofs.value.form_of.Goals as goal

pub returns-in_default : goal.returns-in_default
returns-in_default c =
    sym (ap (option_and_then form_named) (sym c.in_ok-as_str.ensures) ∙ no_form c.in_ok-as_str.field-0.now c.in_default.not-literal c.in_default.not-constructor)
