use Rattle.std.proofs.Common.{◌∙◌, sym}
use Rattle.rx_run.proofs.NoRequests.{no_tab, no_form, one_tab}
use Rattle.rx_run.proofs.request.Request.parse.Goals as goal

pub returns-in_err-form_field-clause-asked : goal.returns-in_err-form_field-clause-asked
returns-in_err-form_field-clause-asked c = rw (c.from_residual.ensures, sym c.in-Ok.ensures.cases.0) (no_tab c.in-Ok.line.now c.in_err-form_field.ensures)

pub returns-in_err-form-clause-asked : goal.returns-in_err-form-clause-asked
returns-in_err-form-clause-asked c =
    let cut = c.in_ok-form_field.ensures in
    rw c.from_residual-in_err-form.ensures (no_form c.args.line.now c.in_ok-form_field.form_field.now c.in_ok-form_field.rest.now (sym c.in-Ok.ensures.cases.0 ∙ cut.0) cut.1 c.in_err-form.ensures)

pub returns-in_err-flags_field-clause-asked : goal.returns-in_err-flags_field-clause-asked
returns-in_err-flags_field-clause-asked c =
    let cut = c.in_ok-form_field.ensures in
    rw c.from_residual-in_err-flags_field.ensures (one_tab c.args.line.now c.in_ok-form_field.form_field.now c.in_ok-form_field.rest.now (sym c.in-Ok.ensures.cases.0 ∙ cut.0) cut.1 c.in_err-flags_field.ensures)
