use Rattle.std.proofs.Common.{◌∙◌, sym, ap, subst}
use Rattle.rx_run.specs.declared.run.Status.{Status}
use Rattle.rx_run.specs.Status.{IsFinished, Outcome}
use Rattle.rx_run.specs.WholeInput.{status_of as served_status}
use Rattle.rx_run.proofs.Ending.{finished_ok, is_read_fault, is_too_much, is_write_fault, no_usage, outcome_of}
use Rattle.rx_run.proofs.Faults.{tells_so}
use Rattle.rx_run.proofs.run.run_lines.Goals as goal

pub returns-clause-content : goal.returns-clause-content
returns-clause-content g c =
    let r = c.serve.result in
    let all = c.serve.ensures.content in
    let P : Status → Type 0 = λ s. Outcome (g.R.Replying.answers c.args.with.now) s all.0 all.1 in
    (all.0, all.1, all.2, all.3, subst P (sym c.status_of.ensures) (outcome_of (g.R.Replying.answers c.args.with.now) r all.0 all.1 all.4))

pub returns-clause-end : goal.returns-clause-end
returns-clause-end g c = λ is. finished_ok c.serve.result c.serve.ensures.end (subst IsFinished c.status_of.ensures is)

pub returns-clause-usage : goal.returns-clause-usage
returns-clause-usage g c = λ is. no_usage c.serve.result (sym c.status_of.ensures ∙ is)

pub returns-clause-faults : goal.returns-clause-faults
returns-clause-faults g c =
    let e = c.status_of.ensures in
    tells_so c.serve.ensures.faults
    (λ is. is_read_fault c.serve.result (sym e ∙ is)) (λ is. e ∙ ap served_status is)
    (λ is. is_write_fault c.serve.result (sym e ∙ is)) (λ is. e ∙ ap served_status is)

pub returns-clause-too_much : goal.returns-clause-too_much
returns-clause-too_much g c =
    let e = c.status_of.ensures in (
      λ is. c.serve.ensures.too_much.0 (is_too_much c.serve.result (sym e ∙ is)),
      λ past. e ∙ ap served_status (c.serve.ensures.too_much.1 past),
    )
