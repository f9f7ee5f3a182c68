use Rattle.std.proofs.Common.{◌∙◌, sym, ap, List, ℕ, ◌++◌, append_assoc}
use Rattle.std.proofs.lemmas.Result.{on_ok_weaker}
use Rattle.rx_lint_reply.specs.Findings.{finding_text, findings_text, later_findings_text}
use Rattle.rx_lint_reply.proofs.Written.{findings_first}
use Rattle.rx_lint_reply.proofs.findings.add_findings_text.Goals as goal

pub returns : goal.returns
returns c =
    let first = c.in-Some.first.now in
    let later = c.in-Some.later.now in
    let old = c.args.bytes.now in
    on_ok_weaker c.add_later_findings.result
    (λ added. added ∙ ap (λ (text : List ℕ). text ++ later_findings_text later) c.in_ok-add_finding.ensures ∙ append_assoc old (finding_text first) (later_findings_text later)
    ∙ ap (λ (text : List ℕ). old ++ text) (sym (ap findings_text c.in-Some.ensures.cases.0 ∙ findings_first first later)))
    c.add_later_findings.ensures
