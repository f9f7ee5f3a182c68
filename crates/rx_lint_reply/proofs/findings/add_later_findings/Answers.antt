use Rattle.rx_lint_reply.proofs.Written.{findings_more}
use Rattle.rx_lint_reply.proofs.findings.add_later_findings.Goals as goal

pub loop-finding-preserved : goal.loop-finding-preserved
loop-finding-preserved c =
    findings_more c.args.findings.now c.loop-finding.finding-index _ _ c.loop-finding.bytes c.extend_from_slice.new.self c.add_finding.new.bytes
    c.loop-finding-test.true c.loop-finding.invariant c.in_ok-extend_from_slice.ensures.ok c.in_ok-add_finding.ensures
