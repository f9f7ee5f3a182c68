use Rattle.std.proofs.Common.{◌≡◌, ◌++◌, drop}
use Rattle.rx_lint_reply.specs.Findings.{later_findings_text}
use Rattle.rx_lint_reply.proofs.findings.add_later_findings.Given as goal

abbrev pub invariant-loop-finding : goal.invariant-loop-finding
invariant-loop-finding l = l.bytes ++ later_findings_text (drop l.finding-index l.findings) ≡ l.fn.bytes ++ later_findings_text l.findings
