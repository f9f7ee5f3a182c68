-- How findings are written, in bytes.
use Rattle.std.specs.Prelude.{ℕ, List, [], ◌∷◌, ◌++◌, map, codes}
use Rattle.std.specs.List.{join_with_byte}
use Rattle.rx_reply.specs.Places.{span_text}
use Rattle.rx_lint.specs.declared.finding.Finding.{Finding}
use Rattle.rx_lint.specs.declared.finding.Rule.{Rule}
use Rattle.rx_lint.specs.declared.finding.Rule.TheVariants.{EmptyClass, RepeatedMember, EmptyAlternative, RepeatedAlternative, UnusedName, UselessQuantifier}

-- the rule, in small letters with `_` between words
abbrev pub rule_name : Rule → List ℕ
rule_name EmptyClass = codes "empty_class"
rule_name RepeatedMember = codes "repeated_member"
rule_name EmptyAlternative = codes "empty_alternative"
rule_name RepeatedAlternative = codes "repeated_alternative"
rule_name UnusedName = codes "unused_name"
rule_name UselessQuantifier = codes "useless_quantifier"

-- the rule, and where the node stands: `rule@start..end`
abbrev pub finding_text : Finding → List ℕ
finding_text found = rule_name found.rule ++ codes "@" ++ span_text found.span

-- findings with blanks (the byte 32) between
abbrev pub findings_text : List Finding → List ℕ
findings_text findings = join_with_byte 32 (map finding_text findings)

-- findings with a blank before each
abbrev pub later_findings_text : List Finding → List ℕ
later_findings_text [] = []
later_findings_text (found ∷ findings) = (codes " " ++ finding_text found) ++ later_findings_text findings

-- the reply that lists the findings in a pattern
abbrev pub findings_reply : List Finding → List ℕ
findings_reply findings = codes "ok\t" ++ findings_text findings ++ codes "\n"
