-- What is found at a node, of which the nodes before it in its parent say what a mark is.
use Rattle.std.specs.Prelude.{Bool, ◌&&◌, List, [], ◌∷◌, map, filter, if◌then◌else◌}
use Rattle.rx_base.specs.declared.span.Span.{Span}
use Rattle.rx_ast.specs.Kinds.{Kind, kind_span}
use Rattle.rx_ast.specs.Tree.{Whole}
use Rattle.rx_lint.specs.declared.earlier.Mark.{Mark}
use Rattle.rx_lint.specs.declared.finding.Finding.{Finding}
use Rattle.rx_lint.specs.declared.finding.Rule.{Rule}
use Rattle.rx_lint.specs.declared.finding.Rule.TheVariants.{EmptyClass, RepeatedMember, EmptyAlternative, RepeatedAlternative, UnusedName, UselessQuantifier}
use Rattle.rx_lint.specs.Earlier.{is_repeated_item, is_repeated_alternative}
use Rattle.rx_lint.specs.Findings.{rules}
use Rattle.rx_lint.specs.Rules.{is_empty_class, is_empty_alternative, is_unused, is_once}

-- a finding where its rule holds
abbrev pub finding_if : Bool → Rule → Span → List Finding
finding_if holds rule span = if holds then record { rule = rule; span = span } ∷ [] else []

-- whether a rule holds of a node with this mark
abbrev pub holds_by : Whole → Mark → Kind → Rule → Bool
holds_by p mark k EmptyClass = is_empty_class k
holds_by p mark k RepeatedMember = is_repeated_item mark k
holds_by p mark k EmptyAlternative = is_empty_alternative k && mark.is_one_of_many
holds_by p mark k RepeatedAlternative = is_repeated_alternative mark k
holds_by p mark k UnusedName = is_unused p k
holds_by p mark k UselessQuantifier = is_once k

abbrev pub findings_by : Whole → Mark → Kind → List Finding
findings_by p mark k = map (λ rule. record { rule = rule; span = kind_span k }) (filter (holds_by p mark k) rules)
