-- All findings of a pattern: the places of its nodes in the order of the text, and at each the rules that hold there, in the order of the list.
use Rattle.std.specs.Prelude.{List, [], ◌∷◌, map, filter}
use Rattle.std.specs.List.{flat_map}
use Rattle.rx_ast.specs.Kinds.{kind_span}
use Rattle.rx_ast.specs.Tree.{Whole}
use Rattle.rx_lint.specs.declared.finding.Rule.{Rule}
use Rattle.rx_lint.specs.declared.finding.Rule.TheVariants.{EmptyClass, RepeatedMember, EmptyAlternative, RepeatedAlternative, UnusedName, UselessQuantifier}
use Rattle.rx_lint.specs.declared.finding.Finding.{Finding}
use Rattle.rx_lint.specs.Places.{Place, places}
use Rattle.rx_lint.specs.Rules.{holds}

abbrev pub rules : List Rule
rules = EmptyClass ∷ RepeatedMember ∷ EmptyAlternative ∷ RepeatedAlternative ∷ UnusedName ∷ UselessQuantifier ∷ []

-- a finding has the span of the node
abbrev pub finding : Place → Rule → Finding
finding at rule = record { rule = rule; span = kind_span at.node }

abbrev pub findings_at : Whole → Place → List Finding
findings_at p at = map (finding at) (filter (holds p at) rules)

abbrev pub findings : Whole → List Finding
findings p = flat_map (findings_at p) (places p)
