-- What a rewriting answers.
use Rattle.std.specs.Prelude.{◌≡◌, ℕ, true, if◌then◌else◌, Bool, Option, Some, None, Result, Ok, Err, List, [], ◌∷◌, ◌++◌}
use Rattle.std.specs.List.{flat_map}
use Rattle.rx_base.specs.declared.span.Span.{Span}
use Rattle.rx_ast.specs.declared.term.Pattern.{Pattern}
use Rattle.rx_ast.specs.Kinds.{Kind, pattern, capturing_group, order}
use Rattle.rx_ast.specs.Tree.{Whole, mirror}
use Rattle.rx_model.specs.declared.rules.Rules.{Rules}
use Rattle.rx_trace.specs.declared.answer.MatchFlags.{MatchFlags}
use Rattle.rx_trace.specs.Groups.{same_units}
use Rattle.rx_rewrite.specs.declared.fault.RewriteFault.{RewriteFault}
use Rattle.rx_rewrite.specs.declared.fault.RewriteFault.TheVariants as fault
use Rattle.rx_rewrite.specs.declared.rewrites.Rewrites.{Rewrites}
use Rattle.rx_rewrite.specs.Rewriting.{rewritten}

-- a group that has a name: the name, and the span of the group
abbrev pub NamedGroup : Type 0
NamedGroup = List ℕ × Span

abbrev pub named_group : Kind → List NamedGroup
named_group (capturing_group s (Some name) d) = (name, s) ∷ []
named_group _ = []

-- the groups that have a name, in order of opening
abbrev pub named_groups : Whole → List NamedGroup
named_groups tree = flat_map named_group (order (pattern tree))

-- the first group of a name
abbrev pub first_named : List ℕ → List NamedGroup → Option Span
first_named name [] = None
first_named name (g ∷ gs) = if same_units name g.0 then Some g.1 else first_named name gs

abbrev pub with_first : Option Span → Span → Option (Span × Span) → Option (Span × Span)
with_first None second later = later
with_first (Some first) second later = Some (first, second)

-- The spans of two groups of one name: the second is the first group whose name a group before it has, and the first is the first group of that name. `before` are the groups
-- that open before these.
abbrev pub second_use : List NamedGroup → List NamedGroup → Option (Span × Span)
second_use before [] = None
second_use before (g ∷ gs) = with_first (first_named g.0 before) g.1 (second_use (before ++ g ∷ []) gs)

abbrev pub repeated_name : Whole → Option (Span × Span)
repeated_name tree = second_use [] (named_groups tree)

-- Where names are to go no two groups may have the same one: a reference by such a name means whichever of the groups takes part, and no single number says that.
abbrev pub IsRewritten : Rewrites → MatchFlags → Whole → Result Pattern RewriteFault → Type 0
IsRewritten what flags tree (Ok it) = (what.named_capture_groups ≡ true → repeated_name tree ≡ None) × (mirror it ≡ rewritten what flags tree)
IsRewritten what flags tree (Err (fault.NameUsedTwice first second)) = (what.named_capture_groups ≡ true) × (repeated_name tree ≡ Some (first, second))
IsRewritten what flags tree (Err fault.OutOfMemory) = Unit {0}

-- the rules that two options say: whether two groups may have one name, and whether buffer boundaries are read
abbrev pub rules_of : Bool × Bool → Rules
rules_of rules = record { duplicate_names = rules.0; buffer_boundaries = rules.1 }
