-- What holds of the ends of the spans that are told of a tree or of a refusal.
use Rattle.std.specs.Prelude.{ℕ, IfSome}
use Rattle.rx_base.specs.declared.diagnostic.Diagnostic.{Diagnostic}
use Rattle.rx_base.specs.declared.span.Span.{Span}
use Rattle.rx_base.specs.Diagnostic.{first_span_of, second_span_of}
use Rattle.rx_ast.specs.Forest.{Forest, nothing, tree}
use Rattle.rx_ast.specs.Parts.{part_span, pattern_forest}
use Rattle.rx_ast.specs.Tree.{mirror}
use Rattle.rx_ast.specs.declared.term.Pattern.{Pattern}

-- This holds where the span begins, and where it ends.
abbrev pub HoldsAtEnds : (ℕ → Type 0) → Span → Type 0
HoldsAtEnds P span = P span.start × P span.end

-- This holds of the label of each node of a forest, at any depth.
abbrev pub HoldsOfEach : {L : Type 0} → (L → Type 0) → Forest L → Type 0
HoldsOfEach P nothing = Unit {0}
HoldsOfEach P (tree l inner after) = P l × HoldsOfEach P inner × HoldsOfEach P after

-- This holds at the ends of each node of a pattern, the pattern itself and modifiers too.
abbrev pub HoldsInTree : (ℕ → Type 0) → Pattern → Type 0
HoldsInTree P p = HoldsOfEach (HoldsAtEnds P) (pattern_forest part_span (mirror p))

-- This holds at the ends of the spans of a refusal.
pub record HoldsInRefusal (P : ℕ → Type 0) (refusal : Diagnostic) : Type 0 where
  pub first : HoldsAtEnds P (first_span_of refusal)
  pub second : IfSome (second_span_of refusal) (HoldsAtEnds P)
