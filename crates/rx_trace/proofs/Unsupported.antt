-- The first node that is not supported: of nodes that stand one after another.
use Rattle.std.proofs.Common.{◌≡◌, refl, ap, sym, ◌∙◌, Option, Some, None, List, [], ◌∷◌, ◌++◌}
use Rattle.rx_base.specs.declared.span.Span.{Span}
use Rattle.rx_ast.specs.Kinds.{Kind}
use Rattle.rx_trace.specs.Supported.{unsupported_span, or_later, first_unsupported}

pub or_none : (a : Option Span) → or_later a None ≡ a
or_none None = refl
or_none (Some s) = refl

pub or_assoc : (a b c : Option Span) → or_later (or_later a b) c ≡ or_later a (or_later b c)
or_assoc None b c = refl
or_assoc (Some s) b c = refl

pub first-append : (ks ls : List Kind) → first_unsupported (ks ++ ls) ≡ or_later (first_unsupported ks) (first_unsupported ls)
first-append [] ls = refl
first-append (k ∷ ks) ls = ap (or_later (unsupported_span k)) (first-append ks ls) ∙ sym (or_assoc (unsupported_span k) (first_unsupported ks) (first_unsupported ls))
