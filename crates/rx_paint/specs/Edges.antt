-- Where nodes begin and end, and the tokens that are still to be listed there.
use Rattle.std.specs.Prelude.{◌≡◌, ℕ, nat_lt, if◌then◌else◌, List, [], ◌∷◌, ◌++◌}
use Rattle.rx_paint.specs.declared.token.Token.{Token}
use Rattle.rx_paint.specs.declared.token.Kind.TheVariants.{Other}
use Rattle.rx_ast.specs.Forest.{Forest, nothing, tree}
use Rattle.rx_paint.specs.Runs.{run, is_same}

-- an offset where a node begins or ends, and the owner from there on
abbrev pub Edge : Type 0
Edge = ℕ × Token

-- the edges of nodes that stand in the node `parent`
abbrev pub edges : Token → Forest Token → List Edge
edges parent nothing = []
edges parent (tree t inner after) = (t.span.start, t) ∷ (edges t inner ++ ((t.span.end, parent) ∷ edges parent after))

-- the token of a run, or none where the run is empty
abbrev pub run_or_none : ℕ → ℕ → Token → List Token
run_or_none from to own = if nat_lt from to then run from to own ∷ [] else []

-- The tokens that are still to be listed: the run of `owner` began at `from` and has come to `at`, from where `next` is the owner as far as the first edge.
abbrev pub tokens_left : ℕ → Token → ℕ → Token → List Edge → List Token
tokens_left from owner at next [] = run_or_none from at owner
tokens_left from owner at next (e ∷ es) =
    if nat_lt at e.0 then (if is_same owner next then tokens_left from owner e.0 e.1 es else run_or_none from at owner ++ tokens_left at next e.0 e.1 es)
    else tokens_left from owner e.0 e.1 es

-- Of the offsets from `low` to `high`, where these nodes stand in the node `own`, none has an owner that is painted Other.
abbrev pub IsFilled : Token → ℕ → ℕ → Forest Token → Type 0
IsFilled own low high nothing = own.kind ≡ Other → low ≡ high
IsFilled own low high (tree t inner after) = (own.kind ≡ Other → low ≡ t.span.start) × IsFilled t t.span.start t.span.end inner × IsFilled own t.span.end high after
