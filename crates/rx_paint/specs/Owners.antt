-- Who owns an offset: the deepest node whose span holds it.
use Rattle.std.specs.Prelude.{◌≡◌, ℕ, ◌+◌, ◌≤◌, Bool, true, ◌&&◌, nat_lt, nat_le, if◌then◌else◌, Option, Some, None, List, [], ◌∷◌, ◌++◌}
use Rattle.rx_base.specs.declared.span.Span.{Span}
use Rattle.rx_paint.specs.declared.token.Token.{Token}
use Rattle.rx_ast.specs.Forest.{Forest, nothing, tree, Path, LeadsTo}

-- the span of a token
abbrev pub token_span : Token → Span
token_span t = t.span

-- a depth, and the node at it
abbrev pub DeepNode : Type 0
DeepNode = ℕ × Token

-- the nodes of a forest in the order of the text, each with its depth
abbrev pub deep_nodes : ℕ → Forest Token → List DeepNode
deep_nodes depth nothing = []
deep_nodes depth (tree t inner after) = (depth, t) ∷ (deep_nodes (depth + 1) inner ++ deep_nodes depth after)

-- whether a node holds an offset: its span starts at most there, and ends above it
abbrev pub holds : ℕ → Token → Bool
holds offset t = nat_le t.span.start offset && nat_lt offset t.span.end

-- the deeper of a node and another, where there is another
abbrev pub deeper : DeepNode → Option DeepNode → Option DeepNode
deeper n None = Some n
deeper n (Some m) = if nat_lt n.0 m.0 then Some m else Some n

-- the deepest of the nodes that hold an offset
abbrev pub deepest : ℕ → List DeepNode → Option DeepNode
deepest offset [] = None
deepest offset (n ∷ ns) = if holds offset n.1 then deeper n (deepest offset ns) else deepest offset ns

-- the node, or `root` where there is none
abbrev pub token_or : Token → Option DeepNode → Token
token_or root None = root
token_or root (Some n) = n.1

-- the owner of an offset of `root`: the deepest of the nodes in it that hold the offset, or `root` itself where none does
-- Why: docs/DECISIONS.md, 84.
abbrev pub owner : Token → Forest Token → ℕ → Token
owner root f offset = token_or root (deepest offset (deep_nodes 1 f))

-- The path leads to the deepest of the nodes that hold an offset, at this depth.
pub record Owns (f : Forest Token) (offset : ℕ) (path : Path) (depth : ℕ) (t : Token) : Type 0 where
  pub stands : LeadsTo path 0 depth t f
  pub holds_it : holds offset t ≡ true
  pub deepest : (other : Path) (k : ℕ) (u : Token) → LeadsTo other 0 k u f → holds offset u ≡ true → k ≤ depth
