-- The longest runs of neighbouring offsets with one owner.
use Rattle.std.specs.Prelude.{◌≡◌, ℕ, zero, suc, ◌+◌, ◌-◌, ◌<◌, ◌≤◌, Bool, ◌&&◌, nat_eq, if◌then◌else◌, List, [], ◌∷◌}
use Rattle.rx_ast.specs.Tree.{Whole}
use Rattle.rx_paint.specs.declared.token.Kind.{Kind}
use Rattle.rx_paint.specs.declared.token.Kind.TheVariants.{Char, Escape, Dot, Set, Class, Assert, Group, Modifier, Quantifier, Reference, Bar, Other}
use Rattle.rx_paint.specs.declared.token.Token.{Token}
use Rattle.rx_ast.specs.Forest.{Forest}
use Rattle.rx_paint.specs.Owners.{owner}
use Rattle.rx_ast.specs.Parts.{in_pattern}
use Rattle.rx_paint.specs.Paints.{token_of, part_token, root_token}

-- a number for each kind
abbrev pub kind_number : Kind → ℕ
kind_number Char = 0
kind_number Escape = 1
kind_number Dot = 2
kind_number Set = 3
kind_number Class = 4
kind_number Assert = 5
kind_number Group = 6
kind_number Modifier = 7
kind_number Quantifier = 8
kind_number Reference = 9
kind_number Bar = 10
kind_number Other = 11

-- Whether two tokens have one span and one kind. Where both own offsets of a nested pattern they are one node then: the law `equal_owners_are_one`.
abbrev pub is_same : Token → Token → Bool
is_same a b = nat_eq a.span.start b.span.start && nat_eq a.span.end b.span.end && nat_eq (kind_number a.kind) (kind_number b.kind)

-- what `f` gives at `n` offsets, one after another from `at` on
abbrev pub each_from : {X : Type 0} → (ℕ → X) → ℕ → ℕ → List X
each_from f at zero = []
each_from f at (suc n) = f at ∷ each_from f (at + 1) n

-- the token of a run of one owner
abbrev pub run : ℕ → ℕ → Token → Token
run from to own = token_of (record { start = from; end = to }) own.kind

-- The first run began at `from`, is of `own` and has come to `at`, and the owners from `at` on are given: it goes on while the owner is the same.
abbrev pub runs_from : ℕ → Token → ℕ → List Token → List Token
runs_from from own at [] = run from at own ∷ []
runs_from from own at (next ∷ others) = if is_same own next then runs_from from own (at + 1) others else run from at own ∷ runs_from at next (at + 1) others

-- the runs from an offset on, where the owners from there on are given
abbrev pub runs : ℕ → List Token → List Token
runs at [] = []
runs at (own ∷ others) = runs_from at own (at + 1) others

-- the tokens of a node: the runs of the owners of the offsets of its span
abbrev pub tokens : Token → Forest Token → List Token
tokens root f = runs root.span.start (each_from (owner root f) root.span.start (root.span.end - root.span.start))

-- the tokens of a pattern
abbrev pub pattern_tokens : Whole → List Token
pattern_tokens p = tokens (root_token p) (in_pattern part_token p)

-- A token is the longest run from `low` on, of offsets up to `high`, with one owner, and has the owner's kind.
pub record IsLongestRun (owner : ℕ → Token) (low high : ℕ) (t : Token) : Type 0 where
  pub start : t.span.start ≡ low
  pub some : low < t.span.end
  pub within : t.span.end ≤ high
  pub kind : t.kind ≡ (owner low).kind
  pub one : (offset : ℕ) → low ≤ offset → offset < t.span.end → owner offset ≡ owner low
  pub longest : t.span.end < high → owner t.span.end ≡ owner low → ⊥

-- Tokens are the longest runs of one owner, one after another from `low` to `high`.
abbrev pub AreRuns : (ℕ → Token) → ℕ → ℕ → List Token → Type 0
AreRuns owner low high [] = low ≡ high
AreRuns owner low high (t ∷ ts) = IsLongestRun owner low high t × AreRuns owner t.span.end high ts

-- Tokens tile the offsets from `low` to `high`: none is empty, and each begins where the one before it ends.
abbrev pub Tile : ℕ → ℕ → List Token → Type 0
Tile low high [] = low ≡ high
Tile low high (t ∷ ts) = (t.span.start ≡ low) × (low < t.span.end) × Tile t.span.end high ts

-- no token is painted Other
abbrev pub HaveNoOther : List Token → Type 0
HaveNoOther [] = Unit {0}
HaveNoOther (t ∷ ts) = (t.kind ≡ Other → ⊥) × HaveNoOther ts
