-- The set of the names of references.
use Rattle.std.specs.Prelude.{◌≡◌, ℕ, List}
use Rattle.std.specs.Borrow.{Bor}
use Rattle.std.specs.BTreeSet.{BTreeSet, contains}
use Rattle.std.specs.Cmp.Lexicographic.{slice_cmp}
use Rattle.std.specs.List.{list_any}
use Rattle.std.specs.Ordering.{nat_cmp}
use Rattle.std.specs.declared.cmp.Ordering.{Ordering}
use Rattle.std.specs.Str.{IsUtf8, chars}
use Rattle.rx_ast.specs.Kinds.{Kind, order, pattern}
use Rattle.rx_ast.specs.Tree.{Whole}
use Rattle.rx_lint.specs.Rules.{refers_to}

-- the order of texts in a set
abbrev pub text_cmp : Bor (List ℕ) → Bor (List ℕ) → Ordering
text_cmp a b = slice_cmp nat_cmp a.now b.now

-- The set has the names of the references among some nodes.
pub record HasNames (names : BTreeSet (Bor (List ℕ))) (ks : List Kind) : Type 0 where
  pub found : (q : Bor (List ℕ)) → IsUtf8 q.now → contains text_cmp names q ≡ list_any (refers_to (chars q.now)) ks

-- the same of all nodes of a pattern
abbrev pub AreReferred : BTreeSet (Bor (List ℕ)) → Whole → Type 0
AreReferred names p = HasNames names (order (pattern p))
