-- What a rewriter has made, and what comes out of it.
use Rattle.std.specs.Prelude.{◌≡◌, ◌≢◌, ℕ, ◌+◌, ◌<◌, true, None, List, [], ◌∷◌, ◌++◌, map, reverse}
use Rattle.std.specs.Str.{IsUtf8, chars}
use Rattle.rx_ast.specs.Tree as tree
use Rattle.rx_ast.specs.Tree.{Node, mirror_alternative, mirror_term}
use Rattle.rx_trace.specs.Groups.{Names}
use Rattle.rx_rewrite.specs.declared.numbers.GroupNumbers.{GroupNumbers}
use Rattle.rx_rewrite.specs.declared.opener.Opener.{Opener}
use Rattle.rx_rewrite.specs.declared.opener.Opener.TheVariants as opener
use Rattle.rx_rewrite.specs.declared.rewriter.Rewriter.{Rewriter}
use Rattle.rx_rewrite.specs.declared.rewriter.Task.{Task}
use Rattle.rx_rewrite.specs.declared.rewriter.Task.TheVariants as task
use Rattle.rx_rewrite.specs.declared.rewrites.Rewrites.{Rewrites}
use Rattle.rx_rewrite.specs.NamedGroups.{number_at}
use Rattle.rx_rewrite.specs.Rewriting.{number_of}
use Rattle.rx_rewrite.specs.Works.{Made, Work, alternatives, terms, term, ending_alternative, ending_group, ending_quantifier, with_node, all_worked, weight, weights}

abbrev pub opener_of : Opener → tree.Opener
opener_of (opener.Capturing name) = tree.capturing name
opener_of (opener.Ignoring m) = tree.ignoring m
opener_of (opener.LookAround kind) = tree.looking kind

abbrev pub work_of : Task → Work
work_of (task.Alternatives settings more) = alternatives settings.old settings.new (tree.alternatives (map mirror_alternative more.now))
work_of (task.Terms settings ts) = terms settings.old settings.new (tree.nodes (map mirror_term ts.now))
work_of (task.Term settings t) = term settings.old settings.new (mirror_term t.now)
work_of (task.EndAlternative s outer) = ending_alternative s (map mirror_term outer)
work_of (task.EndGroup s o d outer) = ending_group s (opener_of o) d (map mirror_alternative outer)
work_of (task.EndQuantifier q) = ending_quantifier q.now.span q.now.min q.now.max q.now.greedy

abbrev pub works_of : List Task → List Work
works_of [] = []
works_of (t ∷ ts) = work_of t ∷ works_of ts

-- what is still to be done, the next first
abbrev pub works : Rewriter → List Work
works r = works_of (reverse r.tasks)

abbrev pub parts_made : Rewriter → Made
parts_made r = record { terms = map mirror_term r.terms; alternatives = map mirror_alternative r.alternatives }

abbrev pub with_task : Rewriter → Task → Rewriter
with_task r t = record r { tasks = r.tasks ++ (t ∷ []) }

-- A term with this mirror is added.
pub record AddsTerm (r : Rewriter) (n : Node) (after : Rewriter) : Type 0 where
  pub made : parts_made after ≡ with_node (parts_made r) n
  pub tasks : after.tasks ≡ r.tasks
  pub what : after.what ≡ r.what
  pub numbers : after.numbers.now ≡ r.numbers.now

-- Where names are to go, these are the numbers of the groups of these names.
abbrev pub IsNumbered : Rewrites → Names → GroupNumbers → Type 0
IsNumbered what names numbers = what.named_capture_groups ≡ true → (bytes : List ℕ) → IsUtf8 bytes → number_at numbers.groups bytes ≡ number_of (chars bytes) names

-- This work can be done: something comes out of it.
pub record IsReady (r : Rewriter) (ws : List Work) : Type 0 where
  pub names : Names
  pub numbered : IsNumbered r.what names r.numbers.now
  pub some : all_worked r.what names ws (parts_made r) ≢ None

-- A piece of work is done, or cut into smaller ones: the same comes out in the end.
pub record Performs (r : Rewriter) (w : Work) (after : Rewriter) : Type 0 where
  pub what : after.what ≡ r.what
  pub numbers : after.numbers.now ≡ r.numbers.now
  pub same : (names : Names) → IsNumbered r.what names r.numbers.now → all_worked r.what names (w ∷ works r) (parts_made r) ≡ all_worked r.what names (works after) (parts_made after)
  pub fewer : weights (works after) < weight w + weights (works r)
