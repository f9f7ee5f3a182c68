-- What the code holds of the nodes before a node in its parent, and what it answers.
use Rattle.std.specs.Prelude.{◌≡◌, ℕ, ◌&&◌, Bool, true, false, Option, List, [], ◌∷◌, ◌++◌, length, map}
use Rattle.std.specs.Borrow.{Bor}
use Rattle.std.specs.BTreeSet.{BTreeSet, contains}
use Rattle.std.specs.Cmp.Lexicographic.{slice_cmp}
use Rattle.std.specs.declared.cmp.Ordering.{Ordering}
use Rattle.std.specs.List.{list_any}
use Rattle.std.specs.Ordering.{nat_cmp, ordering_then}
use Rattle.std.specs.Str.{bytes_eq}
use Rattle.rx_ast.specs.ClassTree.{Member}
use Rattle.rx_ast.specs.Kinds.{Kind, alternative, class_contents}
use Rattle.rx_ast.specs.Tree.{SpannedNodes}
use Rattle.rx_lint.specs.declared.earlier.Earlier.{Earlier}
use Rattle.rx_lint.specs.declared.earlier.Earlier.TheVariants.{Unasked, Items, Alternatives}
use Rattle.rx_lint.specs.declared.earlier.Mark.{Mark}
use Rattle.rx_lint.specs.declared.items.Items as item
use Rattle.rx_lint.specs.Items.{AreItems}
use Rattle.rx_lint.specs.Numbers.{numbers}
use Rattle.rx_lint.specs.Rules.{is_union, is_useless_after, has_two_or_more, is_empty_alternative, is_equal_to}

-- an alternative by how many numbers it is, and the numbers
abbrev pub Row : Type 0
Row = ℕ × Bor (List ℕ)

-- by how many they are, and then by the numbers
abbrev pub row_cmp : Row → Row → Ordering
row_cmp a b = ordering_then (nat_cmp a.0 b.0) (slice_cmp nat_cmp a.1.now b.1.now)

-- A set has the rows of some alternatives.
pub record HasRows (seen : BTreeSet Row) (rows : List (List ℕ)) : Type 0 where
  pub found : (q : Row) → q.0 ≡ length q.1.now → contains row_cmp seen q ≡ list_any (λ row. bytes_eq row q.1.now) rows

-- what a mark says of a node that is an item, and of one that is an alternative
abbrev pub is_repeated_item : Mark → Kind → Bool
is_repeated_item mark (class_contents m) = mark.is_repeated
is_repeated_item mark _ = false

abbrev pub is_repeated_alternative : Mark → Kind → Bool
is_repeated_alternative mark (alternative a) = mark.is_repeated
is_repeated_alternative mark _ = false

-- A mark says of a node what the rules ask of the nodes before it in its parent.
pub record IsMark (mark : Mark) (parent : Option Kind) (before : List Kind) (k : Kind) : Type 0 where
  pub item : (is_union parent && list_any (is_useless_after k) before) ≡ is_repeated_item mark k
  pub many : (is_empty_alternative k && has_two_or_more parent) ≡ (is_empty_alternative k && mark.is_one_of_many)
  pub equal : list_any (is_equal_to k) before ≡ is_repeated_alternative mark k

-- No rule asks of the nodes before any of these nodes.
abbrev pub AreUnasked : Option Kind → List Kind → List Kind → Type 0
AreUnasked parent before [] = Unit {0}
AreUnasked parent before (k ∷ ks) = IsMark (record { is_repeated = false; is_one_of_many = false }) parent before k × AreUnasked parent (before ++ (k ∷ [])) ks

-- Held items are the items before others of a class that is a union.
pub record AreItemsBefore (items : item.Items) (parent : Option Kind) (before ks : List Kind) : Type 0 where
  pub union : is_union parent ≡ true
  pub earlier : List Member
  pub before_is : before ≡ map class_contents earlier
  pub held : AreItems items earlier
  pub later : List Member
  pub next_is : ks ≡ map class_contents later

-- A set has the rows of the alternatives before others of a disjunction of two or more.
pub record AreRowsBefore (rows : BTreeSet Row) (parent : Option Kind) (before ks : List Kind) : Type 0 where
  pub many : has_two_or_more parent ≡ true
  pub earlier : List SpannedNodes
  pub before_is : before ≡ map alternative earlier
  pub held : HasRows rows (map numbers before)
  pub later : List SpannedNodes
  pub next_is : ks ≡ map alternative later

-- What is held is of the nodes before others in a parent, as far as a rule asks for them there.
abbrev pub AreEarlier : Earlier → Option Kind → List Kind → List Kind → Type 0
AreEarlier Unasked parent before ks = AreUnasked parent before ks
AreEarlier (Items items) parent before ks = AreItemsBefore items parent before ks
AreEarlier (Alternatives rows) parent before ks = AreRowsBefore rows parent before ks
