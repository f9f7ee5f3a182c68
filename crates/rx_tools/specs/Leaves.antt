-- Terms in which nothing nests, and what is left of an alternative.
use Rattle.std.specs.Prelude.{◌≡◌, ℕ, Bool, true, false, if◌then◌else◌, List, [], ◌++◌, map, Option, Result, Ok, Err, IfOk, OnErr}
use Rattle.std.specs.Io.KnownBytes.{Appends}
use Rattle.rx_ast.specs.ClassTree as in_class
use Rattle.rx_ast.specs.ClassTree.{Member, Members, Class, no_member, member}
use Rattle.rx_ast.specs.Tree as tree
use Rattle.rx_ast.specs.Tree.{Leaf, Node, leaf, quantified, group, nodes, mirror_term}
use Rattle.rx_base.specs.FaultCounts.{CountsFaults}
use Rattle.rx_base.specs.Writing.{AppendsFront}
use Rattle.rx_model.specs.declared.mode.Mode.{Mode}
use Rattle.rx_model.specs.Spelling.Spelling.{nodes_text}
use Rattle.rx_tools.specs.declared.leaf.Rest.{Rest}
use Rattle.rx_tools.specs.Utf8.{utf8}

-- whether it is a class
abbrev pub is_nested : Member → Bool
is_nested (in_class.range r) = false
is_nested (in_class.escape e) = false
is_nested (in_class.property p) = false
is_nested (in_class.character c) = false
is_nested (in_class.nested c) = true
is_nested (in_class.strings d) = false

-- whether no class stands among these
abbrev pub are_flat : Members → Bool
are_flat no_member = true
are_flat (member m ms) = if is_nested m then false else are_flat ms

abbrev pub is_flat : Class → Bool
is_flat (in_class.class s negative may kind ms) = are_flat ms

-- whether nothing nests in it: no term, and no class in a class
abbrev pub is_single : Leaf → Bool
is_single (tree.boundary b) = true
is_single (tree.character c) = true
is_single (tree.dot d) = true
is_single (tree.class_escape e) = true
is_single (tree.property p) = true
is_single (tree.class c) = is_flat c
is_single (tree.indexed r) = true
is_single (tree.named r) = true

abbrev pub is_leaf : Node → Bool
is_leaf (leaf l) = is_single l
is_leaf (quantified s min max greedy n) = false
is_leaf (group s o d more) = false

-- the spelling of what is left of an alternative
abbrev pub rest_text : Mode → Rest → List ℕ
rest_text mode rest = nodes_text mode rest.after_reference (nodes (map mirror_term rest.terms.now))

-- A front of the text was written, and what is left is to be written after it; or the sink had a fault, and at least one byte of the text is missing.
pub record WritesFront {K T E : Type 0} (taken : K → Option (List ℕ)) (fixed : K → List ℕ) (faults : K → ℕ) (old new : K) (result : Result T E) (text : List ℕ) (left_text : T → List ℕ) : Type 0 where
  pub front : IfOk result (λ left. (front : List ℕ) × Appends (taken old) (taken new) (utf8 front) × (text ≡ front ++ left_text left))
  pub part : OnErr result (AppendsFront (taken old) (taken new) (utf8 text))
  pub kept : fixed new ≡ fixed old
  pub cause : CountsFaults (faults old) (faults new) result

-- what was written of a text by a call that answers whether it wrote it
abbrev pub unless_left : {E : Type 0} → Result Bool E → List ℕ → List ℕ
unless_left (Ok true) text = text
unless_left (Ok false) text = []
unless_left (Err e) text = text
