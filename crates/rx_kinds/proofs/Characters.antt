-- Only a character has the mirror of one.
use Rattle.std.proofs.Common.{◌≡◌, refl}
use Rattle.rx_ast.specs.declared.leaf.Character.{Character}
use Rattle.rx_ast.specs.declared.class.CharacterClassContents.{CharacterClassContents}
use Rattle.rx_ast.specs.declared.class.CharacterClassContents.TheVariants as contents
use Rattle.rx_ast.specs.declared.term.Term.{Term}
use Rattle.rx_ast.specs.declared.term.Term.TheVariants as term
use Rattle.rx_ast.specs.ClassTree as in_class
use Rattle.rx_ast.specs.ClassTree.{Member, mirror_contents}
use Rattle.rx_ast.specs.Kinds.{character, in_contents, in_term}
use Rattle.rx_ast.specs.Tree as tree
use Rattle.rx_ast.specs.Tree.{Node, leaf, quantified, group, mirror_term}
use Rattle.rx_ast.proofs.ClassShapes as class_shapes
use Rattle.rx_ast.proofs.TermShapes as term_shapes

node_is : (n : Node) (c : Character) → in_term n ≡ character c → n ≡ leaf (tree.character c)
node_is (leaf (tree.boundary b)) c e = cc
node_is (leaf (tree.character x)) c e = cc
node_is (leaf (tree.dot d)) c e = cc
node_is (leaf (tree.class_escape x)) c e = cc
node_is (leaf (tree.property p)) c e = cc
node_is (leaf (tree.class x)) c e = cc
node_is (leaf (tree.indexed r)) c e = cc
node_is (leaf (tree.named r)) c e = cc
node_is (quantified s min max greedy n) c e = cc
node_is (group s (tree.capturing name) d more) c e = cc
node_is (group s (tree.ignoring modifiers) d more) c e = cc
node_is (group s (tree.looking kind) d more) c e = cc

-- a term that is no character is none in the mirror
pub term_is_none : (t : Term) → ((x : Character) → t ≡ term.Character x → ⊥) → (c : Character) → in_term (mirror_term t) ≡ character c → ⊥
term_is_none t other c e = let is = term_shapes.one_variant t t (leaf (tree.character c)) (node_is (mirror_term t) c e) refl in other is.0 is.1

member_is : (m : Member) (c : Character) → in_contents m ≡ character c → m ≡ in_class.character c
member_is (in_class.range r) c e = cc
member_is (in_class.escape x) c e = cc
member_is (in_class.property p) c e = cc
member_is (in_class.character x) c e = cc
member_is (in_class.nested x) c e = cc
member_is (in_class.strings d) c e = cc

-- an item of a class that is no character is none in the mirror
pub item_is_none : (k : CharacterClassContents) → ((x : Character) → k ≡ contents.Character x → ⊥) → (c : Character) → in_contents (mirror_contents k) ≡ character c → ⊥
item_is_none k other c e = let is = class_shapes.one_variant k k (in_class.character c) (member_is (mirror_contents k) c e) refl in other is.0 is.1
