-- What the own record of a node tells of it.
use Rattle.std.proofs.Common.{◌≡◌, refl, sym, nat_eq, ◌+◌, cond, Some, None, is_some, [], ◌∷◌, ◌++◌, append-nil, length}
use Rattle.rx_ast.specs.ClassTree as in_class
use Rattle.rx_ast.specs.Kinds.{Kind, capturing_group, property_escape, class, named_reference}
use Rattle.rx_records.specs.declared.node.Node.{Node}
use Rattle.rx_records.specs.Law.{name_in, value_in}
use Rattle.rx_records.specs.Nodes.{Before, bytes_of, optional_range, own, own_index, own_text}
use Rattle.rx_records.specs.Ranges.{no_range}

-- a record but for where its names stand, and its place among others
abbrev pub unplaced : Node → Node
unplaced node = record node { children = 0; next = 0; name = no_range; property_value = no_range }

-- what a record says of the names of its node
pub record Names (before : Before) (k : Kind) : Type 0 where
  pub text : own_text k ≡ bytes_of (name_in k) ++ bytes_of (value_in k)
  pub has_name : (own before k).has_name ≡ is_some (name_in k)
  pub has_value : (own before k).has_property_value ≡ is_some (value_in k)
  pub name : (own before k).name ≡ optional_range before.bytes (name_in k)
  pub value : (own before k).property_value ≡ optional_range (before.bytes + length (bytes_of (name_in k))) (value_in k)
  pub place : own_index before k ≡ cond (nat_eq (own before k).node_type 6) (before.nodes ∷ []) []

pub names : (before : Before) (k : Kind) → Names before k
names before (capturing_group s None d) = record { text = refl; has_name = refl; has_value = refl; name = refl; value = refl; place = refl }
names before (capturing_group s (Some name) d) = record { text = sym (append-nil _); has_name = refl; has_value = refl; name = refl; value = refl; place = refl }
names before (property_escape p) = record { text = refl; has_name = refl; has_value = refl; name = refl; value = refl; place = refl }
names before (named_reference r) = record { text = sym (append-nil _); has_name = refl; has_value = refl; name = refl; value = refl; place = refl }
names before (class (in_class.class s negative strings kind ms)) = record { text = refl; has_name = refl; has_value = refl; name = refl; value = refl; place = refl }
names before k = record { text = refl; has_name = refl; has_value = refl; name = refl; value = refl; place = refl }
