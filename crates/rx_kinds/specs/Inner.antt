-- Terms and items of classes, and the nodes that they are.
use Rattle.std.specs.Prelude.{◌≢◌, Bool, true, false}
use Rattle.rx_ast.specs.declared.leaf.Character.{Character}
use Rattle.rx_ast.specs.Kinds.{Kind, character, class_contents, in_contents, in_term, term}

-- A term and the contents of a class are no nodes of their own: they are the node in them.
abbrev pub is_node : Kind → Bool
is_node (term n) = false
is_node (class_contents m) = false
is_node _ = true

-- the node that a term or the contents of a class are; any other is itself
abbrev pub node_of : Kind → Kind
node_of (term n) = in_term n
node_of (class_contents m) = in_contents m
node_of k = k

-- neither a character nor a term or an item of a class that is one
abbrev pub IsNoCharacter : Kind → Type 0
IsNoCharacter k = (c : Character) → node_of k ≢ character c
