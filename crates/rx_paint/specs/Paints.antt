-- What each node is painted as.
use Rattle.std.specs.Prelude.{Option, Some, None, unwrap_or, List}
use Rattle.rx_base.specs.declared.span.Span.{Span}
use Rattle.rx_ast.specs.declared.leaf.CharacterKind.{CharacterKind}
use Rattle.rx_ast.specs.declared.leaf.CharacterKind.TheVariants.{Symbol}
use Rattle.rx_ast.specs.Kinds as kinds
use Rattle.rx_ast.specs.Tree.{Whole}
use Rattle.rx_paint.specs.declared.token.Kind.{Kind}
use Rattle.rx_paint.specs.declared.token.Kind.TheVariants as paints
use Rattle.rx_paint.specs.declared.token.Token.{Token}
use Rattle.rx_ast.specs.Forest.{Forest}
use Rattle.rx_ast.specs.Parts.{Part, node_part, modifiers_part, part_span, forest, forest_of_all}

-- a token with this span and kind
abbrev pub token_of : Span → Kind → Token
token_of s k = record { span = s; kind = k }

-- what a character is painted as, by the way it is written
abbrev pub character_paint : CharacterKind → Kind
character_paint Symbol = paints.Char
character_paint _ = paints.Escape

-- what the offsets that a node owns are painted as, or none where it counts as the node in it
abbrev pub own_paint : kinds.Kind → Option Kind
own_paint (kinds.pattern p) = Some paints.Other
own_paint (kinds.disjunction d) = Some paints.Bar
own_paint (kinds.alternative a) = Some paints.Other
own_paint (kinds.term n) = None
own_paint (kinds.look_around s kind d) = Some paints.Group
own_paint (kinds.quantifier s min max greedy n) = Some paints.Quantifier
own_paint (kinds.capturing_group s name d) = Some paints.Group
own_paint (kinds.ignore_group s modifiers d) = Some paints.Group
own_paint (kinds.boundary_assertion b) = Some paints.Assert
own_paint (kinds.character c) = Some (character_paint c.kind)
own_paint (kinds.dot d) = Some paints.Dot
own_paint (kinds.class_escape e) = Some paints.Set
own_paint (kinds.property_escape p) = Some paints.Set
own_paint (kinds.class c) = Some paints.Class
own_paint (kinds.class_contents m) = None
own_paint (kinds.class_range r) = Some paints.Class
own_paint (kinds.string_disjunction d) = Some paints.Class
own_paint (kinds.class_string s) = Some paints.Class
own_paint (kinds.indexed_reference r) = Some paints.Reference
own_paint (kinds.named_reference r) = Some paints.Reference

-- the same of a node of the forest
abbrev pub part_paint : Part → Kind
part_paint (node_part k) = unwrap_or (own_paint k) paints.Other
part_paint (modifiers_part m) = paints.Modifier

-- a node of the forest as a token: its span, and what it is painted as
abbrev pub part_token : Part → Token
part_token part = token_of (part_span part) (part_paint part)

-- the pattern itself as a token, which owns what no node in it holds
abbrev pub root_token : Whole → Token
root_token p = token_of p.0 paints.Other

-- a node with the nodes in it as tokens, and then the tokens after it
abbrev pub token_forest : kinds.Kind → Forest Token → Forest Token
token_forest k after = forest part_token k after

-- nodes one after another, and then the tokens after them
abbrev pub token_forest_of_all : List kinds.Kind → Forest Token → Forest Token
token_forest_of_all ks after = forest_of_all part_token ks after
