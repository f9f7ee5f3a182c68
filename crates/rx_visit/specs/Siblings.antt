-- Nodes one after the other, as the code holds them.
use Rattle.std.specs.Prelude.{List, [], ◌∷◌, map}
use Rattle.rx_ast.specs.declared.term.Alternative.{Alternative}
use Rattle.rx_ast.specs.declared.term.Term.{Term}
use Rattle.rx_ast.specs.declared.class.CharacterClassContents.{CharacterClassContents}
use Rattle.rx_ast.specs.ClassTree.{mirror_contents}
use Rattle.rx_ast.specs.Kinds.{Kind, alternative, term, class_contents, class_string, character}
use Rattle.rx_ast.specs.MirrorKinds.{mirror_kind}
use Rattle.rx_ast.specs.Tree.{mirror_term, mirror_alternative}
use Rattle.rx_visit.specs.declared.siblings.Siblings.{Siblings}
use Rattle.rx_visit.specs.declared.siblings.Siblings.TheVariants as are

abbrev pub alternative_kind : Alternative → Kind
alternative_kind a = alternative (mirror_alternative a)

abbrev pub term_kind : Term → Kind
term_kind t = term (mirror_term t)

abbrev pub contents_kind : CharacterClassContents → Kind
contents_kind c = class_contents (mirror_contents c)

abbrev pub in_order : Siblings → List Kind
in_order are.Nothing = []
in_order (are.Node node) = mirror_kind node ∷ []
in_order (are.Alternatives alternatives) = map alternative_kind alternatives.now
in_order (are.Terms terms) = map term_kind terms.now
in_order (are.Contents contents) = map contents_kind contents.now
in_order (are.Ends range) = character range.now.min ∷ character range.now.max ∷ []
in_order (are.Strings strings) = map class_string strings.now
in_order (are.Characters characters) = map character characters.now
