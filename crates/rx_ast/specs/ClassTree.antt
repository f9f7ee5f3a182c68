-- A character class as plain data: no pointers, all else kept. Every definition on classes recurses on it.
use Rattle.std.specs.Prelude.{Bool, List, [], ◌∷◌}
use Rattle.rx_base.specs.declared.span.Span.{Span}
use Rattle.rx_ast.specs.declared.leaf.Character.{Character}
use Rattle.rx_ast.specs.declared.leaf.CharacterClassEscape.{CharacterClassEscape}
use Rattle.rx_ast.specs.declared.leaf.UnicodePropertyEscape.{UnicodePropertyEscape}
use Rattle.rx_ast.specs.declared.class.CharacterClassContentsKind.{CharacterClassContentsKind}
use Rattle.rx_ast.specs.declared.class.CharacterClassRange.{CharacterClassRange}
use Rattle.rx_ast.specs.declared.class.ClassStringDisjunction.{ClassStringDisjunction}
use Rattle.rx_ast.specs.declared.class.CharacterClass.{CharacterClass}
use Rattle.rx_ast.specs.declared.class.CharacterClassContents.{CharacterClassContents}
use Rattle.rx_ast.specs.declared.class.CharacterClassContents.TheOpen as layer
use Rattle.rx_ast.specs.declared.class.CharacterClassContents.TheOpen.{CharacterClassContents-F, CharacterClass-F}
use Rattle.rx_ast.specs.declared.class.CharacterClassContents.TheFolds.{fold-CharacterClassContents, fold-CharacterClass}

mutual
  pub data Member : Type 0 where
    range : CharacterClassRange → Member
    escape : CharacterClassEscape → Member
    property : UnicodePropertyEscape → Member
    character : Character → Member
    nested : Class → Member
    strings : ClassStringDisjunction → Member

  pub data Members : Type 0 where
    no_member : Members
    member : Member → Members → Members

  -- its span, whether it is negative, whether it may have strings, its kind and its contents
  pub data Class : Type 0 where
    class : Span → Bool → Bool → CharacterClassContentsKind → Members → Class

abbrev pub members : List Member → Members
members [] = no_member
members (m ∷ ms) = member m (members ms)

abbrev pub contents_step : CharacterClassContents-F Member Class → Member
contents_step (layer.CharacterClassRange b) = range b.value
contents_step (layer.CharacterClassEscape b) = escape b
contents_step (layer.UnicodePropertyEscape b) = property b.value
contents_step (layer.Character b) = character b
contents_step (layer.NestedCharacterClass b) = nested b.value
contents_step (layer.ClassStringDisjunction b) = strings b.value

abbrev pub class_step : CharacterClass-F Member Class → Class
class_step c = class c.span c.negative c.strings c.kind (members c.body)

unfoldable pub mirror_contents : CharacterClassContents → Member
mirror_contents = fold-CharacterClassContents Member Class contents_step class_step

unfoldable pub mirror_class : CharacterClass → Class
mirror_class = fold-CharacterClass Member Class contents_step class_step
