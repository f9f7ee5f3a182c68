-- A class between its brackets, and the class of some members.
use Rattle.std.specs.Prelude.{◌≡◌, Bool, List, ◌++◌}
use Rattle.rx_base.specs.Ascii as ascii
use Rattle.rx_ast.specs.declared.class.CharacterClassContentsKind.{CharacterClassContentsKind}
use Rattle.rx_ast.specs.ClassTree.{Class, Member, class, members}
use Rattle.rx_ast.specs.Forget.{nowhere}
use Rattle.rx_units.specs.declared.code_point.CodePoint.{CodePoint}
use Rattle.rx_model.specs.Classes.ClassRows.{SpellsBracket}
use Rattle.rx_model.specs.Trees.Early.{may_contain_strings}

-- The units w are `[^` or a `[` before no `^`, contents, and `]` (CharacterClass, 22.2.1). All that follows the bracket is `inside`: the contents lead from there to
-- the closer, before rest.
pub record InBrackets (negative : Bool) (w rest : List CodePoint) : Type 0 where
  pub bracket : List CodePoint
  pub inside : List CodePoint
  pub closer : CodePoint
  pub whole : w ++ rest ≡ bracket ++ inside
  pub bracket_is : SpellsBracket negative bracket inside
  pub closer_is : closer.value ≡ ascii.right_bracket

-- the class of these members, without spans
abbrev pub class_of_members : Bool → CharacterClassContentsKind → List Member → Class
class_of_members negative kind ms = class nowhere negative (may_contain_strings kind (members ms)) kind (members ms)
