-- How a class is spelled canonically.
use Rattle.std.specs.Prelude.{ℕ, List, [], ◌∷◌, ◌++◌, codes}
use Rattle.rx_ast.specs.declared.leaf.Character.{Character}
use Rattle.rx_ast.specs.declared.class.ClassString.{ClassString}
use Rattle.rx_ast.specs.ClassTree.{Member, Members, Class, range, escape, property, character, nested, strings, no_member, member, class}
use Rattle.rx_ast.specs.Texts.{class_escape_text, class_opener, operator_text, property_text}
use Rattle.rx_model.specs.declared.mode.Mode.{Mode}
use Rattle.rx_model.specs.Spelling.CharacterText.{in_class, character_text}

abbrev pub in_class_text : Mode → Character → List ℕ
in_class_text mode c = character_text mode in_class c.value

abbrev pub characters_text : Mode → List Character → List ℕ
characters_text mode [] = []
characters_text mode (c ∷ cs) = in_class_text mode c ++ characters_text mode cs

-- each after a bar
abbrev pub barred_strings_text : Mode → List ClassString → List ℕ
barred_strings_text mode [] = []
barred_strings_text mode (s ∷ ss) = codes "|" ++ (characters_text mode s.body ++ barred_strings_text mode ss)

abbrev pub strings_text : Mode → List ClassString → List ℕ
strings_text mode [] = []
strings_text mode (s ∷ ss) = characters_text mode s.body ++ barred_strings_text mode ss

abbrev mutual
  pub member_text : Mode → Member → List ℕ
  member_text mode (range r) = in_class_text mode r.min ++ (codes "-" ++ in_class_text mode r.max)
  member_text mode (escape e) = class_escape_text e.kind
  member_text mode (property p) = property_text p.negative p.name p.value
  member_text mode (character c) = in_class_text mode c
  member_text mode (nested c) = class_text mode c
  member_text mode (strings d) = codes "\\q{" ++ (strings_text mode d.body ++ codes "}")

  pub class_text : Mode → Class → List ℕ
  class_text mode (class s negative may kind ms) = class_opener negative ++ (members_text mode (operator_text kind) ms ++ codes "]")

  pub members_text : Mode → List ℕ → Members → List ℕ
  members_text mode operator no_member = []
  members_text mode operator (member m ms) = member_text mode m ++ more_members_text mode operator ms

  -- each after the operator
  pub more_members_text : Mode → List ℕ → Members → List ℕ
  more_members_text mode operator no_member = []
  more_members_text mode operator (member m ms) = operator ++ (member_text mode m ++ more_members_text mode operator ms)
