-- What is written of a class, by the first of its contents and the others.
use Rattle.std.proofs.Common.{◌≡◌, refl, ℕ, List, [], ◌∷◌, ◌++◌, append_assoc, map, codes}
use Rattle.rx_ast.specs.declared.class.CharacterClass.{CharacterClass}
use Rattle.rx_ast.specs.declared.class.CharacterClassContents.{CharacterClassContents}
use Rattle.rx_ast.specs.ClassTree.{members, mirror_class, mirror_contents}
use Rattle.rx_ast.specs.Texts.{class_opener, operator_text}
use Rattle.rx_ast.proofs.ClassEquations.{class_is}
use Rattle.rx_model.specs.declared.mode.Mode.{Mode}
use Rattle.rx_model.specs.Spelling.ClassText.{class_text, member_text, more_members_text}

-- what a task for the rest of a class is to write
abbrev pub rest_of_class : Mode → List ℕ → List CharacterClassContents → List ℕ
rest_of_class mode operator ms = more_members_text mode operator (members (map mirror_contents ms)) ++ codes "]"

pub class_none : (mode : Mode) (c : CharacterClass) (all : List CharacterClassContents) → all ≡ c.body → all ≡ [] → class_text mode (mirror_class c) ≡ class_opener c.negative ++ codes "]"
class_none mode c all same none = rw (class_is c, ← same, none) refl

module _ (mode : Mode) (all : List CharacterClassContents) (first : CharacterClassContents) (others : List CharacterClassContents) (cut : all ≡ first ∷ others) where
  pub class_cut : (c : CharacterClass) → all ≡ c.body →
      class_text mode (mirror_class c) ≡ class_opener c.negative ++ (member_text mode (mirror_contents first) ++ rest_of_class mode (operator_text c.kind) others)
  class_cut c same = rw (class_is c, ← same, cut) (simp append_assoc)

  pub rest_cut : (operator : List ℕ) → rest_of_class mode operator all ≡ operator ++ (member_text mode (mirror_contents first) ++ rest_of_class mode operator others)
  rest_cut operator = rw cut (simp append_assoc)
