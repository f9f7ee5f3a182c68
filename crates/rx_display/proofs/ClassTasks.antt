-- What is written of a class, by the first of its contents and the others.
use Rattle.std.proofs.Common.{◌≡◌, refl, ℕ, Bool, true, false, ◌+◌, List, [], ◌∷◌, ◌++◌, append_assoc, map, codes, Option}
use Rattle.std.specs.Option.{is_some}
use Rattle.rx_ast.specs.declared.class.CharacterClass.{CharacterClass}
use Rattle.rx_ast.specs.declared.class.CharacterClassContents.{CharacterClassContents}
use Rattle.rx_ast.specs.ClassTree.{members, mirror_class, mirror_contents}
use Rattle.rx_ast.specs.Shown.{class_shown, member_pair, member_shown, more_members_shown, pair_or}
use Rattle.rx_ast.specs.Size.{all_contents_size, contents_size}
use Rattle.rx_ast.specs.Texts.{class_opener, operator_text}
use Rattle.rx_ast.proofs.ClassEquations.{class_is}

pub first_contents_size : (all : List CharacterClassContents) (first : CharacterClassContents) (others : List CharacterClassContents) → all ≡ first ∷ others →
    all_contents_size all ≡ contents_size first + all_contents_size others
unfolding all_contents_size contents_size
first_contents_size all first others cut = rw cut refl

-- what a task for the rest of a class is to write
abbrev pub rest_of_class : List ℕ → Bool → List CharacterClassContents → List ℕ
rest_of_class operator joined ms = more_members_shown operator joined (members (map mirror_contents ms)) ++ codes "]"

-- the pair that the first is written as with the next
abbrev pub contents_pair : CharacterClassContents → List CharacterClassContents → Option ℕ
contents_pair first others = member_pair (mirror_contents first) (members (map mirror_contents others))

pub class_none : (c : CharacterClass) (all : List CharacterClassContents) → all ≡ c.body → all ≡ [] → class_shown (mirror_class c) ≡ class_opener c.negative ++ codes "]"
class_none c all same none = rw (class_is c, ← same, none) refl

module _ (all : List CharacterClassContents) (first : CharacterClassContents) (others : List CharacterClassContents) (follows : Bool) (cut : all ≡ first ∷ others) (is : follows ≡ is_some (contents_pair first others)) where
  pub class_cut : (c : CharacterClass) → all ≡ c.body →
      class_shown (mirror_class c) ≡ class_opener c.negative ++ (pair_or (contents_pair first others) (member_shown (mirror_contents first)) ++ rest_of_class (operator_text c.kind) follows others)
  class_cut c same = rw (class_is c, ← same, cut, is) (simp append_assoc)

  pub rest_cut : (operator : List ℕ) (joined : Bool) → joined ≡ false →
      rest_of_class operator joined all ≡ operator ++ (pair_or (contents_pair first others) (member_shown (mirror_contents first)) ++ rest_of_class operator follows others)
  rest_cut operator joined alone = rw (cut, alone, is) (simp append_assoc)

  -- The first was written together with the one before it.
  pub joined_rest_cut : (operator : List ℕ) (joined : Bool) → joined ≡ true → rest_of_class operator joined all ≡ rest_of_class operator follows others
  joined_rest_cut operator joined together = rw (cut, together, is) refl
