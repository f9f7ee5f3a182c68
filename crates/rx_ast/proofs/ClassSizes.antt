-- Sizes of classes and of what is in them.
use Rattle.std.proofs.Common.{◌≡◌, refl, ap, ◌∙◌, ℕ, zero, suc, ◌+◌, ◌<◌, ◌≤◌, List, [], ◌∷◌, ◌++◌, length, get_or, arith}
use Rattle.std.specs.declared.alloc.Global.{Global}
use Rattle.std.specs.declared.boxed.Box.{Box}
use Rattle.rx_ast.specs.declared.class.CharacterClass.{CharacterClass}
use Rattle.rx_ast.specs.declared.class.CharacterClassContents.{CharacterClassContents}
use Rattle.rx_ast.specs.declared.class.CharacterClassContents.TheVariants as contents
use Rattle.rx_ast.specs.ClassTree.{Member, range, escape, property, character, nested, strings, mirror_contents}
use Rattle.rx_ast.specs.Size.{member_size, class_size, contents_size, all_contents_size}
use Rattle.rx_ast.proofs.ClassEquations.{nested_is, class_is}

pub size_of_nested : (c : Box CharacterClass Global) → contents_size (contents.NestedCharacterClass c) ≡ 1 + all_contents_size c.value.body
unfolding contents_size all_contents_size
size_of_nested c = ap member_size (nested_is c) ∙ ap (λ m. 1 + class_size m) (class_is c.value)

pub no_contents : all_contents_size [] ≡ 0
unfolding all_contents_size
no_contents = refl

pub contents_last : (cs : List CharacterClassContents) (c : CharacterClassContents) → all_contents_size (cs ++ (c ∷ [])) ≡ all_contents_size cs + contents_size c
unfolding all_contents_size contents_size
contents_last [] c = omega arith
contents_last (b ∷ cs) c = let h = contents_last cs c in omega arith

-- contents at an index are no larger than all
pub contents_within : (cs : List CharacterClassContents) (i : ℕ) (c : CharacterClassContents) → i < length cs → c ≡ get_or cs i c → contents_size c ≤ all_contents_size cs
unfolding contents_size all_contents_size
contents_within [] i c h e = absurd (omega arith)
contents_within (b ∷ cs) zero c h e = rw e (omega arith)
contents_within (b ∷ cs) (suc i) c h e = let within = contents_within cs i c (omega arith) e in omega arith

member_positive : (m : Member) → 0 < member_size m
member_positive (range r) = omega arith
member_positive (escape e) = omega arith
member_positive (property p) = omega arith
member_positive (character c) = omega arith
member_positive (nested c) = omega arith
member_positive (strings d) = omega arith

pub contents_positive : (c : CharacterClassContents) → 0 < contents_size c
unfolding contents_size
contents_positive c = member_positive (mirror_contents c)

pub ruleset class_sizes = (contents_positive, size_of_nested, no_contents, contents_last)
