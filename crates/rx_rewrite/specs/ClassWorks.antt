-- What is still to be copied of a class, and what comes out of it.
use Rattle.std.specs.Prelude.{◌≡◌, ℕ, ◌+◌, ◌<◌, Bool, List, [], ◌∷◌, ◌++◌, map, reverse}
use Rattle.rx_base.specs.declared.span.Span.{Span}
use Rattle.rx_ast.specs.declared.class.CharacterClassContentsKind.{CharacterClassContentsKind}
use Rattle.rx_ast.specs.ClassTree.{Member, Members, Class, range, escape, property, character, nested, strings, no_member, member, members, class, mirror_contents}
use Rattle.rx_rewrite.specs.declared.copy_class.Copier.{Copier}
use Rattle.rx_rewrite.specs.declared.copy_class.ClassTask.{ClassTask}
use Rattle.rx_rewrite.specs.declared.copy_class.ClassTask.TheVariants as task

pub data ClassWork : Type 0 where
  contents : Members → ClassWork
  one : Member → ClassWork
  -- the end of a nested class that stands after these members
  ending : Span → Bool → Bool → CharacterClassContentsKind → List Member → ClassWork

abbrev pub listed_members : Members → List Member
listed_members no_member = []
listed_members (member m ms) = m ∷ listed_members ms

abbrev pub members_after_work : ClassWork → List Member → List Member
members_after_work (contents ms) made = made ++ listed_members ms
members_after_work (one m) made = made ++ (m ∷ [])
members_after_work (ending s negative may_have_strings kind before) made = before ++ (nested (class s negative may_have_strings kind (members made)) ∷ [])

abbrev pub members_after_works : List ClassWork → List Member → List Member
members_after_works [] made = made
members_after_works (w ∷ ws) made = members_after_works ws (members_after_work w made)

-- the most pieces of work that are made of a class
abbrev mutual
  pub member_weight : Member → ℕ
  member_weight (range r) = 1
  member_weight (escape e) = 1
  member_weight (property p) = 1
  member_weight (character c) = 1
  member_weight (nested c) = 3 + class_weight c
  member_weight (strings d) = 1

  pub members_weight : Members → ℕ
  members_weight no_member = 0
  members_weight (member m ms) = 1 + member_weight m + members_weight ms

  pub class_weight : Class → ℕ
  class_weight (class s negative may_have_strings kind ms) = members_weight ms

abbrev pub work_weight : ClassWork → ℕ
work_weight (contents ms) = 1 + members_weight ms
work_weight (one m) = member_weight m
work_weight (ending s negative may_have_strings kind before) = 1

abbrev pub work_weights : List ClassWork → ℕ
work_weights [] = 0
work_weights (w ∷ ws) = work_weight w + work_weights ws

abbrev pub class_work : ClassTask → ClassWork
class_work (task.Contents cs) = contents (members (map mirror_contents cs.now))
class_work (task.EndClass c before) = ending c.now.span c.now.negative c.now.strings c.now.kind (map mirror_contents before)

abbrev pub class_works_of : List ClassTask → List ClassWork
class_works_of [] = []
class_works_of (t ∷ ts) = class_work t ∷ class_works_of ts

abbrev pub class_works : Copier → List ClassWork
class_works c = class_works_of (reverse c.tasks)

abbrev pub with_class_task : Copier → ClassTask → Copier
with_class_task c t = record c { tasks = c.tasks ++ (t ∷ []) }

-- A piece of work is done, or cut into smaller ones: the same comes out in the end.
pub record Copies (c : Copier) (w : ClassWork) (after : Copier) : Type 0 where
  pub same : members_after_works (w ∷ class_works c) (map mirror_contents c.body) ≡ members_after_works (class_works after) (map mirror_contents after.body)
  pub fewer : work_weights (class_works after) < work_weight w + work_weights (class_works c)
