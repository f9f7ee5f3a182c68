-- Classes of the same content.
use Rattle.std.proofs.Common.{◌≡◌, refl, ap, sym, ◌∙◌, Bool, true, false, List, [], ◌∷◌, map}
use Rattle.std.specs.List.{AllZip}
use Rattle.std.proofs.lemmas.Bool.{true≢false}
use Rattle.rx_ast.specs.declared.class.CharacterClass.{CharacterClass}
use Rattle.rx_ast.specs.declared.class.CharacterClassContents.{CharacterClassContents}
use Rattle.rx_ast.specs.declared.class.CharacterClassContentsKind.{CharacterClassContentsKind}
use Rattle.rx_ast.specs.ClassTree.{Member, Members, Class, no_member, member, members, class, mirror_contents, mirror_class}
use Rattle.rx_ast.specs.Forget.{nowhere, forget_member, forget_members, forget_class, same_kind}
use Rattle.rx_ast.proofs.ClassEquations.{class_is}

-- what counts of a thing in a class, and of a class
abbrev pub member_of : CharacterClassContents → Member
member_of c = forget_member same_kind (mirror_contents c)

abbrev pub class_of : CharacterClass → Class
class_of c = forget_class same_kind (mirror_class c)

abbrev pub SameMembers : List CharacterClassContents → List CharacterClassContents → Type 0
SameMembers xs ys = AllZip (λ x y. member_of x ≡ member_of y) xs ys

abbrev members_of : List CharacterClassContents → Members
members_of xs = forget_members same_kind (members (map mirror_contents xs))

members_from_each : (xs ys : List CharacterClassContents) → SameMembers xs ys → members_of xs ≡ members_of ys
members_from_each [] [] h = refl
members_from_each [] (y ∷ ys) h = absurd h
members_from_each (x ∷ xs) [] h = absurd h
members_from_each (x ∷ xs) (y ∷ ys) h = ap (λ m. member m (members_of xs)) h.0 ∙ ap (λ ms. member (member_of y) ms) (members_from_each xs ys h.1)

abbrev first_or : Member → Members → Member
first_or default no_member = default
first_or default (member m ms) = m

abbrev after_first : Members → Members
after_first no_member = no_member
after_first (member m ms) = ms

abbrev has_some : Members → Bool
has_some no_member = false
has_some (member m ms) = true

members_to_each : (xs ys : List CharacterClassContents) → members_of xs ≡ members_of ys → SameMembers xs ys
members_to_each [] [] e = tt
members_to_each [] (y ∷ ys) e = absurd (true≢false (sym (ap has_some e)))
members_to_each (x ∷ xs) [] e = absurd (true≢false (ap has_some e))
members_to_each (x ∷ xs) (y ∷ ys) e = (ap (first_or (member_of x)) e, members_to_each xs ys (ap after_first e))

abbrev of_class : {A : Type 0} → (Bool → Bool → CharacterClassContentsKind → Members → A) → Class → A
of_class part (class s negative may_have_strings kind ms) = part negative may_have_strings kind ms

class_of_is : (c : CharacterClass) → class_of c ≡ class nowhere c.negative c.strings c.kind (members_of c.body)
class_of_is c = ap (forget_class same_kind) (class_is c)

-- what the loop over the contents of two classes shows
pub class_from_parts : (c d : CharacterClass) → c.negative ≡ d.negative → c.strings ≡ d.strings → c.kind ≡ d.kind → SameMembers c.body d.body → class_of c ≡ class_of d
class_from_parts c d negative may_have_strings kind same =
    class_of_is c
    ∙ ap (λ b. class nowhere b c.strings c.kind (members_of c.body)) negative
    ∙ ap (λ b. class nowhere d.negative b c.kind (members_of c.body)) may_have_strings
    ∙ ap (λ k. class nowhere d.negative d.strings k (members_of c.body)) kind
    ∙ ap (λ ms. class nowhere d.negative d.strings d.kind ms) (members_from_each c.body d.body same)
    ∙ sym (class_of_is d)

module _ (c d : CharacterClass) (same : class_of c ≡ class_of d) where
  abbrev opened : class nowhere c.negative c.strings c.kind (members_of c.body) ≡ class nowhere d.negative d.strings d.kind (members_of d.body)
  opened = sym (class_of_is c) ∙ same ∙ class_of_is d

  pub same_negative : c.negative ≡ d.negative
  same_negative = ap (of_class (λ negative may_have_strings kind ms. negative)) opened

  pub same_strings : c.strings ≡ d.strings
  same_strings = ap (of_class (λ negative may_have_strings kind ms. may_have_strings)) opened

  pub same_class_kind : c.kind ≡ d.kind
  same_class_kind = ap (of_class (λ negative may_have_strings kind ms. kind)) opened

  pub same_members : SameMembers c.body d.body
  same_members = members_to_each c.body d.body (ap (of_class (λ negative may_have_strings kind ms. ms)) opened)
