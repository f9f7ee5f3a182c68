-- With neither `u` nor `v` the canonical text of all but names is of UTF-16 code units.
use Rattle.std.proofs.Common.{◌≡◌, subst, ℕ, ◌≤◌, Bool, true, false, nat_lt, List, [], ◌∷◌, ◌++◌, refl, sym, ◌∙◌, arith}
use Rattle.std.specs.List.{list_all}
use Rattle.std.proofs.lemmas.Bool.{and_from}
use Rattle.std.proofs.lemmas.Bool.Decides.{nat_tests}
use Rattle.std.proofs.lemmas.List.Folds.{list_all-append}
use Rattle.rx_ast.specs.ClassTree as in_tree
use Rattle.rx_ast.specs.ClassTree.{Member, Members, Class, no_member, member}
use Rattle.rx_ast.specs.declared.class.CharacterClassContentsKind.TheVariants.{Union, Intersection, Subtraction}
use Rattle.rx_model.specs.declared.mode.Mode.TheVariants.{Legacy}
use Rattle.rx_model.specs.Spelling.CharacterText.{Place, in_class, character_text}
use Rattle.rx_ast.specs.Texts.{class_escape_text}
use Rattle.rx_model.specs.Spelling.ClassText.{in_class_text, member_text, members_text, more_members_text, class_text}
use Rattle.rx_model.proofs.Spelling.ClassTexts.{union_text}
use Rattle.rx_model.proofs.Spelling.ClassKnown.{IsKnownMember, AreKnownMembers, IsKnownTree, IsKnownClass}
use Rattle.rx_model.proofs.Spelling.PrintableTexts.{ArePassing, IsPrintable, character_passes, class_escape_printable, passes}

abbrev narrow : ℕ → Bool
narrow c = nat_lt c 0x10000

-- All its characters are UTF-16 code units.
abbrev pub IsNarrow : List ℕ → Type 0
IsNarrow text = list_all narrow text ≡ true

pub narrow-append : (u v : List ℕ) → IsNarrow u → IsNarrow v → IsNarrow (u ++ v)
narrow-append u v p q = list_all-append narrow u v ∙ and_from _ _ p q

printable_narrow : ArePassing narrow
printable_narrow c h = grind (arith, nat_tests)

pub narrow_by : (text : List ℕ) → IsPrintable text → IsNarrow text
narrow_by = passes narrow printable_narrow

fits_narrow : (c : ℕ) → c ≤ 0xFFFF → narrow c ≡ true
fits_narrow c h = grind (arith, nat_tests, h)

pub character_narrow : (place : Place) (c : ℕ) → c ≤ 0xFFFF → IsNarrow (character_text Legacy place c)
character_narrow place c fits = character_passes narrow printable_narrow Legacy place c (λ _. fits_narrow c fits)

member_narrow : (m : Member) → IsKnownMember true Legacy m → IsNarrow (member_text Legacy m)
member_narrow (in_tree.range r) k =
    narrow-append (in_class_text Legacy r.min) (45 ∷ in_class_text Legacy r.max) (character_narrow in_class r.min.value (k.0 refl refl)) (character_narrow in_class r.max.value (k.1 refl refl))
member_narrow (in_tree.escape c) k = narrow_by (class_escape_text c.kind) (class_escape_printable c.kind)
member_narrow (in_tree.property p) k = let u = k.0 in absurd (let no : ⊥ = cc u in no)
member_narrow (in_tree.character c) k = character_narrow in_class c.value (k refl refl)
member_narrow (in_tree.nested c) k = let u = k.0 in absurd (let no : ⊥ = cc u in no)
member_narrow (in_tree.strings d) k = absurd (let no : ⊥ = cc k in no)

members_are_narrow : (ms : Members) → AreKnownMembers true Legacy ms → IsNarrow (more_members_text Legacy [] ms)
members_are_narrow no_member k = refl
members_are_narrow (member m ms) k = narrow-append (member_text Legacy m) (more_members_text Legacy [] ms) (member_narrow m k.0) (members_are_narrow ms k.1)

union_narrow : (ms : Members) → AreKnownMembers true Legacy ms → IsNarrow (members_text Legacy [] ms ++ (93 ∷ []))
union_narrow ms k = narrow-append (members_text Legacy [] ms) (93 ∷ []) (subst IsNarrow (sym (union_text Legacy ms)) (members_are_narrow ms k)) refl

tree_narrow : (c : Class) → IsKnownTree true Legacy c → IsNarrow (class_text Legacy c)
tree_narrow (in_tree.class s true may Union ms) k = union_narrow ms k.1
tree_narrow (in_tree.class s false may Union ms) k = union_narrow ms k.1
tree_narrow (in_tree.class s negative may Intersection ms) k = let u = k.0 in absurd (let no : ⊥ = cc u in no)
tree_narrow (in_tree.class s negative may Subtraction ms) k = let u = k.0 in absurd (let no : ⊥ = cc u in no)

pub class_narrow : (c : Class) → IsKnownClass true Legacy c → IsNarrow (class_text Legacy c)
class_narrow c k = tree_narrow c k.known
