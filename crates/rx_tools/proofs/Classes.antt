-- The contents of a class, and the characters and the strings in it, from an index on.
use Rattle.std.proofs.Common.{◌≡◌, refl, ap, ◌∙◌, ℕ, suc, ◌+◌, ◌<◌, ◌≤◌, true, false, List, [], ◌++◌, length, drop, get_or, add-one, codes, map}
use Rattle.std.specs.Prelude.{if◌then◌else◌}
use Rattle.std.proofs.Math.Seq.{drop-cons}
use Rattle.std.proofs.lemmas.List.{drop_all}
use Rattle.rx_ast.specs.declared.leaf.Character.{Character}
use Rattle.rx_ast.specs.declared.class.CharacterClass.{CharacterClass}
use Rattle.rx_ast.specs.declared.class.CharacterClassContents.{CharacterClassContents}
use Rattle.rx_ast.specs.declared.class.ClassString.{ClassString}
use Rattle.rx_ast.specs.ClassTree.{Member, Members, no_member, member, members, mirror_contents, mirror_class}
use Rattle.rx_ast.proofs.ClassEquations.{class_is}
use Rattle.rx_model.specs.declared.mode.Mode.{Mode}
use Rattle.rx_ast.specs.Texts.{class_opener, operator_text}
use Rattle.rx_model.specs.Spelling.ClassText.{in_class_text, characters_text, barred_strings_text, class_text, member_text, members_text, more_members_text}
use Rattle.rx_tools.specs.Leaves.{is_nested, are_flat, is_flat}

-- what is said of contents of a variant whose mirror is known
pub of_contents : {A : Type 0} (said : Member → A) {c variant : CharacterClassContents} {m : Member} → c ≡ variant → mirror_contents variant ≡ m → said (mirror_contents c) ≡ said m
of_contents said is mirrored = ap (λ x. said (mirror_contents x)) is ∙ ap said mirrored

pub characters_next : (mode : Mode) (cs : List Character) (i : ℕ) (d : Character) → i < length cs →
    characters_text mode (drop i cs) ≡ in_class_text mode (get_or cs i d) ++ characters_text mode (drop (i + 1) cs)
characters_next mode cs i d h = rw (add-one, drop-cons cs i d) refl

pub characters_none : (mode : Mode) (cs : List Character) (i : ℕ) → length cs ≤ i → characters_text mode (drop i cs) ≡ []
characters_none mode cs i h = rw (drop_all i cs) refl

pub strings_next : (mode : Mode) (ss : List ClassString) (i : ℕ) (s : ClassString) → i < length ss → s ≡ get_or ss i s →
    barred_strings_text mode (drop i ss) ≡ codes "|" ++ (characters_text mode s.body ++ barred_strings_text mode (drop (i + 1) ss))
strings_next mode ss i s h e = rw (add-one, drop-cons ss i s, ← e) refl

pub strings_none : (mode : Mode) (ss : List ClassString) (i : ℕ) → length ss ≤ i → barred_strings_text mode (drop i ss) ≡ []
strings_none mode ss i h = rw (drop_all i ss) refl

-- contents, the first after this text and each other one after the operator
abbrev pub contents_after : Mode → List ℕ → List ℕ → Members → List ℕ
contents_after mode before operator no_member = []
contents_after mode before operator (member m ms) = before ++ (member_text mode m ++ more_members_text mode operator ms)

pub after_nothing : (mode : Mode) (operator : List ℕ) (ms : Members) → members_text mode operator ms ≡ contents_after mode [] operator ms
after_nothing mode operator no_member = refl
after_nothing mode operator (member m ms) = refl

after_operator : (mode : Mode) (operator : List ℕ) (ms : Members) → more_members_text mode operator ms ≡ contents_after mode operator operator ms
after_operator mode operator no_member = refl
after_operator mode operator (member m ms) = refl

pub contents_next : (mode : Mode) (before operator : List ℕ) (cs : List CharacterClassContents) (i : ℕ) (c : CharacterClassContents) → i < length cs → c ≡ get_or cs i c →
    contents_after mode before operator (members (map mirror_contents (drop i cs))) ≡ before ++ (member_text mode (mirror_contents c) ++ contents_after mode operator operator (members (map mirror_contents (drop (i + 1) cs))))
contents_next mode before operator cs i c h e =
    rw (add-one, drop-cons cs i c, ← e) (ap (λ rest. before ++ (member_text mode (mirror_contents c) ++ rest)) (after_operator mode operator (members (map mirror_contents (drop (suc i) cs)))))

pub contents_none : (mode : Mode) (before operator : List ℕ) (cs : List CharacterClassContents) (i : ℕ) → length cs ≤ i → contents_after mode before operator (members (map mirror_contents (drop i cs))) ≡ []
contents_none mode before operator cs i h = rw (drop_all i cs) refl

-- whether no class stands among contents from an index on
flat_next : (cs : List CharacterClassContents) (i : ℕ) (c : CharacterClassContents) → i < length cs → c ≡ get_or cs i c →
    are_flat (members (map mirror_contents (drop i cs))) ≡ (if is_nested (mirror_contents c) then false else are_flat (members (map mirror_contents (drop (i + 1) cs))))
flat_next cs i c h e = rw (add-one, drop-cons cs i c, ← e) refl

pub flat_ends : (cs : List CharacterClassContents) (i : ℕ) (c : CharacterClassContents) → i < length cs → c ≡ get_or cs i c → is_nested (mirror_contents c) ≡ true →
    are_flat (members (map mirror_contents (drop i cs))) ≡ false
flat_ends cs i c h e nested = flat_next cs i c h e ∙ ap (λ first. if first then false else are_flat (members (map mirror_contents (drop (i + 1) cs)))) nested

pub flat_goes_on : (cs : List CharacterClassContents) (i : ℕ) (c : CharacterClassContents) → i < length cs → c ≡ get_or cs i c → is_nested (mirror_contents c) ≡ false →
    are_flat (members (map mirror_contents (drop i cs))) ≡ are_flat (members (map mirror_contents (drop (i + 1) cs)))
flat_goes_on cs i c h e none = flat_next cs i c h e ∙ ap (λ first. if first then false else are_flat (members (map mirror_contents (drop (i + 1) cs)))) none

pub flat_none : (cs : List CharacterClassContents) (i : ℕ) → length cs ≤ i → are_flat (members (map mirror_contents (drop i cs))) ≡ true
flat_none cs i h = rw (drop_all i cs) refl

pub class_texts : (mode : Mode) (c : CharacterClass) → class_text mode (mirror_class c) ≡ class_opener c.negative ++ (members_text mode (operator_text c.kind) (members (map mirror_contents c.body)) ++ codes "]")
class_texts mode c = ap (λ m. class_text mode m) (class_is c)

pub flat_class : (c : CharacterClass) → is_flat (mirror_class c) ≡ are_flat (members (map mirror_contents c.body))
flat_class c = ap is_flat (class_is c)
