-- The contents of a class, and the characters and the strings in it, as they are written one after the other.
use Rattle.std.proofs.Common.{◌≡◌, refl, ap, ◌∙◌, ℕ, ◌+◌, ◌<◌, Bool, false, List, [], ◌∷◌, ◌++◌, length, drop, get_or, add-one, codes, map, Option}
use Rattle.std.specs.Prelude.{if◌then◌else◌, is_some}
use Rattle.std.proofs.Math.Seq.{drop-cons}
use Rattle.rx_ast.specs.declared.leaf.Character.{Character}
use Rattle.rx_ast.specs.declared.class.CharacterClass.{CharacterClass}
use Rattle.rx_ast.specs.declared.class.CharacterClassContents.{CharacterClassContents}
use Rattle.rx_ast.specs.declared.class.ClassString.{ClassString}
use Rattle.rx_ast.specs.ClassTree.{Member, Members, no_member, member, members, mirror_contents, mirror_class}
use Rattle.rx_ast.specs.Shown.{barred_strings_shown, character_shown, characters_shown, class_shown, member_pair, member_shown, members_shown, more_members_shown, pair_or}
use Rattle.rx_ast.specs.Size.{contents_size, all_contents_size}
use Rattle.rx_ast.specs.Texts.{class_opener, operator_text}
use Rattle.rx_ast.proofs.ClassEquations.{class_is}

-- contents of a variant whose mirror is known
pub contents_shown : {c variant : CharacterClassContents} {m : Member} → c ≡ variant → mirror_contents variant ≡ m → member_shown (mirror_contents c) ≡ member_shown m
contents_shown is mirrored = ap (λ x. member_shown (mirror_contents x)) is ∙ ap (λ m. member_shown m) mirrored

pub characters_next : (cs : List Character) (i : ℕ) (c : Character) → i < length cs → characters_shown (drop i cs) ≡ character_shown (get_or cs i c) ++ characters_shown (drop (i + 1) cs)
characters_next cs i c h = rw (add-one, drop-cons cs i c) refl

pub strings_next : (ss : List ClassString) (i : ℕ) (s : ClassString) → i < length ss → s ≡ get_or ss i s →
    barred_strings_shown (drop i ss) ≡ (codes "|" ++ characters_shown s.body) ++ barred_strings_shown (drop (i + 1) ss)
strings_next ss i s h e = rw (add-one, drop-cons ss i s, ← e) refl

-- contents, the first after this text unless it is joined with what is before it, and each other one after the operator
abbrev pub contents_after : List ℕ → List ℕ → Bool → Members → List ℕ
contents_after before operator joined no_member = []
contents_after before operator joined (member m ms) =
    (if joined then [] else before ++ pair_or (member_pair m ms) (member_shown m)) ++ more_members_shown operator (is_some (member_pair m ms)) ms

pub after_nothing : (operator : List ℕ) (ms : Members) → members_shown operator ms ≡ contents_after [] operator false ms
after_nothing operator no_member = refl
after_nothing operator (member m ms) = refl

after_operator : (operator : List ℕ) (joined : Bool) (ms : Members) → more_members_shown operator joined ms ≡ contents_after operator operator joined ms
after_operator operator joined no_member = refl
after_operator operator joined (member m ms) = refl

pub contents_next : (before operator : List ℕ) (joined : Bool) (pair : Option ℕ) (c : CharacterClassContents) (cs : List CharacterClassContents) → pair ≡ member_pair (mirror_contents c) (members (map mirror_contents cs)) →
    contents_after before operator joined (members (map mirror_contents (c ∷ cs))) ≡
    (if joined then [] else before ++ pair_or pair (member_shown (mirror_contents c))) ++ contents_after operator operator (is_some pair) (members (map mirror_contents cs))
contents_next before operator joined pair c cs is =
    rw is (ap (λ rest. (if joined then [] else before ++ pair_or (member_pair (mirror_contents c) (members (map mirror_contents cs))) (member_shown (mirror_contents c))) ++ rest)
    (after_operator operator (is_some (member_pair (mirror_contents c) (members (map mirror_contents cs)))) (members (map mirror_contents cs))))

pub class_shown_is : (c : CharacterClass) → class_shown (mirror_class c) ≡ class_opener c.negative ++ (members_shown (operator_text c.kind) (members (map mirror_contents c.body)) ++ codes "]")
class_shown_is c = ap (λ m. class_shown m) (class_is c)

pub contents_cons : (c : CharacterClassContents) (cs : List CharacterClassContents) → all_contents_size (c ∷ cs) ≡ contents_size c + all_contents_size cs
unfolding all_contents_size contents_size
contents_cons c cs = refl
