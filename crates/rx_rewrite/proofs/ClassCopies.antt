-- Pieces of work of copying a class, over plain values.
use Rattle.std.proofs.Common.{◌≡◌, refl, ap, sym, ◌∙◌, subst, ◌+◌, ◌<◌, Bool, List, [], ◌∷◌, ◌++◌, append_assoc, append-nil, map, reverse, arith}
use Rattle.std.proofs.lemmas.List.{map-append}
use Rattle.rx_base.specs.declared.span.Span.{Span}
use Rattle.rx_ast.proofs.ClassEquations.{class_is}
use Rattle.rx_ast.specs.declared.class.CharacterClass.{CharacterClass}
use Rattle.rx_ast.specs.declared.class.CharacterClassContents.{CharacterClassContents}
use Rattle.rx_ast.specs.declared.class.CharacterClassContentsKind.{CharacterClassContentsKind}
use Rattle.rx_ast.specs.ClassTree.{Member, Members, range, escape, property, character, nested, strings, no_member, member, members, class, mirror_class, mirror_contents}
use Rattle.rx_rewrite.specs.declared.copy_class.Copier.{Copier}
use Rattle.rx_rewrite.specs.declared.copy_class.ClassTask.{ClassTask}
use Rattle.rx_rewrite.specs.ClassWorks.{ClassWork, contents, one, ending, listed_members, members_after_works, member_weight, work_weight, work_weights, class_work, class_works_of, class_works, with_class_task, Copies}
use Rattle.rx_trace.proofs.Lists.{reverse-last}
use Rattle.rx_rewrite.proofs.Lists.{members-listed}

pub class_works_with : (c : Copier) (t : ClassTask) → class_works (with_class_task c t) ≡ class_work t ∷ class_works c
class_works_with c t = ap class_works_of (reverse-last (c.tasks ++ (t ∷ [])) c.tasks t refl)

pub copies_is : (c after : Copier) (w v : ClassWork) → w ≡ v → Copies c v after → Copies c w after
copies_is c after w v is p = subst (λ x. Copies c x after) (sym is) p

-- This work is left, with these copies.
pub copies : (c after : Copier) (w : ClassWork) (ws : List ClassWork) (ms : List Member) → class_works after ≡ ws → map mirror_contents after.body ≡ ms
    → members_after_works (w ∷ class_works c) (map mirror_contents c.body) ≡ members_after_works ws ms → work_weights ws < work_weight w + work_weights (class_works c) → Copies c w after
copies c after w ws ms left made same fewer = record {
  same = same ∙ ap (λ vs. members_after_works vs ms) (sym left) ∙ ap (members_after_works (class_works after)) (sym made);
  fewer = subst (λ vs. work_weights vs < work_weight w + work_weights (class_works c)) (sym left) fewer;
}

pub copies_none : (c : Copier) → Copies c (contents no_member) c
copies_none c = record { same = ap (members_after_works (class_works c)) (append-nil (map mirror_contents c.body)); fewer = omega arith }

-- The first is copied after the others are left for later.
pub copies_first : (c d after : Copier) (t : ClassTask) (m : Member) (ms : Members) → d ≡ with_class_task c t → class_work t ≡ contents ms → Copies d (one m) after → Copies c (contents (member m ms)) after
copies_first c d after t m ms pushed left p =
    let first : Copies (with_class_task c t) (one m) after = subst (λ y. Copies y (one m) after) pushed p in
    let all : class_works (with_class_task c t) ≡ contents ms ∷ class_works c = class_works_with c t ∙ ap (λ w. w ∷ class_works c) left in
    let made = map mirror_contents c.body in
    let few = first.fewer in
    let weighs = ap work_weights all in
    record {
      same = ap (members_after_works (class_works c)) (sym (append_assoc made (m ∷ []) (listed_members ms))) ∙ ap (λ ws. members_after_works ws (made ++ (m ∷ []))) (sym all) ∙ first.same;
      fewer = omega arith;
    }

pub copies_class : (c after : Copier) (s : Span) (negative may_have_strings : Bool) (kind : CharacterClassContentsKind) (ms : Members)
    → class_works after ≡ contents ms ∷ ending s negative may_have_strings kind (map mirror_contents c.body) ∷ class_works c → map mirror_contents after.body ≡ [] → Copies c (one (nested (class s negative may_have_strings kind ms))) after
copies_class c after s negative may kind ms left made =
    copies c after (one (nested (class s negative may kind ms))) (contents ms ∷ ending s negative may kind (map mirror_contents c.body) ∷ class_works c) [] left made
    (ap (λ k. members_after_works (class_works c) (map mirror_contents c.body ++ (nested (class s negative may kind k) ∷ []))) (sym (members-listed ms))) (omega arith)

member_weighs : (m : Member) → 0 < member_weight m
member_weighs (range r) = omega arith
member_weighs (escape e) = omega arith
member_weighs (property p) = omega arith
member_weighs (character c) = omega arith
member_weighs (nested k) = omega arith
member_weighs (strings d) = omega arith

pub copies_one : (c : Copier) (body : List CharacterClassContents) (x : CharacterClassContents) (m : Member) → body ≡ c.body ++ (x ∷ []) → mirror_contents x ≡ m → Copies c (one m) (record c { body = body })
copies_one c body x m pushed mirrors =
    let weighs = member_weighs m in
    copies c (record c { body = body }) (one m) (class_works c) (map mirror_contents c.body ++ (m ∷ [])) refl
    (ap (map mirror_contents) pushed ∙ map-append mirror_contents c.body (x ∷ []) ∙ ap (λ k. map mirror_contents c.body ++ (k ∷ [])) mirrors) refl (omega arith)

-- a nested class that begins
pub opens_class : (c after : Copier) (k : CharacterClass) (before inner : List CharacterClassContents) (t u : ClassTask) → class_work t ≡ ending k.span k.negative k.strings k.kind (map mirror_contents before)
    → class_work u ≡ contents (members (map mirror_contents k.body)) → before ≡ c.body → inner ≡ [] → after ≡ with_class_task (with_class_task (record c { body = inner }) t) u → Copies c (one (nested (mirror_class k))) after
opens_class c after k before inner t u t_is u_is before_is inner_is is =
    let d : Copier = record c { body = inner } in
    let ms = members (map mirror_contents k.body) in
    let left : class_works (with_class_task (with_class_task d t) u) ≡ contents ms ∷ ending k.span k.negative k.strings k.kind (map mirror_contents c.body) ∷ class_works c =
    class_works_with (with_class_task d t) u ∙ ap (λ w. w ∷ class_works (with_class_task d t)) u_is
    ∙ ap (λ ws. contents ms ∷ ws) (class_works_with d t ∙ ap (λ w. w ∷ class_works c) (t_is ∙ ap (λ b. ending k.span k.negative k.strings k.kind (map mirror_contents b)) before_is)) in
    subst (λ y. Copies c (one (nested (mirror_class k))) y) (sym is)
    (copies_is c (with_class_task (with_class_task d t) u) (one (nested (mirror_class k))) (one (nested (class k.span k.negative k.strings k.kind ms))) (ap (λ x. one (nested x)) (class_is k))
    (copies_class c (with_class_task (with_class_task d t) u) k.span k.negative k.strings k.kind ms left (ap (map mirror_contents) inner_is)))

-- a nested class that ends
pub ends_class : (c : Copier) (s : Span) (negative may_have_strings : Bool) (kind : CharacterClassContentsKind) (before body : List CharacterClassContents) (x : CharacterClassContents)
    → mirror_contents x ≡ nested (class s negative may_have_strings kind (members (map mirror_contents c.body))) → body ≡ before ++ (x ∷ []) → Copies c (ending s negative may_have_strings kind (map mirror_contents before)) (record c { body = body })
ends_class c s negative may kind before body x mirrors pushed =
    copies c (record c { body = body }) (ending s negative may kind (map mirror_contents before)) (class_works c)
    (map mirror_contents before ++ (nested (class s negative may kind (members (map mirror_contents c.body))) ∷ [])) refl
    (ap (map mirror_contents) pushed ∙ map-append mirror_contents before (x ∷ []) ∙ ap (λ m. map mirror_contents before ++ (m ∷ [])) mirrors) refl (omega arith)

-- Nothing is left: the copies are the contents.
pub copied_all : (c : Copier) (ms : Members) → c.tasks ≡ [] → members_after_works (class_works c) (map mirror_contents c.body) ≡ listed_members ms → members (map mirror_contents c.body) ≡ ms
copied_all c ms none made =
    ap members (ap (λ ts. members_after_works (class_works_of (reverse ts)) (map mirror_contents c.body)) (sym none) ∙ made) ∙ members-listed ms
