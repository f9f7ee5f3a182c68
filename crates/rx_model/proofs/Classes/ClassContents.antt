-- What a bracket holds, by the things that stood in it: front parts of contents and no others, and where it may close whole contents and no others.
use Rattle.std.proofs.Common.{◌≡◌, refl, sym, ap, ◌∙◌, subst, true, Option, Some, None, List, [], ◌∷◌, ◌++◌, append_assoc, append-nil}
use Rattle.rx_base.specs.declared.diagnostic.kinds.SetOperator.{SetOperator}
use Rattle.rx_base.specs.declared.diagnostic.kinds.SetOperator.TheVariants.{Intersection, Subtraction}
use Rattle.rx_model.specs.Classes.ClassContents as contents
use Rattle.rx_model.specs.Classes.ClassContents.{Thing, one_operand, one_range, operator, IsMember, AreMembers, AreFurther, none, further, AreContents, union, with_thing, go_on, hold_after}
use Rattle.rx_model.specs.Classes.ClassRuns.{Held, empty, single, several, pending, joined, is_whole}
use Rattle.rx_model.proofs.Classes.ClassShapes.{operator_again}

-- these things lead to what is held
abbrev pub Stood : Held → List Thing → Type 0
Stood empty s = s ≡ []
Stood single s = s ≡ one_operand ∷ []
Stood several s = AreMembers s
Stood (pending o) s = (more : List Thing) × (s ≡ one_operand ∷ (more ++ (operator o ∷ []))) × AreFurther (operator o) more
Stood (joined o) s = (more : List Thing) × (s ≡ one_operand ∷ more) × AreFurther (operator o) more

one_further : (between : Thing) {more : List Thing} → AreFurther between more → AreFurther between (more ++ (between ∷ one_operand ∷ []))
one_further between none = further [] none
one_further between (further more f) = further (more ++ (between ∷ one_operand ∷ [])) (one_further between f)

one_more : (s : List Thing) (x : Thing) → AreMembers s → IsMember x → AreMembers (s ++ (x ∷ []))
one_more [] x all is = (is, tt)
one_more (y ∷ s) x all is = (all.0, one_more s x all.1 is)

module _ (s : List Thing) where
  -- Some held of what follows from a refusal
  nothing : {A : Type 0} {held : Held} → None ≡ Some held → A
  nothing e = absurd (let no : ⊥ = cc e in no)

  by : (held after : Held) (next : List Thing) → Stood held next → Some held ≡ Some after → Stood after next
  by held after next h e = let p : held ≡ after = cc e in subst (λ x. Stood x next) p h

  operand_more : (between : Thing) (more : List Thing) → s ≡ one_operand ∷ (more ++ (between ∷ [])) → s ++ (one_operand ∷ []) ≡ one_operand ∷ (more ++ (between ∷ one_operand ∷ []))
  operand_more between more e = ap (λ x. x ++ (one_operand ∷ [])) e ∙ ap (λ x. one_operand ∷ x) (append_assoc more (between ∷ []) (one_operand ∷ []))

  -- an operator after operands that it joins
  operator_more : (o : SetOperator) (after : Held) → Stood (joined o) s → Some (pending o) ≡ Some after → Stood after (s ++ (operator o ∷ []))
  operator_more o after h e = by (pending o) after (s ++ (operator o ∷ [])) (h.0, ap (λ x. x ++ (operator o ∷ [])) h.1, h.2) e

  steps : (x : Thing) (held after : Held) → Stood held s → with_thing x held ≡ Some after → Stood after (s ++ (x ∷ []))
  steps one_operand empty after h e = by single after (s ++ (one_operand ∷ [])) (ap (λ x. x ++ (one_operand ∷ [])) h) e
  steps one_operand single after h e = by several after (s ++ (one_operand ∷ [])) (one_more s one_operand (subst (AreMembers) (sym h) (tt, tt)) tt) e
  steps one_operand several after h e = by several after (s ++ (one_operand ∷ [])) (one_more s one_operand h tt) e
  steps one_operand (pending o) after h e = by (joined o) after (s ++ (one_operand ∷ [])) (h.0 ++ (operator o ∷ one_operand ∷ []), operand_more (operator o) h.0 h.1, one_further (operator o) h.2) e
  steps one_range empty after h e = by several after (s ++ (one_range ∷ [])) (one_more s one_range (subst (AreMembers) (sym h) tt) tt) e
  steps one_range single after h e = by several after (s ++ (one_range ∷ [])) (one_more s one_range (subst (AreMembers) (sym h) (tt, tt)) tt) e
  steps one_range several after h e = by several after (s ++ (one_range ∷ [])) (one_more s one_range h tt) e
  steps (operator o) single after h e = by (pending o) after (s ++ (operator o ∷ [])) ([], ap (λ x. x ++ (operator o ∷ [])) h, none) e
  steps (operator Intersection) (joined Intersection) after h e = operator_more Intersection after h e
  steps (operator Subtraction) (joined Subtraction) after h e = operator_more Subtraction after h e
  steps x held after h e = nothing e

stands : (things s : List Thing) (held after : Held) → Stood held s → hold_after things held ≡ Some after → Stood after (s ++ things)
stands [] s held after h e = subst (Stood after) (sym (append-nil s)) (by s held after s h e)
stands (x ∷ things) s held after h e = go (λ next m n. stands things (s ++ (x ∷ [])) next after m n) (with_thing x held) refl
  where
    go : ((next : Held) → Stood next (s ++ (x ∷ [])) → hold_after things next ≡ Some after → Stood after ((s ++ (x ∷ [])) ++ things)) →
        (o : Option Held) → with_thing x held ≡ o → Stood after (s ++ (x ∷ things))
    go again None n = absurd (let no : None ≡ Some after = ap (λ o. go_on o (λ next. hold_after things next)) (sym n) ∙ e in let k : ⊥ = cc no in k)
    go again (Some next) n =
        subst (Stood after) (append_assoc s (x ∷ []) things)
        (again next (steps s x held next h n) (ap (λ o. go_on o (λ next. hold_after things next)) (sym n) ∙ e))

pub stood : (things : List Thing) (held : Held) → hold_after things empty ≡ Some held → Stood held things
stood things held e = stands things [] empty held refl e

-- With an operand where an operator stands last, all that is held is contents.
front_of : (things : List Thing) (held : Held) → Stood held things → (more : List Thing) × AreContents (things ++ more)
front_of things empty h = ([], subst AreContents (sym (append-nil things)) (union things (subst (AreMembers) (sym h) tt)))
front_of things single h = ([], subst AreContents (sym (append-nil things)) (union things (subst (AreMembers) (sym h) (tt, tt))))
front_of things several h = ([], subst AreContents (sym (append-nil things)) (union things h))
front_of things (pending o) h =
    (one_operand ∷ [], subst AreContents (sym (operand_more things (operator o) h.0 h.1)) (contents.joined o (h.0 ++ (operator o ∷ one_operand ∷ [])) (one_further (operator o) h.2)))
front_of things (joined o) h = ([], subst AreContents (sym (append-nil things)) (subst AreContents (sym h.1) (contents.joined o h.0 h.2)))

pub is_front : (things : List Thing) (held : Held) → hold_after things empty ≡ Some held → (more : List Thing) × AreContents (things ++ more)
is_front things held e = front_of things held (stood things held e)

whole_stood : (things : List Thing) (held : Held) → Stood held things → is_whole held ≡ true → AreContents things
whole_stood things empty h w = union things (subst (AreMembers) (sym h) tt)
whole_stood things single h w = union things (subst (AreMembers) (sym h) (tt, tt))
whole_stood things several h w = union things h
whole_stood things (pending o) h w = absurd (let no : ⊥ = cc w in no)
whole_stood things (joined o) h w = subst AreContents (sym h.1) (contents.joined o h.0 h.2)

pub is_contents : (things : List Thing) (held : Held) → hold_after things empty ≡ Some held → is_whole held ≡ true → AreContents things
is_contents things held e w = whole_stood things held (stood things held e) w

-- Whole contents are accepted.
abbrev pub Ends : List Thing → Held → Type 0
Ends things held = (after : Held) × (hold_after things held ≡ Some after) × (is_whole after ≡ true)

several_on : (things : List Thing) → AreMembers things → Ends things several
several_on [] all = (several, refl, refl)
several_on (one_operand ∷ things) all = several_on things all.1
several_on (one_range ∷ things) all = several_on things all.1
several_on ((operator o) ∷ things) all = absurd all.0

single_on : (things : List Thing) → AreMembers things → Ends things single
single_on [] all = (single, refl, refl)
single_on (one_operand ∷ things) all = several_on things all.1
single_on (one_range ∷ things) all = several_on things all.1
single_on ((operator o) ∷ things) all = absurd all.0

union_on : (things : List Thing) → AreMembers things → Ends things empty
union_on [] all = (empty, refl, refl)
union_on (one_operand ∷ things) all = single_on things all.1
union_on (one_range ∷ things) all = several_on things all.1
union_on ((operator o) ∷ things) all = absurd all.0

joined_on : (o : SetOperator) {more : List Thing} → AreFurther (operator o) more → Ends more (joined o)
joined_on o none = (joined o, refl, refl)
joined_on o (further more f) =
    let after = joined_on o f in (after.0, ap (λ o. go_on o (λ held. hold_after (one_operand ∷ more) held)) (operator_again o) ∙ after.1, after.2)

first_joined : (o : SetOperator) {more : List Thing} → AreFurther (operator o) more → Ends more single
first_joined o none = (single, refl, refl)
first_joined o (further more f) = joined_on o f

pub contents_end : (things : List Thing) → AreContents things → Ends things empty
contents_end _ (union things all) = union_on things all
contents_end _ (contents.joined o more f) = first_joined o f
