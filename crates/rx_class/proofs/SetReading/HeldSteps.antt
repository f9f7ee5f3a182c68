-- What a bracket holds with one member or one operator more: its events, its members, and whether they may match strings.
use Rattle.std.proofs.Common.{◌≡◌, refl, ap, sym, ◌∙◌, subst, Bool, true, Option, Some, List, [], ◌∷◌, ◌++◌, append-nil, inl, inr, IfSome}
use Rattle.rx_class.proofs.Common.{or-false, and-true, SetOperator, Intersection, Subtraction, Member, Members, no_member, members, kind_of, empty, is_whole, operand, with_range}
use Rattle.rx_class.proofs.Common.{with_strings, joined, pending, with_operator, AreTwo, IsOperand, ClassEvents, token, member_events, members_events, operator, any_strings, member_strings}
use Rattle.rx_class.proofs.Common.{last_operator, with_member, AreHeld, AreSome}
use Rattle.rx_ast.specs.ClassTree.{member}
use Rattle.rx_ast.specs.ClassTree as tree
use Rattle.rx_model.specs.Classes.ClassRuns.{Held, single, several}
use Rattle.rx_model.specs.Classes.ClassShapes.{FitsKind}
use Rattle.rx_model.specs.Classes.ClassTokens.{operator_events}
use Rattle.rx_model.specs.Trees.Early.{may_contain_strings}
use Rattle.rx_class.specs.SetReading.BuilderEvents.{end_events}
use Rattle.rx_class.specs.SetReading.WellBuilt.{AreOne}
use Rattle.rx_class.proofs.SetReading.MembersPushed.{pushed, operand_events, union_events, operands_pushed, two_pushed, any_pushed, all_pushed, first_pushed}
use Rattle.rx_class.proofs.Operators.{operator_before, whole_end}

-- what is in a bracket that holds this
abbrev pub held_events : Held → Members → ClassEvents
held_events held ms = members_events (operator_events (kind_of held)) ms ++ end_events (last_operator held)

abbrev pub held_strings : Held → Members → Bool
held_strings held ms = may_contain_strings (kind_of held) ms

-- With one thing more the events in a bracket end with those of the thing, its members are what it then holds, and this tells whether they may match strings.
pub record Grows (old new : Held) (ms more : Members) (added : ClassEvents) (may : Bool) : Type 0 where
  pub events : held_events new more ≡ held_events old ms ++ added
  pub held : AreHeld new more
  pub strings : held_strings new more ≡ may

abbrev pub GrowsByMember : Held → Held → List Member → Member → Type 0
GrowsByMember old new ms m = Grows old new (members ms) (pushed ms m) (member_events m) (with_strings old (held_strings old (members ms)) (member_strings m))

abbrev pub GrowsByOperator : Held → Held → Members → SetOperator → Type 0
GrowsByOperator old new ms o = Grows old new ms ms (token (operator o) ∷ []) (held_strings old ms)

some_events : (between : ClassEvents) (ms : List Member) (m : Member) → AreSome (members ms) →
    members_events between (pushed ms m) ++ [] ≡ (members_events between (members ms) ++ between) ++ member_events m
some_events between [] m some = absurd some
some_events between (n ∷ ms) m some = append-nil _ ∙ operand_events between n ms m

-- more of a union
union_grows : (old : Held) (ms : List Member) (m : Member) → held_events old (members ms) ≡ members_events [] (members ms) → with_strings old (held_strings old (members ms)) (member_strings m) ≡ any_strings (pushed ms m) →
    GrowsByMember old several ms m
union_grows old ms m events strings =
    record { events = append-nil _ ∙ union_events ms m ∙ ap (λ es. es ++ member_events m) (sym events); held = tt; strings = sym strings }

-- an operand after an operator
joins : (o : SetOperator) (ms : List Member) (m : Member) → IsOperand m → AreHeld (pending o) (members ms) → GrowsByMember (pending o) (joined o) ms m
joins Intersection ms m is all = record { events = some_events _ ms m all.0; held = (two_pushed ms m all.0, operands_pushed ms m all.1 is); strings = all_pushed ms m }
joins Subtraction ms m is all = record { events = some_events _ ms m all.0; held = (two_pushed ms m all.0, operands_pushed ms m all.1 is); strings = first_pushed ms m all.0 }

by_operand : (old : Held) (ms : List Member) (m : Member) → IsOperand m → AreHeld old (members ms) → IfSome (operand old) (λ new. GrowsByMember old new ms m)
by_operand empty [] m is all = record { events = append-nil _ ∙ append-nil _; held = (tt, (is, tt)); strings = or-false (member_strings m) }
by_operand empty (n ∷ ms) m is all = absurd all
by_operand (pending o) ms m is all = joins o ms m is all
by_operand (joined o) ms m is all = tt
by_operand old ms m is all = union_grows old ms m (append-nil _) (sym (any_pushed ms m))

by_range : (old : Held) (ms : List Member) (m : Member) → AreHeld old (members ms) → IfSome (with_range old) (λ new. GrowsByMember old new ms m)
by_range empty [] m all = union_grows empty [] m refl (sym (or-false (member_strings m)))
by_range empty (n ∷ ms) m all = absurd all
by_range single ms m all = union_grows single ms m (append-nil _) (sym (any_pushed ms m))
by_range several ms m all = union_grows several ms m (append-nil _) (sym (any_pushed ms m))
by_range old ms m all = tt

by_member : (old : Held) (ms : List Member) (m : Member) → AreHeld old (members ms) → IfSome (with_member m old) (λ new. GrowsByMember old new ms m)
by_member old ms (tree.range r) all = by_range old ms (tree.range r) all
by_member old ms m all = by_operand old ms m tt all

pub grows_by_member : (old new : Held) (ms : List Member) (m : Member) → with_member m old ≡ Some new → AreHeld old (members ms) → GrowsByMember old new ms m
grows_by_member old new ms m e all = subst (λ (o : Option Held). IfSome o (λ new. GrowsByMember old new ms m)) e (by_member old ms m all)

one_some : (ms : Members) → AreOne ms → AreSome ms
one_some no_member one = absurd one
one_some (member m ms) one = tt

two_some : (ms : Members) → AreTwo ms → AreSome ms
two_some no_member two = absurd two
two_some (member m ms) two = tt

one_events : (between : ClassEvents) (ms : Members) → AreOne ms → members_events between ms ≡ members_events [] ms ++ []
one_events between (member m no_member) one = sym (append-nil _)
one_events between ms one = absurd one

-- Of one member alone it is all one whether all, any or the first may match strings.
one_strings : (o : SetOperator) (ms : Members) → AreOne ms → held_strings (pending o) ms ≡ any_strings ms
one_strings Intersection (member m no_member) one = and-true (member_strings m) ∙ sym (or-false (member_strings m))
one_strings Subtraction (member m no_member) one = sym (or-false (member_strings m))
one_strings o ms one = absurd one

-- the operator after what there is
abbrev after_all : SetOperator → ClassEvents → ClassEvents
after_all o es = es ++ (token (operator o) ∷ [])

begins : (o : SetOperator) (ms : Members) → AreHeld single ms → GrowsByOperator single (pending o) ms o
begins o ms all = record { events = ap (after_all o) (one_events (operator_events (kind_of (pending o))) ms all.0); held = (one_some ms all.0, all.1); strings = one_strings o ms all.0 }

goes_on : (o : SetOperator) (ms : Members) → AreHeld (joined o) ms → GrowsByOperator (joined o) (pending o) ms o
goes_on o ms all = record { events = ap (after_all o) (sym (append-nil (members_events (operator_events (kind_of (joined o))) ms))); held = (two_some ms all.0, all.1); strings = refl }

pub grows_by_operator : (o : SetOperator) (old new : Held) (ms : Members) → with_operator o old ≡ Some new → AreHeld old ms → GrowsByOperator old new ms o
grows_by_operator o old new ms e all =
    let is = operator_before o old new e in
    subst (λ new. GrowsByOperator old new ms o) (sym is.1)
    (elim is.0 [
      | inl one ↦ subst (λ old. GrowsByOperator old (pending o) ms o) (sym one) (begins o ms (subst (λ old. AreHeld old ms) one all))
      | inr more ↦ subst (λ old. GrowsByOperator old (pending o) ms o) (sym more) (goes_on o ms (subst (λ old. AreHeld old ms) more all))
    ])

-- A bracket that is whole has what its kind asks for, and no operator stands at its end.
held_fits : (held : Held) (ms : Members) → is_whole held ≡ true → AreHeld held ms → FitsKind (kind_of held) ms
held_fits (pending o) ms whole all = cc
held_fits (joined Intersection) ms whole all = all
held_fits (joined Subtraction) ms whole all = all
held_fits held ms whole all = tt

pub whole_fits : (held : Held) (ms : Members) → is_whole held ≡ true → AreHeld held ms → FitsKind (kind_of held) ms × (held_events held ms ≡ members_events (operator_events (kind_of held)) ms)
whole_fits held ms whole all = (held_fits held ms whole all, ap (λ o. members_events (operator_events (kind_of held)) ms ++ end_events o) (whole_end held whole) ∙ append-nil _)
