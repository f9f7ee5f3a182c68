-- The members of a class with one more at the end: their events, and what holds of them.
use Rattle.std.proofs.Common.{◌≡◌, refl, ap, sym, ◌∙◌, List, [], ◌∷◌, ◌++◌, append_assoc, append-nil, ◌&&◌, ◌||◌}
use Rattle.rx_class.proofs.Common.{or-false, and-true, Member, Members, members, AreTwo, IsFittingMember, IsFlaggedMember, IsOperand, ClassEvents, member_events, members_events}
use Rattle.rx_class.proofs.Common.{more_members_events, AreEarlyMembers, IsEarlyMember, any_strings, member_strings, AreSome, AreSound, IsSound}
use Rattle.std.proofs.Math.Bool.{and_assoc, or_assoc}
use Rattle.rx_model.specs.Classes.ClassShapes.{AreFitting, AreFlagged, AreOperands}
use Rattle.rx_model.specs.Trees.Early.{all_strings, first_strings}

abbrev pub pushed : List Member → Member → Members
pushed ms m = members (ms ++ (m ∷ []))

-- each after the operator
further_events : (operator : ClassEvents) (ms : List Member) (m : Member) →
    more_members_events operator (pushed ms m) ≡ (more_members_events operator (members ms) ++ operator) ++ member_events m
further_events operator [] m = ap (λ es. operator ++ es) (append-nil (member_events m))
further_events operator (n ∷ ms) m =
    ap (λ es. operator ++ (member_events n ++ es)) (further_events operator ms m) ∙ simp append_assoc

pub operand_events : (operator : ClassEvents) (n : Member) (ms : List Member) (m : Member) →
    members_events operator (pushed (n ∷ ms) m) ≡ (members_events operator (members (n ∷ ms)) ++ operator) ++ member_events m
operand_events operator n ms m = ap (λ es. member_events n ++ es) (further_events operator ms m) ∙ simp append_assoc

pub union_events : (ms : List Member) (m : Member) → members_events [] (pushed ms m) ≡ members_events [] (members ms) ++ member_events m
union_events [] m = append-nil (member_events m)
union_events (n ∷ ms) m = operand_events [] n ms m ∙ ap (λ es. es ++ member_events m) (append-nil (members_events [] (members (n ∷ ms))))

fitting_pushed : (ms : List Member) (m : Member) → AreFitting (members ms) → IsFittingMember m → AreFitting (pushed ms m)
fitting_pushed [] m all is = (is, tt)
fitting_pushed (n ∷ ms) m all is = (all.0, fitting_pushed ms m all.1 is)

flagged_pushed : (ms : List Member) (m : Member) → AreFlagged (members ms) → IsFlaggedMember m → AreFlagged (pushed ms m)
flagged_pushed [] m all is = (is, tt)
flagged_pushed (n ∷ ms) m all is = (all.0, flagged_pushed ms m all.1 is)

early_pushed : (ms : List Member) (m : Member) → AreEarlyMembers (members ms) → IsEarlyMember m → AreEarlyMembers (pushed ms m)
early_pushed [] m all is = (is, tt)
early_pushed (n ∷ ms) m all is = (all.0, early_pushed ms m all.1 is)

pub sound_pushed : (ms : List Member) (m : Member) → AreSound (members ms) → IsSound m → AreSound (pushed ms m)
sound_pushed ms m all is =
    record { fitting = fitting_pushed ms m all.fitting is.fitting; flagged = flagged_pushed ms m all.flagged is.flagged; early = early_pushed ms m all.early is.early }

pub operands_pushed : (ms : List Member) (m : Member) → AreOperands (members ms) → IsOperand m → AreOperands (pushed ms m)
operands_pushed [] m all is = (is, tt)
operands_pushed (n ∷ ms) m all is = (all.0, operands_pushed ms m all.1 is)

pub two_pushed : (ms : List Member) (m : Member) → AreSome (members ms) → AreTwo (pushed ms m)
two_pushed [] m some = absurd some
two_pushed (n ∷ []) m some = tt
two_pushed (n ∷ l ∷ ms) m some = tt

pub any_pushed : (ms : List Member) (m : Member) → any_strings (pushed ms m) ≡ (any_strings (members ms) || member_strings m)
any_pushed [] m = or-false (member_strings m)
any_pushed (n ∷ ms) m = ap (λ b. member_strings n || b) (any_pushed ms m) ∙ sym (or_assoc (member_strings n) (any_strings (members ms)) (member_strings m))

pub all_pushed : (ms : List Member) (m : Member) → all_strings (pushed ms m) ≡ (all_strings (members ms) && member_strings m)
all_pushed [] m = and-true (member_strings m)
all_pushed (n ∷ ms) m = ap (λ b. member_strings n && b) (all_pushed ms m) ∙ sym (and_assoc (member_strings n) (all_strings (members ms)) (member_strings m))

pub first_pushed : (ms : List Member) (m : Member) → AreSome (members ms) → first_strings (pushed ms m) ≡ first_strings (members ms)
first_pushed [] m some = absurd some
first_pushed (n ∷ ms) m some = refl
