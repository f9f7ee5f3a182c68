-- Turns of a repetition whose body is one unit.
use Rattle.std.proofs.Common.{◌≡◌, refl, ap, sym, ◌∙◌, ℕ, zero, suc, ◌+◌, ◌-◌, ◌≤◌, ◌<◌, Bool, true, false, if◌then◌else◌, Option, Some, None, List, [], ◌∷◌, ◌++◌, append_assoc, append-nil, length, arith}
use Rattle.rx_trace.specs.declared.answer.Slot.{Slot}
use Rattle.rx_trace.specs.Traces.{State}
use Rattle.rx_trace.specs.Repeats.{is_over, one_less}
use Rattle.rx_trace.specs.Groups.{unset_in}
use Rattle.rx_match.specs.Kinds.{fewer, allowed_within}
use Rattle.rx_match.specs.Runs.{Run, silent, ticked, with_marks, paid_by, bind, run_onward, at_place, turn_end_run, in_turn_run, unit_to, code_run}
use Rattle.rx_program.specs.Codes.{Code, accept, consume, repeat}
use Rattle.rx_match.specs.Machines.{turn_run, turns_run, choices_run}
use Rattle.rx_program.proofs.Programs.{apart-test}
use Rattle.rx_match.proofs.Runs.{bind-append}
use Rattle.rx_match.proofs.RepetitionTurns.{looped_is, turn_is}

-- A turn that was owed or was not empty goes on.
pub goes_on : (min p : ℕ) (again : State → Run) (w : State) → ((min ≡ 0) → (w.place ≡ p) → ⊥) → turn_end_run min p again w ≡ silent ∷ again w
goes_on (suc min) p again w on = refl
goes_on zero p again w on = ap (λ b. silent ∷ (if b then [] else again w)) (apart-test w.place p (on refl))

marked-append : (a b : List Bool) (r : Run) → with_marks (a ++ b) r ≡ with_marks a (with_marks b r)
marked-append [] b r = refl
marked-append (true ∷ a) b r = ap (λ x. ticked ∷ x) (marked-append a b r)
marked-append (false ∷ a) b r = ap (λ x. silent ∷ x) (marked-append a b r)

-- the marks of so many turns
abbrev pub turn_marks : ℕ → List Bool
turn_marks zero = []
turn_marks (suc k) = false ∷ false ∷ true ∷ false ∷ turn_marks k

one_turn_more : (k : ℕ) → turn_marks (suc k) ≡ turn_marks k ++ (false ∷ false ∷ true ∷ false ∷ [])
one_turn_more zero = refl
one_turn_more (suc k) = ap (λ ticks. false ∷ false ∷ true ∷ false ∷ ticks) (one_turn_more k)

pub turns_paid : (k budget : ℕ) → paid_by (turn_marks k) budget ≡ k + budget
turns_paid zero budget = omega arith
turns_paid (suc k) budget = let e = turns_paid k budget in omega arith

one_less_of : (max : Option ℕ) (k : ℕ) → one_less (fewer max k) ≡ fewer max (suc k)
one_less_of None k = refl
one_less_of (Some max) k = let e : max - k - 1 ≡ max - suc k = omega arith in ap (λ n. Some n) e

none_less : (max : Option ℕ) → fewer max 0 ≡ max
none_less None = refl
none_less (Some max) = let e : max - 0 ≡ max = omega arith in ap (λ n. Some n) e

-- turns that a bound allows
pub allows : (max : Option ℕ) (budget k : ℕ) → k ≤ allowed_within max budget → (j : ℕ) → j < k → is_over (fewer max j) ≡ false
allows None budget k within j below = refl
allows (Some max) budget k within j below = apart-test (max - j) 0 (λ e. omega arith)

pub payable : (max : Option ℕ) (budget : ℕ) → allowed_within max budget ≤ budget
payable None budget = omega arith
payable (Some max) budget = omega arith

module _ (input : List ℕ) (holds : ℕ → Bool) (c : Code) (min' : ℕ) (max' : Option ℕ) (greedy : Bool) (from : ℕ) (next : Code) (is : c ≡ repeat min' max' greedy from 0 (consume holds accept) next) where
  abbrev after : Bool → ℕ → Option ℕ → State → Run
  after back min max w = turns_run input back (min - 1) (one_less max) w c

  -- one turn, where the unit is held, and where it is not
  pub turn_held : (back : Bool) (min : ℕ) (max : Option ℕ) (s : State) (q : ℕ) → unit_to input back holds s.place ≡ Some q → (q ≡ s.place → ⊥)
      → turn_run input back min max s c ≡ silent ∷ ticked ∷ silent ∷ turns_run input back (min - 1) (one_less max) (at_place q s) c
  turn_held back min max s q held apart =
      turn_is input back min max s c min' max' greedy from 0 (consume holds accept) next is
      ∙ ap (λ o. silent ∷ ticked ∷ bind (run_onward o (unset_in from 0 s) (code_run input accept back)) (turn_end_run min s.place (after back min max))) held
      ∙ ap (λ r. silent ∷ ticked ∷ r) (append-nil (turn_end_run min s.place (after back min max) (at_place q s)) ∙ goes_on min s.place (after back min max) (at_place q s) (λ none. apart))

  pub turn_not_held : (back : Bool) (min : ℕ) (max : Option ℕ) (s : State) → unit_to input back holds s.place ≡ None → turn_run input back min max s c ≡ silent ∷ ticked ∷ []
  turn_not_held back min max s none =
      turn_is input back min max s c min' max' greedy from 0 (consume holds accept) next is
      ∙ ap (λ o. silent ∷ ticked ∷ bind (run_onward o (unset_in from 0 s) (code_run input accept back)) (turn_end_run min s.place (after back min max))) none

  module _ (slots : List Slot) (k' : State → Run) (all_greedy : greedy ≡ true) where
    abbrev pub turns : ℕ → Option ℕ → ℕ → Run
    turns min max p = bind (turns_run input false min max (record { place = p; slots = slots }) c) k'

    -- what follows where no more turns are made
    abbrev pub leaves : ℕ → Run
    leaves p = bind (code_run input next false (record { place = p; slots = slots })) k'

    -- what a turn leaves for later that began at a place
    abbrev pub left_by : ℕ → ℕ → Run
    left_by zero p = silent ∷ leaves p
    left_by (suc min) p = []

    pub turns_are : (min : ℕ) (max : Option ℕ) (p : ℕ) → p ≤ length input → is_over max ≡ false
        → turns min max p ≡ silent ∷ (bind (turn_run input false min max (record { place = p; slots = slots }) c) k' ++ left_by min p)
    turns_are min max p within allowed =
        let s : State = record { place = p; slots = slots } in
        let leave = code_run input next false s in
        let turn = turn_run input false min max s c in
        ap (λ r. bind r k') (looped_is input false min max s c min' max' greedy from 0 (consume holds accept) next is within)
        ∙ ap (λ b. silent ∷ bind (if b then leave else in_turn_run min greedy leave turn) k') allowed
        ∙ ap (λ g. silent ∷ bind (in_turn_run min g leave turn) k') all_greedy
        ∙ ap (λ r. silent ∷ r) (by_owed min turn)
      where
        by_owed : (n : ℕ) (turn : Run) → bind (in_turn_run n true (code_run input next false (record { place = p; slots = slots })) turn) k' ≡ bind turn k' ++ left_by n p
        by_owed zero turn = bind-append turn (silent ∷ code_run input next false (record { place = p; slots = slots })) k'
        by_owed (suc n) turn = sym (append-nil (bind turn k'))

    one_turn : (min : ℕ) (max : Option ℕ) (p : ℕ) → p ≤ length input → is_over max ≡ false → unit_to input false holds p ≡ Some (p + 1)
        → turns min max p ≡ with_marks (false ∷ false ∷ true ∷ false ∷ []) (turns (min - 1) (one_less max) (p + 1) ++ left_by min p)
    one_turn min max p within allowed held =
        turns_are min max p within allowed
        ∙ ap (λ r. silent ∷ (bind r k' ++ left_by min p)) (turn_held false min max (record { place = p; slots = slots }) (p + 1) held (λ e. omega arith))

    -- what so many turns leave for later, the last first
    abbrev pub lefts : ℕ → ℕ → ℕ → Run
    lefts zero min p = []
    lefts (suc k) min p = left_by (min - k) (p + k) ++ lefts k min p

    pub all_turns : (k min : ℕ) (max : Option ℕ) (p : ℕ) → ((i : ℕ) → p ≤ i → i < p + k → unit_to input false holds i ≡ Some (i + 1)) → p + k ≤ length input → ((j : ℕ) → j < k → is_over (fewer max j) ≡ false)
        → turns min max p ≡ with_marks (turn_marks k) (turns (min - k) (fewer max k) (p + k) ++ lefts k min p)
    all_turns zero min max p held within allowed =
        let owed : min - 0 ≡ min = omega arith in
        let here : p + 0 ≡ p = omega arith in
        sym (append-nil (turns (min - 0) (fewer max 0) (p + 0)) ∙ ap (λ n. turns n (fewer max 0) (p + 0)) owed ∙ ap (λ o. turns min o (p + 0)) (none_less max) ∙ ap (λ q. turns min max q) here)
    all_turns (suc k) min max p held within allowed =
        let next_owed : min - k - 1 ≡ min - suc k = omega arith in
        let next_place : p + k + 1 ≡ p + suc k = omega arith in
        all_turns k min max p (λ i after below. held i after (omega arith)) (omega arith) (λ j below. allowed j (omega arith))
        ∙ ap (λ r. with_marks (turn_marks k) (r ++ lefts k min p)) (one_turn (min - k) (fewer max k) (p + k) (omega arith) (allowed k (omega arith)) (held (p + k) (omega arith) (omega arith)))
        ∙ sym (marked-append (turn_marks k) (false ∷ false ∷ true ∷ false ∷ []) ((turns (min - k - 1) (one_less (fewer max k)) (p + k + 1) ++ left_by (min - k) (p + k)) ++ lefts k min p))
        ∙ ap (λ ticks. with_marks ticks ((turns (min - k - 1) (one_less (fewer max k)) (p + k + 1) ++ left_by (min - k) (p + k)) ++ lefts k min p)) (sym (one_turn_more k))
        ∙ ap (with_marks (turn_marks (suc k))) (append_assoc (turns (min - k - 1) (one_less (fewer max k)) (p + k + 1)) (left_by (min - k) (p + k)) (lefts k min p)
        ∙ ap (λ n. turns n (one_less (fewer max k)) (p + k + 1) ++ lefts (suc k) min p) next_owed
        ∙ ap (λ o. turns (min - suc k) o (p + k + 1) ++ lefts (suc k) min p) (one_less_of max k)
        ∙ ap (λ q. turns (min - suc k) (fewer max (suc k)) q ++ lefts (suc k) min p) next_place)

    owed_left : (n p : ℕ) → 0 < n → left_by n p ≡ []
    owed_left zero p owed = absurd (omega arith)
    owed_left (suc n) p owed = refl

    free_left : (n p : ℕ) → n ≡ 0 → left_by n p ≡ silent ∷ leaves p
    free_left n p free = ap (λ n. left_by n p) free

    -- Turns that were owed leave nothing for later.
    pub lefts_none : (k min p : ℕ) → k ≤ min → lefts k min p ≡ []
    lefts_none zero min p owed = refl
    lefts_none (suc k) min p owed = ap (λ r. r ++ lefts k min p) (owed_left (min - k) (p + k) (omega arith)) ∙ lefts_none k min p (omega arith)

    pub lefts_some : (e k min p : ℕ) → k ≡ suc (min + e) → lefts k min p ≡ choices_run leaves e (p + k - 1)
    lefts_some e zero min p is = absurd (omega arith)
    lefts_some zero (suc k) min p is =
        let free : min - k ≡ 0 = omega arith in
        let place : p + k ≡ p + suc k - 1 = omega arith in
        ap (λ r. r ++ lefts k min p) (free_left (min - k) (p + k) free) ∙ ap (λ r. (silent ∷ leaves (p + k)) ++ r) (lefts_none k min p (omega arith)) ∙ append-nil (silent ∷ leaves (p + k)) ∙ ap (λ q. silent ∷ leaves q) place
    lefts_some (suc e) (suc k) min p is =
        let free : min - k ≡ 0 = omega arith in
        let place : p + k ≡ p + suc k - 1 = omega arith in
        ap (λ r. r ++ lefts k min p) (free_left (min - k) (p + k) free) ∙ ap (λ r. (silent ∷ leaves (p + k)) ++ r) (lefts_some e k min p (omega arith)) ∙ ap (λ q. (silent ∷ leaves q) ++ choices_run leaves e (q - 1)) place
