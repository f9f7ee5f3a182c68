-- A repetition does not depend on how many turns it is allowed, where these are enough.
use Rattle.std.proofs.Common.{◌≡◌, ◌≢◌, refl, ap, ◌∙◌, ℕ, zero, suc, ◌+◌, ◌-◌, ◌≤◌, ◌<◌, Bool, true, false, ◌==◌, if◌then◌else◌, Option, [], ◌∷◌, arith}
use Rattle.std.proofs.lemmas.Bool.{eqb-false}
use Rattle.rx_trace.specs.Traces.{State}
use Rattle.rx_trace.specs.Repeats.{is_over, one_less}
use Rattle.rx_match.specs.Runs.{Run, silent, bind, turn_end_run, in_turn_run, repetition_run}
use Rattle.rx_match.proofs.Runs.{EachReached, bind-same}

-- how far a place is from where its direction ends
abbrev pub room : ℕ → Bool → ℕ → ℕ
room n false p = n - p
room n true p = p

-- from a place to another, in a direction
abbrev pub Moves : ℕ → Bool → ℕ → ℕ → Type 0
Moves n false p q = (p ≤ q) × (q ≤ n)
Moves n true p q = (q ≤ p) × (q ≤ n)

pub less-room : (n : ℕ) (back : Bool) (p q : ℕ) → p ≤ n → Moves n back p q → room n back q ≤ room n back p
less-room n false p q within moves = omega arith
less-room n true p q within moves = omega arith

pub much-less-room : (n : ℕ) (back : Bool) (p q : ℕ) → p ≤ n → Moves n back p q → q ≢ p → room n back q < room n back p
much-less-room n false p q within moves apart = omega arith
much-less-room n true p q within moves apart = omega arith

pub inside : (n : ℕ) (back : Bool) (p q : ℕ) → Moves n back p q → q ≤ n
inside n false p q moves = moves.1
inside n true p q moves = moves.1

after-zero : (p : ℕ) (f g : State → Run) (w : State) → ((w.place ≢ p) → f w ≡ g w) → turn_end_run zero p f w ≡ turn_end_run zero p g w
after-zero p f g w same = by_test (w.place == p) refl
  where
    by_test : (b : Bool) → (w.place == p) ≡ b → (silent ∷ (if b then [] else f w)) ≡ (silent ∷ (if b then [] else g w))
    by_test true is = refl
    by_test false is = ap (λ r. silent ∷ r) (same (λ e. eqb-false w.place p is e))

module _ (body rest : State → Run) (unset : State → State) (greedy : Bool) (n : ℕ) (back : Bool)
    (moves : (s : State) → s.place ≤ n → EachReached (λ w. Moves n back s.place w.place) (body (unset s))) where
  abbrev again : ℕ → ℕ → Option ℕ → State → Run
  again zero min max w = []
  again (suc t) min max w = repetition_run body rest unset greedy t (min - 1) (one_less max) w

  abbrev pub stepped : ℕ → Option ℕ → State → (State → Run) → Run
  stepped min max s f = silent ∷ (if is_over max then rest s else in_turn_run min greedy (rest s) (silent ∷ bind (body (unset s)) (turn_end_run min s.place f)))

  stepped-is : (t min : ℕ) (max : Option ℕ) (s : State) → repetition_run body rest unset greedy t min max s ≡ stepped min max s (again t min max)
  stepped-is zero min max s = refl
  stepped-is (suc t) min max s = refl

  stepped-same : (min : ℕ) (max : Option ℕ) (s : State) (f g : State → Run) → s.place ≤ n → ((w : State) → Moves n back s.place w.place → turn_end_run min s.place f w ≡ turn_end_run min s.place g w) → stepped min max s f ≡ stepped min max s g
  stepped-same min max s f g within same =
      ap (λ r. silent ∷ (if is_over max then rest s else in_turn_run min greedy (rest s) (silent ∷ r))) (bind-same (λ w. Moves n back s.place w.place) (body (unset s)) (turn_end_run min s.place f) (turn_end_run min s.place g) (moves s within) same)

  pub same-loops : (t u min : ℕ) (max : Option ℕ) (s : State) → s.place ≤ n → min + room n back s.place ≤ t → min + room n back s.place ≤ u
      → repetition_run body rest unset greedy t min max s ≡ repetition_run body rest unset greedy u min max s
  same-loops zero zero min max s within enough enough' = refl
  same-loops zero (suc u) zero max s within enough enough' =
      stepped-same zero max s (again zero zero max) (again (suc u) zero max) within (λ w m. after-zero s.place (again zero zero max) (again (suc u) zero max) w (λ apart.
      let less = much-less-room n back s.place w.place within m apart in absurd (omega arith)))
  same-loops (suc t) zero zero max s within enough enough' =
      stepped-same zero max s (again (suc t) zero max) (again zero zero max) within (λ w m. after-zero s.place (again (suc t) zero max) (again zero zero max) w (λ apart.
      let less = much-less-room n back s.place w.place within m apart in absurd (omega arith)))
  same-loops zero (suc u) (suc min) max s within enough enough' = absurd (omega arith)
  same-loops (suc t) zero (suc min) max s within enough enough' = absurd (omega arith)
  same-loops (suc t) (suc u) zero max s within enough enough' =
      stepped-same zero max s (again (suc t) zero max) (again (suc u) zero max) within (λ w m. after-zero s.place (again (suc t) zero max) (again (suc u) zero max) w (λ apart.
      let less = much-less-room n back s.place w.place within m apart in
      same-loops t u (zero - 1) (one_less max) w (inside n back s.place w.place m) (omega arith) (omega arith)))
  same-loops (suc t) (suc u) (suc min) max s within enough enough' =
      stepped-same (suc min) max s (again (suc t) (suc min) max) (again (suc u) (suc min) max) within (λ w m.
      let less = less-room n back s.place w.place within m in
      ap (λ r. silent ∷ r) (same-loops t u (suc min - 1) (one_less max) w (inside n back s.place w.place m) (omega arith) (omega arith)))

  room-within : (back' : Bool) (p : ℕ) → p ≤ n → room n back' p ≤ n
  room-within false p within = omega arith
  room-within true p within = within

  -- a repetition with as many turns as it may need
  abbrev pub full : ℕ → Option ℕ → State → Run
  full min max s = repetition_run body rest unset greedy (min + n) min max s

  again-full : (t min : ℕ) (max : Option ℕ) (s w : State) → s.place ≤ n → min + room n back s.place ≤ t → Moves n back s.place w.place
      → turn_end_run min s.place (again t min max) w ≡ turn_end_run min s.place (λ v. full (min - 1) (one_less max) v) w
  again-full zero zero max s w within enough m =
      after-zero s.place (again zero zero max) (λ v. full (zero - 1) (one_less max) v) w (λ apart. let less = much-less-room n back s.place w.place within m apart in absurd (omega arith))
  again-full zero (suc min) max s w within enough m = absurd (omega arith)
  again-full (suc t) zero max s w within enough m =
      after-zero s.place (again (suc t) zero max) (λ v. full (zero - 1) (one_less max) v) w (λ apart.
      let less = much-less-room n back s.place w.place within m apart in
      let w_in = inside n back s.place w.place m in
      let fits = room-within back w.place w_in in
      same-loops t (zero - 1 + n) (zero - 1) (one_less max) w w_in (omega arith) (omega arith))
  again-full (suc t) (suc min) max s w within enough m =
      let less = less-room n back s.place w.place within m in
      let w_in = inside n back s.place w.place m in
      let fits = room-within back w.place w_in in
      ap (λ r. silent ∷ r) (same-loops t (suc min - 1 + n) (suc min - 1) (one_less max) w w_in (omega arith) (omega arith))

  pub full-is : (min : ℕ) (max : Option ℕ) (s : State) → s.place ≤ n → full min max s ≡ stepped min max s (λ w. full (min - 1) (one_less max) w)
  full-is min max s within =
      let fits = room-within back s.place within in
      let enough : min + room n back s.place ≤ min + n = omega arith in
      stepped-is (min + n) min max s
      ∙ stepped-same min max s (again (min + n) min max) (λ w. full (min - 1) (one_less max) w) within (λ w m. again-full (min + n) min max s w within enough m)
