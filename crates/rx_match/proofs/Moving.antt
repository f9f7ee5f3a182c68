-- In one direction no code moves back, and none leaves the input.
use Rattle.std.proofs.Common.{◌≡◌, refl, ap, ℕ, zero, suc, ◌+◌, ◌-◌, ◌≤◌, Bool, true, false, ◌==◌, ◌&&◌, if◌then◌else◌, Option, Some, None, List, [], ◌∷◌, length, take, drop, arith, length-drop, length-take}
use Rattle.std.specs.Prelude.{nat_le}
use Rattle.std.proofs.lemmas.Bool.{false≢true}
use Rattle.std.proofs.lemmas.Option.{slice_get_within}
use Rattle.rx_trace.specs.declared.answer.Slot.{Slot}
use Rattle.rx_trace.specs.declared.answer.Slot.TheVariants.{Unset, Set}
use Rattle.rx_trace.specs.Traces.{State}
use Rattle.rx_trace.specs.Holding.{ahead, unit_before, boundary_holds}
use Rattle.rx_trace.specs.Repeats.{is_over, one_less}
use Rattle.rx_trace.specs.Groups.{same_units, unset_in, with_capture}
use Rattle.rx_trace.specs.Matching.{place_if_held, looks_back, place_over}
use Rattle.rx_match.specs.Runs.{Run, silent, bind, run_onward, turn_end_run, in_turn_run, repetition_run, unit_to, slot_to, code_run, is_negative, at_place}
use Rattle.rx_program.specs.Codes.{Code, accept, reject, consume, assert, refer, enter_group, choose, sequence, capture, look_around, repeat}
use Rattle.rx_match.proofs.Runs.{EachReached, reaches-append, reaches-bind, reaches-weaker, reaches-peek}
use Rattle.rx_match.proofs.EnoughTurns.{Moves, inside}

pub stays-moves : (n : ℕ) (back : Bool) (p : ℕ) → p ≤ n → Moves n back p p
stays-moves n false p within = (omega arith, within)
stays-moves n true p within = (omega arith, within)

pub moves-moves : (n : ℕ) (back : Bool) (p q r : ℕ) → Moves n back p q → Moves n back q r → Moves n back p r
moves-moves n false p q r a b = (omega arith, b.1)
moves-moves n true p q r a b = (omega arith, b.1)

units-if : (b c : Bool) → (if b then c else false) ≡ true → c ≡ true
units-if true c is = is
units-if false c is = absurd (false≢true is)

module _ (input : List ℕ) where
  -- where a step leads, if anywhere
  abbrev pub MovesTo : Bool → ℕ → Option ℕ → Type 0
  MovesTo back p None = Unit {0}
  MovesTo back p (Some q) = Moves (length input) back p q

  held-moves : (holds : ℕ → Bool) (back : Bool) (p q : ℕ) (o : Option ℕ) → ((c : ℕ) → o ≡ Some c → Moves (length input) back p q) → MovesTo back p (place_if_held holds q o)
  held-moves holds back p q None moves = tt
  held-moves holds back p q (Some c) moves = by_test (holds c)
    where
      by_test : (b : Bool) → MovesTo back p (if b then Some q else None)
      by_test true = moves c refl
      by_test false = tt

  pub unit-moves : (back : Bool) (holds : ℕ → Bool) (p : ℕ) → p ≤ length input → MovesTo back p (unit_to input back holds p)
  unit-moves false holds p within = held-moves holds false p (p + 1) (ahead input p) (λ c is. let below = slice_get_within input p c is in (omega arith, omega arith))
  unit-moves true holds p within = held-moves holds true p (p - 1) (unit_before input p) (λ c is. (omega arith, omega arith))

  same-length : (a b : List ℕ) → same_units a b ≡ true → length a ≡ length b
  same-length [] [] same = refl
  same-length [] (d ∷ ds) same = absurd (false≢true same)
  same-length (c ∷ cs) [] same = absurd (false≢true same)
  same-length (c ∷ cs) (d ∷ ds) same = ap (λ k. suc k) (same-length cs ds (units-if (c == d) (same_units cs ds) same))

  pub slot-ahead : (text : List ℕ) (p : ℕ) → p ≤ length input → MovesTo false p (place_over input false text p)
  slot-ahead text p within = by_test (same_units (take (length text) (drop p input)) text) refl
    where
      by_test : (b : Bool) → same_units (take (length text) (drop p input)) text ≡ b → MovesTo false p (if b then Some (p + length text) else None)
      by_test true is =
          let same = same-length (take (length text) (drop p input)) text is in
          let taken = length-take (length text) (drop p input) in
          let dropped = length-drop p input in
          (omega arith, omega arith)
      by_test false is = tt

  pub slot-back : (text : List ℕ) (p : ℕ) → p ≤ length input → MovesTo true p (place_over input true text p)
  slot-back text p within = by_test (nat_le (length text) p && same_units (take (length text) (drop (p - length text) input)) text)
    where
      by_test : (b : Bool) → MovesTo true p (if b then Some (p - length text) else None)
      by_test true = (omega arith, omega arith)
      by_test false = tt

  pub slot-moves : (back : Bool) (sl : Slot) (p : ℕ) → p ≤ length input → MovesTo back p (slot_to input back sl p)
  slot-moves back Unset p within = stays-moves (length input) back p within
  slot-moves false (Set start end) p within = slot-ahead (take (end - start) (drop start input)) p within
  slot-moves true (Set start end) p within = slot-back (take (end - start) (drop start input)) p within

  go-moves : (back : Bool) (o : Option ℕ) (s : State) (k : State → Run) → MovesTo back s.place o
      → ((w : State) → Moves (length input) back s.place w.place → EachReached (λ v. Moves (length input) back w.place v.place) (k w)) → EachReached (λ v. Moves (length input) back s.place v.place) (run_onward o s k)
  go-moves back None s k moves rest = tt
  go-moves back (Some p) s k moves rest =
      reaches-weaker (λ v. Moves (length input) back s.place v.place) (λ v. Moves (length input) back p v.place) (k (at_place p s)) (λ v m. moves-moves (length input) back s.place p v.place moves m) (rest (at_place p s) moves)

  -- each state that a run arrives at is one that the state can move to
  abbrev pub StaysInside : Bool → State → Run → Type 0
  StaysInside back s r = EachReached (λ w. Moves (length input) back s.place w.place) r

  then-inside : (back : Bool) (s : State) (r : Run) (f : State → Run) → StaysInside back s r → ((w : State) → Moves (length input) back s.place w.place → StaysInside back w (f w)) → StaysInside back s (bind r f)
  then-inside back s r f first rest =
      reaches-bind (λ w. Moves (length input) back s.place w.place) (λ w. Moves (length input) back s.place w.place) r f first
      (λ w m. reaches-weaker (λ v. Moves (length input) back s.place v.place) (λ v. Moves (length input) back w.place v.place) (f w) (λ v n. moves-moves (length input) back s.place w.place v.place m n) (rest w m))

  after-inside : (min p : ℕ) (back : Bool) (again : State → Run) (w : State) → StaysInside back w (again w) → StaysInside back w (turn_end_run min p again w)
  after-inside zero p back again w resume_at = by_test (w.place == p)
    where
      by_test : (b : Bool) → StaysInside back w (if b then [] else again w)
      by_test true = tt
      by_test false = resume_at
  after-inside (suc min) p back again w resume_at = resume_at

  arranged-inside : (min : ℕ) (greedy back : Bool) (s : State) (leave turn_run : Run) → StaysInside back s leave → StaysInside back s turn_run → StaysInside back s (in_turn_run min greedy leave turn_run)
  arranged-inside (suc min) greedy back s leave turn_run l o = o
  arranged-inside zero true back s leave turn_run l o = reaches-append (λ w. Moves (length input) back s.place w.place) turn_run (silent ∷ leave) o l
  arranged-inside zero false back s leave turn_run l o = reaches-append (λ w. Moves (length input) back s.place w.place) leave (silent ∷ turn_run) l o

  if-inside : (b back : Bool) (s : State) (x y : Run) → StaysInside back s x → StaysInside back s y → StaysInside back s (if b then x else y)
  if-inside true back s x y gx gy = gx
  if-inside false back s x y gx gy = gy

  loop-inside : (body rest : State → Run) (unset : State → State) (greedy back : Bool)
      → ((s : State) → s.place ≤ length input → StaysInside back s (body (unset s))) → ((s : State) → s.place ≤ length input → StaysInside back s (rest s))
      → (turns min : ℕ) (max : Option ℕ) (s : State) → s.place ≤ length input → StaysInside back s (repetition_run body rest unset greedy turns min max s)
  loop-inside body rest unset greedy back b r zero min max s within =
      if-inside (is_over max) back s (rest s) _ (r s within) (arranged-inside min greedy back s (rest s) _ (r s within)
      (then-inside back s (body (unset s)) (turn_end_run min s.place (λ w. [])) (b s within) (λ w m. after-inside min s.place back (λ w. []) w tt)))
  loop-inside body rest unset greedy back b r (suc turns) min max s within =
      if-inside (is_over max) back s (rest s) _ (r s within) (arranged-inside min greedy back s (rest s) _ (r s within)
      (then-inside back s (body (unset s)) (turn_end_run min s.place (λ w. repetition_run body rest unset greedy turns (min - 1) (one_less max) w)) (b s within)
      (λ w m. after-inside min s.place back (λ w. repetition_run body rest unset greedy turns (min - 1) (one_less max) w) w
      (loop-inside body rest unset greedy back b r turns (min - 1) (one_less max) w (inside (length input) back s.place w.place m)))))

  pub code-inside : (c : Code) (back : Bool) (s : State) → s.place ≤ length input → StaysInside back s (code_run input c back s)
  code-inside accept back s within = (stays-moves (length input) back s.place within, tt)
  code-inside reject back s within = tt
  code-inside (consume holds next) back s within =
      go-moves back (unit_to input back holds s.place) s (code_run input next back) (unit-moves back holds s.place within) (λ w m. code-inside next back w (inside (length input) back s.place w.place m))
  code-inside (assert kind multiline next) back s within = if-inside (boundary_holds multiline input kind s.place) back s _ [] (code-inside next back s within) tt
  code-inside (refer slot next) back s within =
      go-moves back (slot_to input back (slot s.slots) s.place) s (code_run input next back) (slot-moves back (slot s.slots) s.place within) (λ w m. code-inside next back w (inside (length input) back s.place w.place m))
  code-inside (enter_group next) back s within = code-inside next back s within
  code-inside (choose first other) back s within =
      reaches-append (λ w. Moves (length input) back s.place w.place) (code_run input first back s) (silent ∷ code_run input other back s) (code-inside first back s within) (code-inside other back s within)
  code-inside (sequence first second) back s within =
      then-inside back s (code_run input first back s) (λ w. silent ∷ code_run input second back w) (code-inside first back s within) (λ w m. code-inside second back w (inside (length input) back s.place w.place m))
  code-inside (capture k body next) back s within =
      then-inside back s (code_run input body back s) (λ w. silent ∷ code_run input next back (with_capture k s.place w)) (code-inside body back s within) (λ w m. code-inside next back (with_capture k s.place w) (inside (length input) back s.place w.place m))
  code-inside (look_around kind body next) back s within =
      reaches-peek (λ w. Moves (length input) back s.place w.place) (is_negative kind) (code_run input body (looks_back kind) s) s (code_run input next back)
      (λ w. code-inside next back (at_place s.place w) within) (code-inside next back s within)
  code-inside (repeat min max greedy from count body next) back s within =
      loop-inside (code_run input body back) (code_run input next back) (unset_in from count) greedy back (λ s within. code-inside body back (unset_in from count s) within) (λ s within. code-inside next back s within) (min + length input) min max s within
