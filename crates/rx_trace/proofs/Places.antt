-- Traces one after the other.
use Rattle.std.proofs.Common.{◌≡◌, refl, ap, sym, ◌∙◌, ℕ, zero, suc, ◌+◌, ◌-◌, ◌≤◌, ◌<◌, Some, None, [], ◌∷◌, ◌++◌, arith}
use Rattle.rx_trace.specs.Traces.{State, Trace, tick, reached, cost, first}
use Rattle.rx_trace.specs.Answers.{each_trace, place_of, begins_at}

first-none : (a b : Trace) → first a ≡ None → first (a ++ b) ≡ first b
first-none [] b none = refl
first-none (tick ∷ a) b none = first-none a b none
first-none (reached s ∷ a) b none = absurd (cc)

cost-none : (a b : Trace) → first a ≡ None → cost (a ++ b) ≡ cost a + cost b
cost-none [] b none = omega arith
cost-none (tick ∷ a) b none = let e = cost-none a b none in omega arith
cost-none (reached s ∷ a) b none = absurd (cc)

first-some : (a b : Trace) (s : State) → first a ≡ Some s → first (a ++ b) ≡ Some s
first-some [] b s some = absurd (cc)
first-some (tick ∷ a) b s some = first-some a b s some
first-some (reached w ∷ a) b s some = some

cost-some : (a b : Trace) (s : State) → first a ≡ Some s → cost (a ++ b) ≡ cost a
cost-some [] b s some = absurd (cc)
cost-some (tick ∷ a) b s some = let e = cost-some a b s some in omega arith
cost-some (reached w ∷ a) b s some = refl

cost-more : (a b : Trace) → cost a ≤ cost (a ++ b)
cost-more [] b = omega arith
cost-more (tick ∷ a) b = let e = cost-more a b in omega arith
cost-more (reached s ∷ a) b = omega arith

-- what is left of a search: it was not found so far, and what that cost is gone of the budget
pub record Searches (from : ℕ → Trace) (start last budget place left : ℕ) : Type 0 where
  pub within : place ≤ last
  pub costs : budget + cost (each_trace from (last - place) place) ≡ cost (each_trace from (last - start) start) + left
  pub firsts : first (each_trace from (last - start) start) ≡ first (each_trace from (last - place) place)
  pub begins : begins_at from (last - start) start ≡ begins_at from (last - place) place

pub searches_none : (from : ℕ → Trace) (start last budget : ℕ) → start ≤ last → Searches from start last budget start budget
searches_none from start last budget within = record { within = within; costs = omega arith; firsts = refl; begins = refl }

module _ (from : ℕ → Trace) (start last budget place left : ℕ) (it : Searches from start last budget place left) where
  -- not from this place
  pub searches_on : (less : ℕ) → place < last → first (from place) ≡ None → left ≡ cost (from place) + less → Searches from start last budget (place + 1) less
  searches_on less before none paid =
      let n : last - place ≡ suc (last - (place + 1)) = omega arith in
      let rest = each_trace from (last - (place + 1)) (place + 1) in
      let split : each_trace from (last - place) place ≡ from place ++ rest = ap (λ k. each_trace from k place) n in
      let e = ap cost split ∙ cost-none (from place) rest none in
      let c = it.costs in
      record {
        within = omega arith;
        costs = omega arith;
        firsts = it.firsts ∙ ap first split ∙ first-none (from place) rest none;
        begins = it.begins ∙ ap (λ k. begins_at from k place) n ∙ ap (λ o. place_of o place (begins_at from (last - (place + 1)) (place + 1))) none;
      }

  -- not from the last place
  pub searched_all : (less : ℕ) → place ≡ last → first (from place) ≡ None → left ≡ cost (from place) + less → (first (each_trace from (last - start) start) ≡ None) × (budget ≡ cost (each_trace from (last - start) start) + less)
  searched_all less at none paid =
      let n : last - place ≡ 0 = omega arith in
      let split : each_trace from (last - place) place ≡ from place = ap (λ k. each_trace from k place) n in
      let e = ap cost split in
      let c = it.costs in
      (it.firsts ∙ ap first split ∙ none, omega arith)

  -- from this place
  record Parts : Type 0 where
    pub rest : Trace
    pub is : each_trace from (last - place) place ≡ from place ++ rest

  parts : Parts
  parts = by_number (last - place) refl
    where
      by_number : (k : ℕ) → last - place ≡ k → Parts
      by_number zero is = record { rest = []; is = ap (λ k. each_trace from k place) is ∙ sym (Rattle.std.proofs.Common.append-nil (from place)) }
      by_number (suc k) is = record { rest = each_trace from k (place + 1); is = ap (λ k. each_trace from k place) is }

  pub searched_found : (s : State) (less : ℕ) → first (from place) ≡ Some s → left ≡ cost (from place) + less
      → (first (each_trace from (last - start) start) ≡ Some s) × (place ≡ begins_at from (last - start) start) × (budget ≡ cost (each_trace from (last - start) start) + less)
  searched_found s less some paid =
      let e = ap cost parts.is ∙ cost-some (from place) parts.rest s some in
      let c = it.costs in
      (it.firsts ∙ ap first parts.is ∙ first-some (from place) parts.rest s some, sym (it.begins ∙ begins_here (last - place)), omega arith)
    where
      begins_here : (k : ℕ) → begins_at from k place ≡ place
      begins_here zero = refl
      begins_here (suc k) = ap (λ o. place_of o place (begins_at from k (place + 1))) some

  pub searched_spent : left < cost (from place) → budget < cost (each_trace from (last - start) start)
  searched_spent spent =
      let e = ap cost parts.is in
      let f = cost-more (from place) parts.rest in
      let c = it.costs in
      omega arith
