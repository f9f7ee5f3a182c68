-- A search with the rewritten pattern ends as one with the pattern does.
use Rattle.std.proofs.Common.{◌≡◌, refl, ap, sym, subst, ◌∙◌, ℕ, zero, suc, ◌+◌, ◌*◌, ◌≤◌, true, false, if◌then◌else◌, Option, Some, None, Ok, List, [], ◌∷◌, length, map, arith}
use Rattle.std.specs.Prelude.{replicate}
use Rattle.rx_ast.specs.Tree.{Whole}
use Rattle.rx_model.specs.Trees.Names.{AreDistinct}
use Rattle.rx_trace.specs.declared.answer.Found.{Found}
use Rattle.rx_trace.specs.declared.answer.MatchFlags.{MatchFlags}
use Rattle.rx_trace.specs.declared.answer.Slot.{Slot}
use Rattle.rx_trace.specs.declared.answer.Slot.TheVariants.{Unset}
use Rattle.rx_trace.specs.Traces.{State, Trace, cost, first, states}
use Rattle.rx_trace.specs.Groups.{Names, groups_in_each, names_in_each}
use Rattle.rx_trace.specs.Matching.{alternatives_trace}
use Rattle.rx_trace.specs.Answers.{settings, pattern_trace, each_trace, place_of, begins_at, IsFirstOutcome}
use Rattle.rx_rewrite.specs.declared.rewrites.Rewrites.{Rewrites}
use Rattle.rx_rewrite.specs.Asked.{CanBeRewritten}
use Rattle.rx_rewrite.specs.Rewriting.{name_rewritten, flags_rewritten, rewritten}
use Rattle.rx_rewrite.proofs.Follows.{Follows, follow-append, follow-cost, follow-first, follow-states}
use Rattle.rx_rewrite.proofs.NamedSlots.{given-each}
use Rattle.rx_rewrite.proofs.SameGroups.{names-each, groups-each}
use Rattle.rx_trace.proofs.GroupNames.{names-length-each}
use Rattle.rx_rewrite.proofs.TreeFollows.{each_follows}

found_by : (a b : Found) → a.start ≡ b.start → a.end ≡ b.end → a.groups ≡ b.groups → a ≡ b
found_by a b start end groups =
    ap (λ x. let it : Found = record { start = x; end = a.end; groups = a.groups } in it) start
    ∙ ap (λ x. let it : Found = record { start = b.start; end = x; groups = a.groups } in it) end
    ∙ ap (λ x. let it : Found = record { start = b.start; end = b.end; groups = x } in it) groups

-- Two searches, where from each place the trace of the second follows that of the first:
module _ (f g : ℕ → Trace) (follows : (p : ℕ) → Follows (f p) (g p)) where
  each_follow : (more p : ℕ) → Follows (each_trace f more p) (each_trace g more p)
  each_follow zero p = follows p
  each_follow (suc more) p = follow-append (f p) (g p) (each_trace f more (p + 1)) (each_trace g more (p + 1)) (follows p) (each_follow more (p + 1))

  -- the first state is the same,
  pub same_end : (more p : ℕ) → first (each_trace g more p) ≡ first (each_trace f more p)
  same_end more p = follow-first (each_trace f more p) (each_trace g more p) (each_follow more p)

  -- so is the place from which it is reached,
  pub same_begin : (more p : ℕ) → begins_at g more p ≡ begins_at f more p
  same_begin zero p = refl
  same_begin (suc more) p =
      ap (λ o. place_of o p (begins_at g more (p + 1))) (follow-first (f p) (g p) (follows p)) ∙ ap (λ later. place_of (first (f p)) p later) (same_begin more (p + 1))

  -- and there are as many Ticks before it or more, and at most twice as many.
  pub same_ticks : (more p : ℕ) → (cost (each_trace f more p) ≤ cost (each_trace g more p)) × (cost (each_trace g more p) ≤ 2 * cost (each_trace f more p))
  same_ticks more p = follow-cost (each_trace f more p) (each_trace g more p) (each_follow more p)

  -- So two answers are equal, whatever the budgets,
  pub same_answer : (more start budget most : ℕ) (a b : Option Found) → IsFirstOutcome f more start budget (Ok a) → IsFirstOutcome g more start most (Ok b) → a ≡ b
  same_answer more start budget most None None of_f of_g = refl
  same_answer more start budget most None (Some b) of_f of_g = let e : None ≡ Some _ = sym of_f.0 ∙ sym (same_end more start) ∙ of_g.0 in absurd (cc)
  same_answer more start budget most (Some a) None of_f of_g = let e : Some _ ≡ None = sym of_f.0 ∙ sym (same_end more start) ∙ of_g.0 in absurd (cc)
  same_answer more start budget most (Some a) (Some b) of_f of_g =
      let e : Some (let it : State = record { place = a.end; slots = a.groups } in it) ≡ Some (record { place = b.end; slots = b.groups }) = sym of_f.0 ∙ sym (same_end more start) ∙ of_g.0 in
      ap Some (found_by a b (of_f.1 ∙ sym (same_begin more start) ∙ sym of_g.1) (some_state a.end b.end a.groups b.groups e).0 (some_state a.end b.end a.groups b.groups e).1)
    where
      some_state : (p q : ℕ) (ss ts : List Slot) → Some (let it : State = record { place = p; slots = ss } in it) ≡ Some (record { place = q; slots = ts }) → (p ≡ q) × (ss ≡ ts)
      some_state p q ss ts e = (ap (λ o. place_of_some o p) e, ap (λ o. slots_of_some o ss) e)
        where
          place_of_some : Option State → ℕ → ℕ
          place_of_some None p = p
          place_of_some (Some s) p = s.place

          slots_of_some : Option State → List Slot → List Slot
          slots_of_some None ss = ss
          slots_of_some (Some s) ss = s.slots

  -- what the second answers within a budget the first answers within it,
  pub answer_before : (more start budget : ℕ) (a : Option Found) → IsFirstOutcome g more start budget (Ok a) → IsFirstOutcome f more start budget (Ok a)
  answer_before more start budget None of_g =
      let ticks = same_ticks more start in
      let within = of_g.1 in
      (sym (same_end more start) ∙ of_g.0, omega arith)
  answer_before more start budget (Some a) of_g =
      let ticks = same_ticks more start in
      let within = of_g.2 in
      (sym (same_end more start) ∙ of_g.0, of_g.1 ∙ same_begin more start, omega arith)

  -- and what the first answers within a budget the second answers within twice the budget.
  pub answer_after : (more start budget most : ℕ) (a : Option Found) → 2 * budget ≤ most → IsFirstOutcome f more start budget (Ok a) → IsFirstOutcome g more start most (Ok a)
  answer_after more start budget most None enough of_f =
      let ticks = same_ticks more start in
      let within = of_f.1 in
      (same_end more start ∙ of_f.0, omega arith)
  answer_after more start budget most (Some a) enough of_f =
      let ticks = same_ticks more start in
      let within = of_f.2 in
      (same_end more start ∙ of_f.0, of_f.1 ∙ sym (same_begin more start), omega arith)

-- The names that the groups have after a rewriting.
names_gone : (ns : Names) → map (λ (name : Option (List ℕ)). let none : Option (List ℕ) = None in none) ns ≡ replicate (length ns) None
names_gone [] = refl
names_gone (n ∷ ns) = ap (λ xs. None ∷ xs) (names_gone ns)

names_same : (ns : Names) → map (λ name. name) ns ≡ ns
names_same [] = refl
names_same (n ∷ ns) = ap (λ xs. n ∷ xs) (names_same ns)

module _ (what : Rewrites) (flags : MatchFlags) (tree : Whole) where
  its_names : names_in_each (rewritten what flags tree).1.1 ≡ map (name_rewritten what (names_in_each tree.1.1)) (names_in_each tree.1.1)
  its_names = names-each what (names_in_each tree.1.1) (settings flags) (settings (flags_rewritten what flags)) tree.1.1

  pub its_groups : groups_in_each (rewritten what flags tree).1.1 ≡ groups_in_each tree.1.1
  its_groups = groups-each what (names_in_each tree.1.1) (settings flags) (settings (flags_rewritten what flags)) tree.1.1

  pub no_names : what.named_capture_groups ≡ true → names_in_each (rewritten what flags tree).1.1 ≡ replicate (groups_in_each tree.1.1) None
  no_names asked =
      its_names ∙ ap (λ b. map (λ name. if b then None else name) (names_in_each tree.1.1)) asked ∙ names_gone (names_in_each tree.1.1) ∙ ap (λ k. replicate k None) (names-length-each tree.1.1)

  pub all_names : what.named_capture_groups ≡ false → names_in_each (rewritten what flags tree).1.1 ≡ names_in_each tree.1.1
  all_names not_asked = its_names ∙ ap (λ b. map (λ name. if b then None else name) (names_in_each tree.1.1)) not_asked ∙ names_same (names_in_each tree.1.1)

  -- From each place of each input the trace of the rewritten pattern follows that of the pattern.
  pub pattern_follows : CanBeRewritten what tree → (input : List ℕ) (start : ℕ) →
      Follows (pattern_trace flags tree input start) (pattern_trace (flags_rewritten what flags) (rewritten what flags tree) input start)
  pattern_follows can input start =
      let names = names_in_each tree.1.1 in
      let new_names = names_in_each (rewritten what flags tree).1.1 in
      let old = settings flags in
      let new = settings (flags_rewritten what flags) in
      subst (λ k. Follows (pattern_trace flags tree input start) (alternatives_trace input new_names (rewritten what flags tree).1.1 new false 0 (record { place = start; slots = replicate k Unset }))) (sym its_groups)
      (each_follows input what names new_names (λ asked. subst AreDistinct (sym (given-each tree.1.1)) (can asked)) all_names tree.1.1 old new false 0
      (record { place = start; slots = replicate (groups_in_each tree.1.1) Unset }))

  -- So it reaches the same states, in their order.
  pub same_states : CanBeRewritten what tree → (input : List ℕ) (start : ℕ) →
      states (pattern_trace (flags_rewritten what flags) (rewritten what flags tree) input start) ≡ states (pattern_trace flags tree input start)
  same_states can input start = follow-states (pattern_trace flags tree input start) (pattern_trace (flags_rewritten what flags) (rewritten what flags tree) input start) (pattern_follows can input start)
