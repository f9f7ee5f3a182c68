-- The tokens are the longest runs of one owner, and no other list is.
use Rattle.std.proofs.Common.{◌≡◌, refl, ap, sym, ◌∙◌, subst, ℕ, zero, suc, ◌+◌, ◌-◌, ◌≤◌, ◌<◌, true, false, nat_lt, arith, List, [], ◌∷◌}
use Rattle.std.specs.Prelude.{if◌then◌else◌}
use Rattle.std.proofs.lemmas.Bool.Decides.{nat_tests}
use Rattle.rx_paint.specs.declared.token.Token.{Token}
use Rattle.rx_ast.specs.Forest.{Forest}
use Rattle.rx_paint.specs.Owners.{owner}
use Rattle.rx_paint.specs.Runs.{is_same, each_from, run, runs_from, runs, tokens, IsLongestRun, AreRuns, Tile}
use Rattle.rx_paint.proofs.Runs.{same_token_is, same_token, itself}

module _ (owns : ℕ → Token) where
  extended : (from at offset : ℕ) → ((b : ℕ) → from ≤ b → b < at → owns b ≡ owns from) → owns at ≡ owns from → from ≤ offset → offset < at + 1 → owns offset ≡ owns from
  extended from at offset before here low lt = elim (nat_lt offset at) as (λ b. nat_lt offset at ≡ b → owns offset ≡ owns from) [
    | true ↦ λ is. before offset low (grind (arith, nat_tests))
    | false ↦ λ is. let e : offset ≡ at = grind (arith, nat_tests) in ap owns e ∙ here
  ] refl

  goes_on : (own next first : Token) → is_same own next ≡ false → own ≡ first → next ≡ first → ⊥
  goes_on own next first other is same =
      let e : is_same own next ≡ true = subst (λ (t : Token). is_same own t ≡ true) (is ∙ sym same) (itself own) in
      let f : true ≡ false = sym e ∙ other in
      cc

  from_begun : (n from : ℕ) (own : Token) (at : ℕ) → from < at → own ≡ owns from → ((b : ℕ) → from ≤ b → b < at → owns b ≡ owns from) → AreRuns owns from (at + n) (runs_from from own at (each_from owns at n))
  from_begun zero from own at lt is before = (
    record { start = refl; some = lt; within = omega arith; kind = ap (λ (t : Token). t.kind) is; one = before; longest = λ less same. absurd (omega arith) },
    omega arith,
  )
  from_begun (suc n) from own at lt is before =
      let k : (at + 1) + n ≡ at + suc n = omega arith in
      subst (λ k. AreRuns owns from k (runs_from from own at (each_from owns at (suc n)))) k
      (elim (is_same own (owns at)) as (λ b. is_same own (owns at) ≡ b → AreRuns owns from ((at + 1) + n) (if b then runs_from from own (at + 1) (each_from owns (at + 1) n) else run from at own ∷ runs_from at (owns at) (at + 1) (each_from owns (at + 1) n))) [
        | true ↦ λ same. from_begun n from own (at + 1) (omega arith) is (λ b low lt. extended from at b before (sym (same_token_is own (owns at) same) ∙ is) low lt)
        | false ↦ λ other. (
          record { start = refl; some = lt; within = omega arith; kind = ap (λ (t : Token). t.kind) is; one = before; longest = λ less same. goes_on own (owns at) (owns from) other is same },
          from_begun n at (owns at) (at + 1) (omega arith) refl (λ b low lt. let e : b ≡ at = omega arith in ap owns e),
        )
      ] refl)

  from_start : (n at : ℕ) → AreRuns owns at (at + n) (runs at (each_from owns at n))
  from_start zero at = omega arith
  from_start (suc n) at =
      let k : (at + 1) + n ≡ at + suc n = omega arith in
      subst (λ k. AreRuns owns at k (runs at (each_from owns at (suc n)))) k (from_begun n at (owns at) (at + 1) (omega arith) refl (λ b low lt. let e : b ≡ at = omega arith in ap owns e))

  no_shorter : (x y : Token) (low high : ℕ) → IsLongestRun owns low high x → IsLongestRun owns low high y → x.span.end < y.span.end → ⊥
  no_shorter x y low high a b lt =
      let some = a.some in
      let within = b.within in
      a.longest (omega arith) (b.one x.span.end (omega arith) lt)

  same_end : (x y : Token) (low high : ℕ) → IsLongestRun owns low high x → IsLongestRun owns low high y → x.span.end ≡ y.span.end
  same_end x y low high a b =
      elim (nat_lt x.span.end y.span.end) as (λ t. nat_lt x.span.end y.span.end ≡ t → x.span.end ≡ y.span.end) [
        | true ↦ λ is. absurd (no_shorter x y low high a b (grind (arith, nat_tests)))
        | false ↦ λ is. elim (nat_lt y.span.end x.span.end) as (λ t. nat_lt y.span.end x.span.end ≡ t → x.span.end ≡ y.span.end) [
          | true ↦ λ too. absurd (no_shorter y x low high b a (grind (arith, nat_tests)))
          | false ↦ λ too. grind (arith, nat_tests)
        ] refl
      ] refl

  -- Two lists of the longest runs are one.
  pub one_list : (xs ys : List Token) (low high : ℕ) → AreRuns owns low high xs → AreRuns owns low high ys → xs ≡ ys
  one_list [] [] low high a b = refl
  one_list [] (y ∷ ys) low high a b =
      let some = b.0.some in
      let within = b.0.within in
      absurd (omega arith)
  one_list (x ∷ xs) [] low high a b =
      let some = a.0.some in
      let within = a.0.within in
      absurd (omega arith)
  one_list (x ∷ xs) (y ∷ ys) low high a b =
      let end = same_end x y low high a.0 b.0 in
      let same = same_token x y (a.0.start ∙ sym b.0.start) end (a.0.kind ∙ sym b.0.kind) in
      ap (λ t. t ∷ xs) same ∙ ap (λ ts. y ∷ ts) (one_list xs ys y.span.end high (subst (λ k. AreRuns owns k high xs) end a.1) b.1)

  -- The longest runs tile the offsets.
  pub runs_tile : (ts : List Token) (low high : ℕ) → AreRuns owns low high ts → Tile low high ts
  runs_tile [] low high a = a
  runs_tile (t ∷ ts) low high a = (a.0.start, a.0.some, runs_tile ts t.span.end high a.1)

-- The tokens of a node are the longest runs of the owners of its offsets.
pub tokens_are_runs : (root : Token) (f : Forest Token) → root.span.start ≤ root.span.end → AreRuns (owner root f) root.span.start root.span.end (tokens root f)
tokens_are_runs root f le =
    let k : root.span.start + (root.span.end - root.span.start) ≡ root.span.end = omega arith in
    subst (λ k. AreRuns (owner root f) root.span.start k (tokens root f)) k (from_start (owner root f) (root.span.end - root.span.start) root.span.start)
