-- What each function of the builder does, over plain values.
use Rattle.std.proofs.Common.{◌≡◌, ◌≢◌, refl, ap, sym, ◌∙◌, subst, ℕ, suc, ◌+◌, ◌-◌, ◌≤◌, ◌<◌, List, [], ◌∷◌, ◌++◌, length, map, reverse, arith}
use Rattle.std.proofs.lemmas.List.{length-reverse}
use Rattle.rx_program.specs.declared.builder.Builder.{Builder}
use Rattle.rx_program.specs.declared.builder.Task.{Task}
use Rattle.rx_program.specs.declared.step.Step.{Step}
use Rattle.rx_trace.specs.Groups.{Names}
use Rattle.rx_program.specs.ClassTests.{row_tests}
use Rattle.rx_program.specs.Codes.{Code, capture}
use Rattle.rx_program.specs.Steps.{step_code, code_at}
use Rattle.rx_program.specs.Steps.{NamesBelow}
use Rattle.rx_program.specs.Works.{Work, capturing, groups_left, tests_left, on_one, on_two, swap, worked, all_worked, weight, weights}
use Rattle.rx_program.specs.BuilderState.{work_of, works_of, works, AreBelow, codes_of, with_code, with_task, with_step, IsProgram, IsBuilding, Replaces, Builds}
use Rattle.rx_trace.proofs.Lists.{reverse-last, length-last}
use Rattle.rx_program.proofs.Growing.{code-more, code-new, ordered-more, below-more, codes-more}

-- the codes, with one more at the end
pub codes_with : (b : Builder) (code : ℕ) → codes_of (with_code b code) ≡ code_at b.steps code ∷ codes_of b
codes_with b code = ap (map (code_at b.steps)) (reverse-last (b.codes ++ (code ∷ [])) b.codes code refl)

pub program_with : (b : Builder) (code : ℕ) → code < length b.steps → IsProgram b → IsProgram (with_code b code)
program_with b code within p = record {
  ordered = p.ordered;
  below = subst (AreBelow (length b.steps)) (sym (reverse-last (b.codes ++ (code ∷ [])) b.codes code refl)) (within, p.below);
  some = p.some;
  end = p.end;
}

-- the last code, and those before it
pub program_without : (b : Builder) (code : ℕ) → IsProgram (with_code b code) → (code < length b.steps) × IsProgram b
program_without b code p =
    let below : AreBelow (length b.steps) (code ∷ reverse b.codes) = subst (AreBelow (length b.steps)) (reverse-last (b.codes ++ (code ∷ [])) b.codes code refl) p.below in
    (below.0, record { ordered = p.ordered; below = below.1; some = p.some; end = p.end })

pub program_tasks : (b : Builder) (t : Task) → IsProgram b → IsProgram (with_task b t)
program_tasks b t p = record { ordered = p.ordered; below = p.below; some = p.some; end = p.end }

-- a step is added after some codes were taken away
pub program_step : (d : Builder) (x : Step) → NamesBelow (length d.steps) x → IsProgram d → IsProgram (with_step d x)
program_step d x names p =
    let steps = d.steps ++ (x ∷ []) in
    let more = length-last steps d.steps x refl in
    let some = p.some in
    record {
      ordered = ordered-more steps d.steps x refl names p.ordered;
      below = subst (AreBelow (length steps)) (sym (reverse-last (d.codes ++ (length d.steps ∷ [])) d.codes (length d.steps) refl)) (omega arith, below-more (length d.steps) (length steps) (reverse d.codes) (omega arith) p.below);
      some = omega arith;
      end = code-more steps d.steps x 0 refl p.some ∙ p.end;
    }

pub codes_step : (d : Builder) (x : Step) → IsProgram d → codes_of (with_step d x) ≡ step_code x (code_at d.steps) ∷ codes_of d
codes_step d x p =
    let steps = d.steps ++ (x ∷ []) in
    ap (map (code_at steps)) (reverse-last (d.codes ++ (length d.steps ∷ [])) d.codes (length d.steps) refl)
    ∙ ap (λ c. c ∷ map (code_at steps) (reverse d.codes)) (code-new steps d.steps x refl)
    ∙ ap (λ cs. step_code x (code_at d.steps) ∷ cs) (codes-more steps d.steps x (reverse d.codes) refl p.below)

pub replaces_one : (b d after : Builder) (one : ℕ) (x : Step) (f : Code → Code) → b ≡ with_code d one → after ≡ with_step d x → IsProgram b → ((n : ℕ) → one < n → NamesBelow n x)
    → ((g : ℕ → Code) → f (g one) ≡ step_code x g) → Replaces b (on_one f) after
replaces_one b d after one x f popped added program names is =
    let all : IsProgram (with_code d one) = subst IsProgram popped program in
    let p = program_without d one all in
    subst (λ y. Replaces b (on_one f) y) (sym added)
    (subst (λ y. Replaces y (on_one f) (with_step d x)) (sym popped)
    (record {
      names = refl;
      tasks = refl;
      before = refl;
      rows = refl;
      codes = codes_step d x p.1 ∙ ap (λ c. c ∷ codes_of d) (sym (is (code_at d.steps))) ∙ ap (on_one f) (sym (codes_with d one));
      program = program_step d x (names (length d.steps) p.0) p.1;
    }))

pub replaces_two : (b c d after : Builder) (one two : ℕ) (x : Step) (f : Code → Code → Code) → b ≡ with_code c one → c ≡ with_code d two → after ≡ with_step d x → IsProgram b
    → ((n : ℕ) → one < n → two < n → NamesBelow n x) → ((g : ℕ → Code) → f (g one) (g two) ≡ step_code x g) → Replaces b (on_two f) after
replaces_two b c d after one two x f popped again added program names is =
    let whole : b ≡ with_code (with_code d two) one = popped ∙ ap (λ y. with_code y one) again in
    let all : IsProgram (with_code (with_code d two) one) = subst IsProgram whole program in
    let p = program_without (with_code d two) one all in
    let q = program_without d two p.1 in
    subst (λ y. Replaces b (on_two f) y) (sym added)
    (subst (λ y. Replaces y (on_two f) (with_step d x)) (sym whole)
    (record {
      names = refl;
      tasks = refl;
      before = refl;
      rows = refl;
      codes = codes_step d x q.1 ∙ ap (λ c. c ∷ codes_of d) (sym (is (code_at d.steps)))
          ∙ ap (on_two f) (sym (codes_with (with_code d two) one ∙ ap (λ cs. code_at d.steps one ∷ cs) (codes_with d two)));
      program = program_step d x (names (length d.steps) p.0 q.0) q.1;
    }))

pub replaces_swapped : (b c d after : Builder) (one two : ℕ) → b ≡ with_code c one → c ≡ with_code d two → after ≡ with_code (with_code d one) two → IsProgram b → Replaces b swap after
replaces_swapped b c d after one two popped again pushed program =
    let whole : b ≡ with_code (with_code d two) one = popped ∙ ap (λ y. with_code y one) again in
    let all : IsProgram (with_code (with_code d two) one) = subst IsProgram whole program in
    let p = program_without (with_code d two) one all in
    let q = program_without d two p.1 in
    subst (λ y. Replaces b swap y) (sym pushed)
    (subst (λ y. Replaces y swap (with_code (with_code d one) two)) (sym whole)
    (record {
      names = refl;
      tasks = refl;
      before = refl;
      rows = refl;
      codes = codes_with (with_code d one) two ∙ ap (λ cs. code_at d.steps two ∷ cs) (codes_with d one)
          ∙ ap swap (sym (codes_with (with_code d two) one ∙ ap (λ cs. code_at d.steps one ∷ cs) (codes_with d two)));
      program = program_with (with_code d one) two q.0 (program_with d one p.0 q.1);
    }))

-- a piece of work that is done by a step
pub builds : (b after : Builder) (w : Work) (f : List Code → List Code) → IsBuilding b (w ∷ works b) → groups_left (w ∷ works b) ≡ groups_left (works b) → tests_left (w ∷ works b) ≡ tests_left (works b) → 0 < weight w
    → worked b.names.now w (groups_left (works b)) (codes_of b) ≡ f (codes_of b) → Replaces b f after → Builds b w after
builds b after w f sound none classless some is r =
    let are : works after ≡ works b = ap (λ ts. works_of (reverse ts)) r.tasks in
    let less = ap weights are in
    record {
      names = r.names;
      same = ap (all_worked b.names.now (works b)) (is ∙ sym r.codes) ∙ ap (λ ws. all_worked b.names.now ws (codes_of after)) (sym are);
      sound = record { program = r.program; before = r.before ∙ sound.before ∙ none ∙ ap groups_left (sym are); rows = ap row_tests r.rows ∙ sound.rows ∙ classless ∙ ap tests_left (sym are) };
      fewer = omega arith;
    }

-- a capturing group is closed: it is the last that opens before what is compiled
pub builds_capturing : (b d after : Builder) → d ≡ record b { before = b.before - 1 } → IsBuilding b (capturing ∷ works b) → Replaces d (on_two (capture d.before)) after → Builds b capturing after
builds_capturing b d after lower sound r =
    let was = sound.before in
    let number : d.before ≡ groups_left (works b) = ap (λ y. y.before) lower ∙ omega arith in
    let are : works after ≡ works b = ap (λ ts. works_of (reverse ts)) (r.tasks ∙ ap (λ y. y.tasks) lower) in
    let less = ap weights are in
    record {
      names = r.names ∙ ap (λ y. y.names.now) lower;
      same = ap (λ k. all_worked b.names.now (works b) (on_two (capture k) (codes_of b))) (sym number)
          ∙ ap (λ cs. all_worked b.names.now (works b) (on_two (capture d.before) cs)) (sym (ap codes_of lower))
          ∙ ap (all_worked b.names.now (works b)) (sym r.codes) ∙ ap (λ ws. all_worked b.names.now ws (codes_of after)) (sym are);
      sound = record { program = r.program; before = r.before ∙ number ∙ ap groups_left (sym are); rows = ap row_tests (r.rows ∙ ap (λ y. y.rows.now) lower) ∙ sound.rows ∙ ap tests_left (sym are) };
      fewer = omega arith;
    }

pub program_lower : (b d : Builder) → d ≡ record b { before = b.before - 1 } → IsProgram b → IsProgram d
program_lower b d lower p = subst IsProgram (sym lower) (record { ordered = p.ordered; below = p.below; some = p.some; end = p.end })

-- a piece of work that is cut into smaller ones
pub splits : (b after : Builder) (w : Work) (ws : List Work) (cs : List Code) → IsBuilding b (w ∷ works b) → after.names.now ≡ b.names.now → after.before ≡ b.before → after.rows.now ≡ b.rows.now → IsProgram after → works after ≡ ws → codes_of after ≡ cs
    → all_worked b.names.now (w ∷ works b) (codes_of b) ≡ all_worked b.names.now ws cs → groups_left (w ∷ works b) ≡ groups_left ws → tests_left (w ∷ works b) ≡ tests_left ws → weights ws < weight w + weights (works b) → Builds b w after
splits b after w ws cs sound names before rows program are codes same groups tests fewer =
    let less = ap weights are in
    record {
      names = names;
      same = same ∙ ap (λ ws. all_worked b.names.now ws cs) (sym are) ∙ ap (all_worked b.names.now (works after)) (sym codes);
      sound = record { program = program; before = before ∙ sound.before ∙ groups ∙ ap groups_left (sym are); rows = ap row_tests rows ∙ sound.rows ∙ tests ∙ ap tests_left (sym are) };
      fewer = omega arith;
    }

pub works_with : (b : Builder) (t : Task) → works (with_task b t) ≡ work_of (groups_left (works b)) t ∷ works b
works_with b t = ap works_of (reverse-last (b.tasks ++ (t ∷ [])) b.tasks t refl)

-- where there are no codes, nothing comes out
pub none_of_none : (names : Names) (ws : List Work) → all_worked names ws [] ≡ []
none_of_none names [] = refl
none_of_none names (w ∷ ws) = ap (all_worked names ws) (worked_none w) ∙ none_of_none names ws
  where
    worked_none : (w : Work) → worked names w (groups_left ws) [] ≡ []
    worked_none (Rattle.rx_program.specs.Works.disjunction e back more) = refl
    worked_none (Rattle.rx_program.specs.Works.earlier e back more) = refl
    worked_none (Rattle.rx_program.specs.Works.terms e back ns) = refl
    worked_none (Rattle.rx_program.specs.Works.term e back n) = refl
    worked_none capturing = refl
    worked_none (Rattle.rx_program.specs.Works.looking kind) = refl
    worked_none (Rattle.rx_program.specs.Works.repeating min max greedy count) = refl
    worked_none Rattle.rx_program.specs.Works.entering = refl
    worked_none Rattle.rx_program.specs.Works.choosing = refl
    worked_none Rattle.rx_program.specs.Works.swapping = refl
    worked_none Rattle.rx_program.specs.Works.sequencing = refl

length-codes : (f : ℕ → Code) (is : List ℕ) → length (map f is) ≡ length is
length-codes f [] = refl
length-codes f (i ∷ is) = ap (λ n. suc n) (length-codes f is)

pub codes-length : (b : Builder) → length (codes_of b) ≡ length b.codes
codes-length b = length-codes (code_at b.steps) (reverse b.codes) ∙ length-reverse b.codes

-- where something comes out, there are codes enough
pub one_code : (b : Builder) (w : Work) → all_worked b.names.now (w ∷ works b) (codes_of b) ≢ [] → 1 ≤ length b.codes
one_code b w some = by_codes (codes_of b) refl
  where
    by_codes : (cs : List Code) → codes_of b ≡ cs → 1 ≤ length b.codes
    by_codes [] is = absurd (some (ap (all_worked b.names.now (w ∷ works b)) is ∙ none_of_none b.names.now (w ∷ works b)))
    by_codes (c ∷ cs) is = let e = ap length is in let n = codes-length b in omega arith

pub two_codes : (b : Builder) (w : Work) → ((k : ℕ) (c : Code) → worked b.names.now w k (c ∷ []) ≡ []) → all_worked b.names.now (w ∷ works b) (codes_of b) ≢ [] → 2 ≤ length b.codes
two_codes b w needs some = by_codes (codes_of b) refl
  where
    by_codes : (cs : List Code) → codes_of b ≡ cs → 2 ≤ length b.codes
    by_codes [] is = absurd (some (ap (all_worked b.names.now (w ∷ works b)) is ∙ none_of_none b.names.now (w ∷ works b)))
    by_codes (c ∷ []) is = absurd (some (ap (all_worked b.names.now (w ∷ works b)) is ∙ ap (all_worked b.names.now (works b)) (needs (groups_left (works b)) c) ∙ none_of_none b.names.now (works b)))
    by_codes (c ∷ d ∷ cs) is = let e = ap length is in let n = codes-length b in omega arith
