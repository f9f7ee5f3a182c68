-- Tasks that are done one after the other, until none is left.
use Rattle.std.proofs.Common.{◌≡◌, ◌≢◌, refl, ap, sym, ◌∙◌, subst, ℕ, ◌+◌, ◌-◌, ◌<◌, Bool, Option, List, [], ◌∷◌, ◌++◌, length, map, reverse, arith}
use Rattle.rx_ast.specs.ClassTree.{Class}
use Rattle.rx_ast.specs.Tree as tree
use Rattle.rx_ast.specs.Tree.{Leaf, Node, Alternatives, leaf}
use Rattle.rx_program.specs.declared.builder.Builder.{Builder}
use Rattle.rx_program.specs.declared.builder.Context.{Context}
use Rattle.rx_program.specs.declared.builder.Task.{Task}
use Rattle.rx_program.specs.declared.step.Step.TheVariants as step
use Rattle.rx_trace.specs.Groups.{Names, groups_in_each}
use Rattle.rx_program.specs.declared.checks.ClassRow.{ClassRow}
use Rattle.rx_program.specs.Checks.{row_holds}
use Rattle.rx_program.specs.ClassTests.{Tests, row_tests, leaf_tests, each_tests}
use Rattle.rx_program.specs.Codes.{Code, accept, consume, repeat}
use Rattle.rx_program.specs.Compiled.{leaf_code, each_code}
use Rattle.rx_program.specs.Steps.{code_at}
use Rattle.rx_trace.specs.Holding.{class_holds}
use Rattle.rx_trace.specs.declared.settings.Settings.{Settings}
use Rattle.rx_program.specs.Steps.{AreOrdered}
use Rattle.rx_program.specs.Works.{Work, term, disjunction, repeating, groups_left, tests_left, on_one, on_two, worked, all_worked, weights}
use Rattle.rx_program.specs.BuilderState.{work_of, works_of, works, codes_of, with_code, IsBuilding, Replaces, TakesRow, Builds}
use Rattle.rx_trace.proofs.Lists.{reverse-last, length-last}
use Rattle.rx_program.proofs.Growing.{code-new, ordered-more, ordered-none}
use Rattle.rx_program.proofs.BuilderSteps.{codes_with, builds, codes-length}
use Rattle.rx_program.proofs.Cutting.{turned}

-- the work of a task
abbrev pub work : Builder → Task → Work
work b t = work_of (groups_left (works b)) t

pub about : (b : Builder) (t u : Task) → t ≡ u → IsBuilding b (work b t ∷ works b) → IsBuilding b (work b u ∷ works b)
about b t u same sound = subst (λ x. IsBuilding b (work b x ∷ works b)) same sound

pub made_about : (b : Builder) (t u : Task) → t ≡ u → all_worked b.names.now (work b t ∷ works b) (codes_of b) ≢ [] → all_worked b.names.now (work b u ∷ works b) (codes_of b) ≢ []
made_about b t u same made = subst (λ x. all_worked b.names.now (work b x ∷ works b) (codes_of b) ≢ []) same made

pub builds_about : (b after : Builder) (t u : Task) → t ≡ u → Builds b (work b u) after → Builds b (work b t) after
builds_about b after t u same done = subst (λ x. Builds b (work b x) after) (sym same) done

pub about_node : (b : Builder) (e : Context) (n m : Node) → n ≡ m → IsBuilding b (term e.settings e.back n ∷ works b) → IsBuilding b (term e.settings e.back m ∷ works b)
about_node b e n m same sound = subst (λ x. IsBuilding b (term e.settings e.back x ∷ works b)) same sound

pub builds_node : (b after : Builder) (e : Context) (n m : Node) → n ≡ m → Builds b (term e.settings e.back m) after → Builds b (term e.settings e.back n) after
builds_node b after e n m same done = subst (λ x. Builds b (term e.settings e.back x) after) (sym same) done

-- a term with no term in it
pub leaf_done : (b after : Builder) (e : Context) (n : Node) (l : Leaf) (f : Code → Code) → n ≡ leaf l → ((next : Code) → leaf_code b.names.now e.settings l next ≡ f next)
    → ((before : Tests) → leaf_tests l before ≡ before) → IsBuilding b (term e.settings e.back n ∷ works b) → Replaces b (on_one f) after → Builds b (term e.settings e.back n) after
leaf_done b after e n l f mirrors codes classless sound r =
    turned b after after (term e.settings e.back n) (term e.settings e.back (leaf l)) (ap (term e.settings e.back) mirrors) refl
    (λ sound. builds b after (term e.settings e.back (leaf l)) (on_one f) sound (omega arith) (classless (tests_left (works b))) (omega arith) (leaf_is (codes_of b)) r) sound
  where
    leaf_is : (cs : List Code) → worked b.names.now (term e.settings e.back (leaf l)) (groups_left (works b)) cs ≡ on_one f cs
    leaf_is [] = refl
    leaf_is (c ∷ cs) = ap (λ d. d ∷ cs) (codes c)

first-test : (t u : ℕ → Bool) (ts us : Tests) → t ∷ ts ≡ u ∷ us → (t ≡ u) × (ts ≡ us)
first-test t u ts us e = ((cc), (cc))

-- a class, whose row is the first of those that are left
pub class_done : (b d after : Builder) (e : Context) (n : Node) (k : Class) (row : ClassRow) → n ≡ leaf (tree.class k) → TakesRow b row d → IsBuilding b (term e.settings e.back n ∷ works b) → Replaces d (on_one (consume (row_holds row))) after
    → Builds b (term e.settings e.back n) after
class_done b d after e n k row mirrors t sound r =
    turned b after after (term e.settings e.back n) (term e.settings e.back (leaf (tree.class k))) (ap (term e.settings e.back) mirrors) refl
    (λ sound.
    let tests = first-test (row_holds row) (class_holds k) (row_tests d.rows.now) (tests_left (works b)) (sym (ap row_tests t.taken) ∙ sound.rows) in
    let are : works after ≡ works b = ap (λ ts. works_of (reverse ts)) (r.tasks ∙ sym (ap (λ y. y.tasks) t.kept)) in
    let less = ap weights are in
    let was = sound.before in
    record {
      names = r.names ∙ sym (ap (λ y. y.names.now) t.kept);
      same = ap (all_worked b.names.now (works b)) (leaf_is (codes_of b) ∙ ap (λ (f : ℕ → Bool). on_one (consume f) (codes_of b)) (sym tests.0) ∙ ap (on_one (consume (row_holds row))) (ap codes_of t.kept) ∙ sym r.codes)
          ∙ ap (λ ws. all_worked b.names.now ws (codes_of after)) (sym are);
      sound = record {
        program = r.program;
        before = r.before ∙ sym (ap (λ y. y.before) t.kept) ∙ was ∙ none_is (groups_left (works b)) ∙ ap groups_left (sym are);
        rows = ap row_tests r.rows ∙ tests.1 ∙ ap tests_left (sym are);
      };
      fewer = omega arith;
    }) sound
  where
    none_is : (n : ℕ) → 0 + n ≡ n
    none_is n = omega arith

    leaf_is : (cs : List Code) → worked b.names.now (term e.settings e.back (leaf (tree.class k))) (groups_left (works b)) cs ≡ on_one (consume (class_holds k)) cs
    leaf_is [] = refl
    leaf_is (c ∷ cs) = refl

pub some_row : (b : Builder) (e : Context) (n : Node) (k : Class) → n ≡ leaf (tree.class k) → IsBuilding b (term e.settings e.back n ∷ works b) → 0 < length b.rows.now
some_row b e n k mirrors sound = by_rows b.rows.now (sound.rows ∙ ap (λ x. tests_left (term e.settings e.back x ∷ works b)) mirrors)
  where
    by_rows : (rows : List ClassRow) → row_tests rows ≡ class_holds k ∷ tests_left (works b) → 0 < length rows
    by_rows [] is = absurd (cc)
    by_rows (row ∷ rows) is = omega arith

-- a quantifier is closed: the groups of its body are those that open before its end and not before it
pub builds_repeating : (b after : Builder) (min : ℕ) (max : Option ℕ) (greedy : Bool) (end count : ℕ) → count ≡ end - b.before → IsBuilding b (repeating min max greedy (end - b.before) ∷ works b)
    → Replaces b (on_two (repeat min max greedy b.before count)) after → Builds b (repeating min max greedy (end - b.before)) after
builds_repeating b after min max greedy end count counted sound r =
    builds b after (repeating min max greedy (end - b.before)) (on_two (repeat min max greedy b.before count)) sound refl refl (omega arith)
    (ap (λ k. on_two (repeat min max greedy k (end - b.before)) (codes_of b)) (sym sound.before) ∙ ap (λ k. on_two (repeat min max greedy b.before k) (codes_of b)) (sym counted)) r

-- the number of groups in the works below is the number of groups before the term
pub repeating_same : (b : Builder) (min : ℕ) (max : Option ℕ) (greedy : Bool) (end : ℕ) → IsBuilding b (repeating min max greedy (end - groups_left (works b)) ∷ works b)
    → repeating min max greedy (end - b.before) ≡ repeating min max greedy (end - groups_left (works b))
repeating_same b min max greedy end sound = ap (λ k. repeating min max greedy (end - k)) sound.before

-- what comes out is one code
pub record Makes (b : Builder) (names : Names) (target : Code) : Type 0 where
  pub names_kept : b.names.now ≡ names
  pub sound : IsBuilding b (works b)
  pub made : all_worked b.names.now (works b) (codes_of b) ≡ target ∷ []

abbrev pub popped : Builder → List Task → Builder
popped b tasks = record b { tasks = tasks }

works_popped : (b : Builder) (tasks : List Task) (t : Task) → b.tasks ≡ tasks ++ (t ∷ []) → works b ≡ work (popped b tasks) t ∷ works (popped b tasks)
works_popped b tasks t is = ap works_of (reverse-last b.tasks tasks t is)

pub sound_popped : (b : Builder) (tasks : List Task) (t : Task) (names : Names) (target : Code) → b.tasks ≡ tasks ++ (t ∷ []) → Makes b names target → IsBuilding (popped b tasks) (work (popped b tasks) t ∷ works (popped b tasks))
sound_popped b tasks t names target is m =
    let p = m.sound.program in
    record { program = record { ordered = p.ordered; below = p.below; some = p.some; end = p.end }; before = m.sound.before ∙ ap groups_left (works_popped b tasks t is); rows = m.sound.rows ∙ ap tests_left (works_popped b tasks t is) }

pub made_popped : (b : Builder) (tasks : List Task) (t : Task) (names : Names) (target : Code) → b.tasks ≡ tasks ++ (t ∷ []) → Makes b names target
    → all_worked b.names.now (work (popped b tasks) t ∷ works (popped b tasks)) (codes_of b) ≡ target ∷ []
made_popped b tasks t names target is m = ap (λ ws. all_worked b.names.now ws (codes_of b)) (sym (works_popped b tasks t is)) ∙ m.made

pub not_none : (cs : List Code) (target : Code) → cs ≡ target ∷ [] → cs ≢ []
not_none cs target is = λ none. cc

pub makes_on : (b after : Builder) (tasks : List Task) (t : Task) (names : Names) (target : Code) → b.tasks ≡ tasks ++ (t ∷ []) → Makes b names target → Builds (popped b tasks) (work (popped b tasks) t) after → Makes after names target
makes_on b after tasks t names target is m done = record {
  names_kept = done.names ∙ m.names_kept;
  sound = done.sound;
  made = ap (λ ns. all_worked ns (works after) (codes_of after)) done.names ∙ sym done.same ∙ made_popped b tasks t names target is m;
}

pub fewer_on : (b after : Builder) (tasks : List Task) (t : Task) → b.tasks ≡ tasks ++ (t ∷ []) → Builds (popped b tasks) (work (popped b tasks) t) after → weights (works after) < weights (works b)
fewer_on b after tasks t is done = let e = ap weights (works_popped b tasks t is) in let f = done.fewer in omega arith

-- no task is left
pub makes_popped : (b : Builder) (tasks : List Task) (names : Names) (target : Code) → b.tasks ≡ [] → tasks ≡ [] → Makes b names target → Makes (popped b tasks) names target
makes_popped b tasks names target none none' m =
    let p = m.sound.program in
    let same : b.tasks ≡ tasks = none ∙ sym none' in
    record {
      names_kept = m.names_kept;
      sound = record { program = record { ordered = p.ordered; below = p.below; some = p.some; end = p.end }; before = m.sound.before ∙ ap (λ ts. groups_left (works_of (reverse ts))) same; rows = m.sound.rows ∙ ap (λ ts. tests_left (works_of (reverse ts))) same };
      made = ap (λ ts. all_worked b.names.now (works_of (reverse ts)) (codes_of b)) (sym same) ∙ m.made;
    }

pub left_ordered : (b d : Builder) (code : ℕ) (names : Names) (target : Code) → Makes b names target → b ≡ with_code d code → AreOrdered d.steps
left_ordered b d code names target m last = subst AreOrdered (ap (λ y. y.steps) last) m.sound.program.ordered

pub left_one : (b : Builder) (tasks : List Task) (names : Names) (target : Code) → b.tasks ≡ [] → Makes b names target → codes_of b ≡ target ∷ []
left_one b tasks names target none m = ap (λ ts. all_worked b.names.now (works_of (reverse ts)) (codes_of b)) (sym none) ∙ m.made

pub left_some : (b : Builder) (names : Names) (target : Code) → b.tasks ≡ [] → Makes b names target → 0 < length b.codes
left_some b names target none m = let e = ap length (left_one b [] names target none m) in let n = codes-length b in omega arith

first-code : (c d : Code) (cs ds : List Code) → c ∷ cs ≡ d ∷ ds → c ≡ d
first-code c d cs ds e = cc

pub left_code : (b d : Builder) (code : ℕ) (names : Names) (target : Code) → b.tasks ≡ [] → Makes b names target → b ≡ with_code d code → code_at d.steps code ≡ target
left_code b d code names target none m last = first-code (code_at d.steps code) target (codes_of d) [] (sym (codes_with d code) ∙ sym (ap codes_of last) ∙ left_one b [] names target none m)

-- the builder that begins
pub makes_first : (b : Builder) (t : Task) (names : Names) (e : Settings) (back : Bool) (more : Alternatives) → b.names.now ≡ names → b.steps ≡ [] ++ (step.Accept ∷ []) → b.codes ≡ [] ++ (0 ∷ []) → b.tasks ≡ [] ++ (t ∷ [])
    → ((n : ℕ) → work_of n t ≡ disjunction e back more) → b.before ≡ groups_in_each more → row_tests b.rows.now ≡ each_tests more [] → Makes b names (each_code names more e back 0 accept)
makes_first b t names e back more named stepped coded tasked is before rows =
    let first : code_at b.steps 0 ≡ accept = code-new b.steps [] step.Accept stepped in
    let size = length-last b.steps [] step.Accept stepped in
    let some : 0 < length b.steps = omega arith in
    let codes : reverse b.codes ≡ 0 ∷ [] = ap reverse coded in
    let are : works b ≡ disjunction e back more ∷ [] = ap (λ ts. works_of (reverse ts)) tasked ∙ ap (λ w. w ∷ []) (is 0) in
    record {
      names_kept = named;
      sound = record {
        program = record {
          ordered = ordered-more b.steps [] step.Accept stepped tt ordered-none;
          below = subst (Rattle.rx_program.specs.BuilderState.AreBelow (length b.steps)) (sym codes) (some, tt);
          some = some;
          end = first;
        };
        before = before ∙ sum_is (groups_in_each more) ∙ ap groups_left (sym are);
        rows = rows ∙ ap tests_left (sym are);
      };
      made = ap (λ ws. all_worked b.names.now ws (codes_of b)) are ∙ ap (λ cs. all_worked b.names.now (disjunction e back more ∷ []) (map (code_at b.steps) cs)) codes
          ∙ ap (λ c. each_code b.names.now more e back 0 c ∷ []) first ∙ ap (λ ns. each_code ns more e back 0 accept ∷ []) named;
    }
  where
    sum_is : (n : ℕ) → n ≡ n + 0
    sum_is n = omega arith
