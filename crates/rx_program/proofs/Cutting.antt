-- A task that is cut into smaller ones, over plain values.
use Rattle.std.proofs.Common.{◌≡◌, refl, ap, sym, ◌∙◌, subst, ℕ, ◌+◌, ◌-◌, ◌<◌, Bool, true, false, Option, List, [], ◌∷◌, ◌++◌, length, map, arith}
use Rattle.std.proofs.lemmas.List.{nil_from_length}
use Rattle.rx_base.specs.declared.span.Span.{Span}
use Rattle.rx_ast.specs.declared.leaf.Modifiers.{Modifiers}
use Rattle.rx_ast.specs.declared.leaf.LookAroundAssertionKind.{LookAroundAssertionKind}
use Rattle.rx_ast.specs.declared.term.Alternative.{Alternative}
use Rattle.rx_ast.specs.declared.term.Term.{Term}
use Rattle.rx_ast.specs.Tree as tree
use Rattle.rx_ast.specs.Tree.{Node, Nodes, Alternatives, quantified, group, no_node, node, nodes, no_alternative, alternatives, mirror_term, mirror_alternative}
use Rattle.rx_program.specs.declared.builder.Builder.{Builder}
use Rattle.rx_program.specs.declared.builder.Context.{Context}
use Rattle.rx_program.specs.declared.builder.Task.{Task}
use Rattle.rx_trace.specs.Groups.{groups_in}
use Rattle.rx_trace.specs.Matching.{update_settings, looks_back}
use Rattle.rx_program.specs.Codes.{Code, accept, reject}
use Rattle.rx_program.specs.Steps.{code_at}
use Rattle.rx_program.specs.Works.{Work, disjunction, earlier, terms, term, capturing, looking, repeating, entering, choosing, swapping, sequencing, groups_left, tests_left, on_one, all_worked, weights}
use Rattle.rx_program.specs.BuilderState.{disjunction_work, earlier_work, terms_work, term_work, work_of, works, codes_of, with_code, with_task, IsBuilding, Replaces, Builds}
use Rattle.rx_program.proofs.SmallerWorks.{with_last, with_last_alternative, nodes_last, alternatives_last, groups_last, groups_last_alternative, weight_last, weight_last_alternative, split_capturing, split_looking, split_ignoring, split_quantified, split_terms_ahead, split_terms_after, split_no_terms, split_disjunction, split_earlier, split_no_earlier}
use Rattle.rx_program.proofs.BuilderSteps.{codes_with, program_with, program_without, program_tasks, builds, splits, works_with}
use Rattle.rx_program.proofs.TestOrder.{nodes_tests-last, each_tests-last}

-- what holds of one piece of work and one builder holds of equal ones
pub turned : (b after end : Builder) (w v : Work) → w ≡ v → after ≡ end → (IsBuilding b (v ∷ works b) → Builds b v end) → IsBuilding b (w ∷ works b) → Builds b w after
turned b after end w v same pushed cut sound =
    subst (λ y. Builds b w y) (sym pushed) (subst (λ x. Builds b x end) (sym same) (cut (subst (λ x. IsBuilding b (x ∷ works b)) same sound)))

codes_two : (b : Builder) (i j : ℕ) → codes_of (with_code (with_code b i) j) ≡ code_at b.steps j ∷ code_at b.steps i ∷ codes_of b
codes_two b i j = codes_with (with_code b i) j ∙ ap (λ cs. code_at b.steps j ∷ cs) (codes_with b i)

works_two : (b : Builder) (t u : Task) (v w : Work) → ((n : ℕ) → work_of n t ≡ v) → ((n : ℕ) → work_of n u ≡ w) → works (with_task (with_task b t) u) ≡ w ∷ v ∷ works b
works_two b t u v w is is' =
    works_with (with_task b t) u ∙ ap (λ x. x ∷ works (with_task b t)) (is' (groups_left (works (with_task b t))))
    ∙ ap (λ ws. w ∷ ws) (works_with b t ∙ ap (λ x. x ∷ works b) (is (groups_left (works b))))

pub cuts_no_terms : (b : Builder) (e : Context) (ts : List Term) → length ts ≡ 0 → IsBuilding b (terms_work e ts ∷ works b) → Builds b (terms_work e ts) b
cuts_no_terms b e ts none =
    turned b b b (terms_work e ts) (terms e.settings e.back no_node) (ap (terms_work e) (nil_from_length ts none)) refl
    (λ sound. splits b b (terms e.settings e.back no_node) (works b) (codes_of b) sound refl refl refl sound.program refl refl (split_no_terms b.names.now (works b) e.settings e.back (codes_of b)) (omega arith) refl (omega arith))

pub cuts_ahead : (b after : Builder) (e : Context) (ts more : List Term) (last : Term) (t u : Task) → e.back ≡ false → ts ≡ more ++ (last ∷ []) → ((n : ℕ) → work_of n t ≡ terms_work e more) → ((n : ℕ) → work_of n u ≡ term_work e last)
    → after ≡ with_task (with_task b t) u → IsBuilding b (terms_work e ts ∷ works b) → Builds b (terms_work e ts) after
cuts_ahead b after e ts more last t u ahead cut is is' pushed =
    let s = e.settings in
    let ns = nodes (map mirror_term more) in
    let n = mirror_term last in
    let groups = groups_last ns n in
    let heavy = weight_last ns n in
    turned b after (with_task (with_task b t) u) (terms_work e ts) (terms s false (with_last ns n)) (ap (λ x. terms s x (nodes (map mirror_term ts))) ahead ∙ ap (λ x. terms s false (nodes (map mirror_term x))) cut ∙ ap (terms s false) (nodes_last more last)) pushed
    (λ sound. splits b (with_task (with_task b t) u) (terms s false (with_last ns n)) (term s false n ∷ terms s false ns ∷ works b) (codes_of b) sound refl refl refl (program_tasks (with_task b t) u (program_tasks b t sound.program))
    (works_two b t u (terms s false ns) (term s false n) (λ k. is k ∙ ap (λ x. terms s x ns) ahead) (λ k. is' k ∙ ap (λ x. term s x n) ahead)) refl
    (split_terms_ahead b.names.now (works b) s false ns n (codes_of b)) (omega arith) (nodes_tests-last ns n (tests_left (works b))) (omega arith))

pub cuts_after : (b after : Builder) (e : Context) (ts more : List Term) (first : Term) (t u v w : Task) → e.back ≡ true → ts ≡ first ∷ more → ((n : ℕ) → work_of n t ≡ sequencing) → ((n : ℕ) → work_of n u ≡ term_work e first)
    → ((n : ℕ) → work_of n v ≡ swapping) → ((n : ℕ) → work_of n w ≡ terms_work e more) → after ≡ with_task (with_task (with_task (with_task (with_code b 0) t) u) v) w → IsBuilding b (terms_work e ts ∷ works b) → Builds b (terms_work e ts) after
cuts_after b after e ts more first t u v w back cut is is' is'' is''' pushed =
    let s = e.settings in
    let ns = nodes (map mirror_term more) in
    let n = mirror_term first in
    let c = with_code b 0 in
    let d = with_task (with_task c t) u in
    turned b after (with_task (with_task d v) w) (terms_work e ts) (terms s true (node n ns)) (ap (λ x. terms s x (nodes (map mirror_term ts))) back ∙ ap (λ x. terms s true (nodes (map mirror_term x))) cut) pushed
    (λ sound. splits b (with_task (with_task d v) w) (terms s true (node n ns)) (terms s true ns ∷ swapping ∷ term s true n ∷ sequencing ∷ works b) (accept ∷ codes_of b) sound refl refl refl
    (program_tasks (with_task d v) w (program_tasks d v (program_tasks (with_task c t) u (program_tasks c t (program_with b 0 sound.program.some sound.program)))))
    (works_two d v w swapping (terms s true ns) is'' (λ k. is''' k ∙ ap (λ x. terms s x ns) back) ∙ ap (λ ws. terms s true ns ∷ swapping ∷ ws) (works_two c t u sequencing (term s true n) is (λ k. is' k ∙ ap (λ x. term s x n) back)))
    (codes_with b 0 ∙ ap (λ c. c ∷ codes_of b) sound.program.end)
    (split_terms_after b.names.now (works b) s true n ns (codes_of b)) (omega arith) refl (omega arith))

-- alternatives, the last of which has these terms
module _ (more : List Alternative) (last : Alternative) (body : List Term) where
  abbrev before : Alternatives
  before = alternatives (map mirror_alternative more)

  abbrev inner : Nodes
  inner = nodes (map mirror_term body)

  abbrev through : Alternatives
  through = with_last_alternative before (mirror_alternative last).0 inner

  through_is : (all : List Alternative) → all ≡ more ++ (last ∷ []) → (mirror_alternative last).1 ≡ inner → alternatives (map mirror_alternative all) ≡ through
  through_is all cut is = ap (λ l. alternatives (map mirror_alternative l)) cut ∙ alternatives_last more last ∙ ap (with_last_alternative before (mirror_alternative last).0) is

  pub cuts_disjunction : (b d after : Builder) (e : Context) (all : List Alternative) (next : ℕ) (t u : Task) → all ≡ more ++ (last ∷ []) → (mirror_alternative last).1 ≡ inner
      → ((n : ℕ) → work_of n t ≡ earlier_work e more) → ((n : ℕ) → work_of n u ≡ terms_work e body) → b ≡ with_code d next → after ≡ with_task (with_task (with_code (with_code d next) next) t) u
      → IsBuilding b (disjunction_work e all ∷ works b) → Builds b (disjunction_work e all) after
  cuts_disjunction b d after e all next t u cut is_body is is' popped pushed sound =
      let s = e.settings in
      let span = (mirror_alternative last).0 in
      let groups = groups_last_alternative before span inner in
      let heavy = weight_last_alternative before span inner in
      let v = disjunction s e.back through in
      let c = with_code d next in
      subst (λ y. Builds y (disjunction_work e all) after) (sym popped)
      (turned c after (with_task (with_task (with_code c next) t) u) (disjunction_work e all) v (ap (disjunction s e.back) (through_is all cut is_body)) pushed
      (λ sound. splits c (with_task (with_task (with_code c next) t) u) v (terms s e.back inner ∷ earlier s e.back before ∷ works c) (code_at d.steps next ∷ code_at d.steps next ∷ codes_of d) sound refl refl refl
      (program_tasks (with_task (with_code c next) t) u (program_tasks (with_code c next) t (program_with c next (program_without d next sound.program).0 sound.program)))
      (works_two (with_code c next) t u (earlier s e.back before) (terms s e.back inner) is is')
      (codes_with c next ∙ ap (λ cs. code_at d.steps next ∷ cs) (codes_with d next))
      (ap (all_worked c.names.now (v ∷ works c)) (codes_with d next) ∙ split_disjunction c.names.now (works c) s e.back before span inner (code_at d.steps next) (codes_of d))
      (omega arith) (each_tests-last before span inner (tests_left (works c))) (omega arith))
      (subst (λ y. IsBuilding y (disjunction_work e all ∷ works y)) popped sound))

  pub cuts_earlier : (b c d after : Builder) (e : Context) (all : List Alternative) (entry next : ℕ) (t u v : Task) → all ≡ more ++ (last ∷ []) → (mirror_alternative last).1 ≡ inner
      → ((n : ℕ) → work_of n t ≡ earlier_work e more) → ((n : ℕ) → work_of n u ≡ choosing) → ((n : ℕ) → work_of n v ≡ terms_work e body) → b ≡ with_code c entry → c ≡ with_code d next
      → after ≡ with_task (with_task (with_task (with_code (with_code (with_code d next) entry) next) t) u) v → IsBuilding b (earlier_work e all ∷ works b) → Builds b (earlier_work e all) after
  cuts_earlier b c d after e all entry next t u v cut is_body is is' is'' popped again pushed sound =
      let s = e.settings in
      let groups = groups_last_alternative before (mirror_alternative last).0 inner in
      let heavy = weight_last_alternative before (mirror_alternative last).0 inner in
      let w = earlier s e.back through in
      let whole : Builder = with_code (with_code d next) entry in
      let full : Builder = with_code whole next in
      let popped' : b ≡ whole = popped ∙ ap (λ y. with_code y entry) again in
      let codes = codes_two d next entry in
      subst (λ y. Builds y (earlier_work e all) after) (sym popped')
      (turned whole after (with_task (with_task (with_task full t) u) v) (earlier_work e all) w (ap (earlier s e.back) (through_is all cut is_body)) pushed
      (λ sound. splits whole (with_task (with_task (with_task full t) u) v) w (terms s e.back inner ∷ choosing ∷ earlier s e.back before ∷ works whole) (code_at d.steps next ∷ code_at d.steps entry ∷ code_at d.steps next ∷ codes_of d) sound refl refl refl
      (program_tasks (with_task (with_task full t) u) v (program_tasks (with_task full t) u (program_tasks full t
      (program_with whole next (program_without d next (program_without (with_code d next) entry sound.program).1).0 sound.program))))
      (works_two (with_task full t) u v choosing (terms s e.back inner) is' is'' ∙ ap (λ ws. terms s e.back inner ∷ choosing ∷ ws) (works_with full t ∙ ap (λ x. x ∷ works whole) (is (groups_left (works full)))))
      (codes_with whole next ∙ ap (λ cs. code_at d.steps next ∷ cs) codes)
      (ap (all_worked whole.names.now (w ∷ works whole)) codes ∙ split_earlier whole.names.now (works whole) s e.back before (mirror_alternative last).0 inner (code_at d.steps entry) (code_at d.steps next) (codes_of d))
      (omega arith) (each_tests-last before (mirror_alternative last).0 inner (tests_left (works whole))) (omega arith))
      (subst (λ y. IsBuilding y (earlier_work e all ∷ works y)) popped' sound))

pub cuts_no_disjunction : (b after : Builder) (e : Context) (all : List Alternative) → length all ≡ 0 → IsBuilding b (disjunction_work e all ∷ works b) → Replaces b (on_one (λ next. reject)) after → Builds b (disjunction_work e all) after
cuts_no_disjunction b after e all none sound r =
    turned b after after (disjunction_work e all) (disjunction e.settings e.back no_alternative) (ap (disjunction_work e) (nil_from_length all none)) refl
    (λ sound. builds b after (disjunction e.settings e.back no_alternative) (on_one (λ next. reject)) sound (omega arith) refl (omega arith) (none_is (codes_of b)) r) sound
  where
    none_is : (cs : List Code) → Rattle.rx_program.specs.Works.worked b.names.now (disjunction e.settings e.back no_alternative) (groups_left (works b)) cs ≡ on_one (λ next. reject) cs
    none_is [] = refl
    none_is (c ∷ cs) = refl

pub cuts_no_earlier : (b c d after : Builder) (e : Context) (all : List Alternative) (entry next : ℕ) → length all ≡ 0 → b ≡ with_code c entry → c ≡ with_code d next → after ≡ with_code d entry
    → IsBuilding b (earlier_work e all ∷ works b) → Builds b (earlier_work e all) after
cuts_no_earlier b c d after e all entry next none popped again pushed sound =
    let s = e.settings in
    let w = earlier s e.back no_alternative in
    let whole : Builder = with_code (with_code d next) entry in
    let popped' : b ≡ whole = popped ∙ ap (λ y. with_code y entry) again in
    let codes = codes_two d next entry in
    subst (λ y. Builds y (earlier_work e all) after) (sym popped')
    (turned whole after (with_code d entry) (earlier_work e all) w (ap (earlier_work e) (nil_from_length all none)) pushed
    (λ sound.
    let p = program_without (with_code d next) entry sound.program in
    let q = program_without d next p.1 in
    splits whole (with_code d entry) w (works whole) (code_at d.steps entry ∷ codes_of d) sound refl refl refl (program_with d entry p.0 q.1) refl (codes_with d entry)
    (ap (all_worked whole.names.now (w ∷ works whole)) codes ∙ split_no_earlier whole.names.now (works whole) s e.back (code_at d.steps entry) (code_at d.steps next) (codes_of d))
    (omega arith) refl (omega arith))
    (subst (λ y. IsBuilding y (earlier_work e all ∷ works y)) popped' sound))

-- a term with a body is cut into its body and the end of the body
pub cuts_body : (b after : Builder) (w v u : Work) (x : Work) (t t' : Task) → w ≡ x → ((n : ℕ) → work_of n t ≡ v) → ((n : ℕ) → work_of n t' ≡ u) → after ≡ with_task (with_task (with_code b 0) t) t'
    → all_worked b.names.now (x ∷ works b) (codes_of b) ≡ all_worked b.names.now (u ∷ v ∷ works b) (accept ∷ codes_of b) → groups_left (x ∷ works b) ≡ groups_left (u ∷ v ∷ works b) → tests_left (x ∷ works b) ≡ tests_left (u ∷ v ∷ works b) → weights (u ∷ v ∷ works b) < Rattle.rx_program.specs.Works.weight x + weights (works b)
    → IsBuilding b (w ∷ works b) → Builds b w after
cuts_body b after w v u x t t' same is is' pushed law groups tests fewer =
    let c = with_code b 0 in
    turned b after (with_task (with_task c t) t') w x same pushed
    (λ sound. splits b (with_task (with_task c t) t') x (u ∷ v ∷ works b) (accept ∷ codes_of b) sound refl refl refl (program_tasks (with_task c t) t' (program_tasks c t (program_with b 0 sound.program.some sound.program)))
    (works_two c t t' v u is is') (codes_with b 0 ∙ ap (λ c. c ∷ codes_of b) sound.program.end) law groups tests fewer)

pub cuts_looking : (b after : Builder) (e inside : Context) (d c : Span) (kind : LookAroundAssertionKind) (more : List Alternative) (n : Node) (t t' : Task) → n ≡ group d (tree.looking kind) c (alternatives (map mirror_alternative more))
    → inside.settings ≡ e.settings → inside.back ≡ looks_back kind → ((k : ℕ) → work_of k t ≡ looking kind) → ((k : ℕ) → work_of k t' ≡ disjunction_work inside more)
    → after ≡ with_task (with_task (with_code b 0) t) t' → IsBuilding b (term e.settings e.back n ∷ works b) → Builds b (term e.settings e.back n) after
cuts_looking b after e inside d c kind more n t t' mirrors settings back is is' pushed =
    let s = e.settings in
    let ms = alternatives (map mirror_alternative more) in
    cuts_body b after (term s e.back n) (looking kind) (disjunction s (looks_back kind) ms) (term s e.back (group d (tree.looking kind) c ms)) t t' (ap (term s e.back) mirrors) is
    (λ k. is' k ∙ ap (λ x. disjunction x inside.back ms) settings ∙ ap (λ x. disjunction s x ms) back) pushed
    (split_looking b.names.now (works b) s e.back d c kind ms (codes_of b)) refl refl (omega arith)

pub cuts_capturing : (b after : Builder) (e : Context) (d c : Span) (name : Option (List ℕ)) (more : List Alternative) (n : Node) (t t' : Task) → n ≡ group d (tree.capturing name) c (alternatives (map mirror_alternative more))
    → ((k : ℕ) → work_of k t ≡ capturing) → ((k : ℕ) → work_of k t' ≡ disjunction_work e more) → after ≡ with_task (with_task (with_code b 0) t) t' → IsBuilding b (term e.settings e.back n ∷ works b) → Builds b (term e.settings e.back n) after
cuts_capturing b after e d c name more n t t' mirrors is is' pushed =
    let s = e.settings in
    let ms = alternatives (map mirror_alternative more) in
    cuts_body b after (term s e.back n) capturing (disjunction s e.back ms) (term s e.back (group d (tree.capturing name) c ms)) t t' (ap (term s e.back) mirrors) is is' pushed
    (split_capturing b.names.now (works b) s e.back d c name ms (codes_of b)) (omega arith) refl (omega arith)

pub cuts_ignoring : (b after : Builder) (e inside : Context) (d c : Span) (m : Option Modifiers) (more : List Alternative) (n : Node) (t t' : Task) → n ≡ group d (tree.ignoring m) c (alternatives (map mirror_alternative more))
    → inside.settings ≡ update_settings m e.settings → inside.back ≡ e.back → ((k : ℕ) → work_of k t ≡ entering) → ((k : ℕ) → work_of k t' ≡ disjunction_work inside more)
    → after ≡ with_task (with_task b t) t' → IsBuilding b (term e.settings e.back n ∷ works b) → Builds b (term e.settings e.back n) after
cuts_ignoring b after e inside d c m more n t t' mirrors settings back is is' pushed =
    let s = e.settings in
    let ms = alternatives (map mirror_alternative more) in
    let x = term s e.back (group d (tree.ignoring m) c ms) in
    let u = disjunction (update_settings m s) e.back ms in
    turned b after (with_task (with_task b t) t') (term s e.back n) x (ap (term s e.back) mirrors) pushed
    (λ sound. splits b (with_task (with_task b t) t') x (u ∷ entering ∷ works b) (codes_of b) sound refl refl refl (program_tasks (with_task b t) t' (program_tasks b t sound.program))
    (works_two b t t' entering u is (λ k. is' k ∙ ap (λ y. disjunction y inside.back ms) settings ∙ ap (λ y. disjunction (update_settings m s) y ms) back)) refl
    (split_ignoring b.names.now (works b) s e.back d c m ms (codes_of b)) refl refl (omega arith))

-- how many groups open in a quantifier's body: as many as before its end and not before the body
pub cuts_quantified : (b after : Builder) (e : Context) (d : Span) (min : ℕ) (max : Option ℕ) (greedy : Bool) (body : Term) (n : Node) (t t' : Task) → n ≡ quantified d min max greedy (mirror_term body)
    → ((k : ℕ) → work_of k t ≡ repeating min max greedy (b.before - k)) → ((k : ℕ) → work_of k t' ≡ term_work e body) → after ≡ with_task (with_task (with_code b 0) t) t'
    → IsBuilding b (term e.settings e.back n ∷ works b) → Builds b (term e.settings e.back n) after
cuts_quantified b after e d min max greedy body n t t' mirrors is is' pushed sound =
    let s = e.settings in
    let c = with_code b 0 in
    let m = mirror_term body in
    let v = repeating min max greedy (groups_in m) in
    let u = term s e.back m in
    let x = term s e.back (quantified d min max greedy m) in
    let was = sound.before ∙ ap (λ x. groups_left (term s e.back x ∷ works b)) mirrors in
    let count : b.before - groups_left (works b) ≡ groups_in m = omega arith in
    turned b after (with_task (with_task c t) t') (term s e.back n) x (ap (term s e.back) mirrors) pushed
    (λ sound. splits b (with_task (with_task c t) t') x (u ∷ v ∷ works b) (accept ∷ codes_of b) sound refl refl refl (program_tasks (with_task c t) t' (program_tasks c t (program_with b 0 sound.program.some sound.program)))
    (works_with (with_task c t) t' ∙ ap (λ x. x ∷ works (with_task c t)) (is' (groups_left (works (with_task c t))))
    ∙ ap (λ ws. u ∷ ws) (works_with c t ∙ ap (λ x. x ∷ works b) (is (groups_left (works b)) ∙ ap (repeating min max greedy) count)))
    (codes_with b 0 ∙ ap (λ c. c ∷ codes_of b) sound.program.end) (split_quantified b.names.now (works b) s e.back d min max greedy m (codes_of b)) refl refl (omega arith)) sound
