-- Pieces of work that a rewriter does, over plain values.
use Rattle.std.proofs.Common.{◌≡◌, ◌≢◌, refl, ap, sym, ◌∙◌, subst, ℕ, ◌+◌, ◌<◌, Bool, Option, Some, None, List, [], ◌∷◌, ◌++◌, length, map, reverse, Bor, arith}
use Rattle.std.proofs.lemmas.List.{map-append}
use Rattle.rx_base.specs.declared.span.Span.{Span}
use Rattle.rx_ast.specs.Tree as tree
use Rattle.rx_ast.specs.Tree.{Node, Alternatives, SpannedNodes, quantified, mirror_term, mirror_alternative}
use Rattle.rx_ast.specs.declared.term.Alternative.{Alternative}
use Rattle.rx_ast.specs.declared.term.Term.{Term}
use Rattle.rx_trace.specs.Groups.{Names}
use Rattle.rx_trace.specs.declared.settings.Settings.{Settings}
use Rattle.rx_rewrite.specs.declared.numbers.GroupNumbers.{GroupNumbers}
use Rattle.rx_rewrite.specs.declared.rewriter.Rewriter.{Rewriter}
use Rattle.rx_rewrite.specs.declared.rewriter.Task.{Task}
use Rattle.rx_rewrite.specs.declared.rewriter.Task.TheVariants as task
use Rattle.rx_rewrite.specs.declared.rewrites.Rewrites.{Rewrites}
use Rattle.rx_rewrite.specs.declared.settings.SettingsPair.{SettingsPair}
use Rattle.rx_rewrite.specs.RewriterState.{work_of, works_of, works, parts_made, with_task, AddsTerm, IsNumbered, IsReady, Performs}
use Rattle.rx_rewrite.specs.Rewriting.{node_rewritten, alternatives_rewritten}
use Rattle.rx_rewrite.specs.Works.{Work, Made, term, ending_quantifier, listed_alternatives, with_node, on_last, all_worked, weight, weights}
use Rattle.rx_trace.proofs.Lists.{reverse-last}
use Rattle.rx_rewrite.proofs.Lists.{alternatives-listed, on-last}

pub works_with : (r : Rewriter) (t : Task) → works (with_task r t) ≡ work_of t ∷ works r
works_with r t = ap works_of (reverse-last (r.tasks ++ (t ∷ [])) r.tasks t refl)

-- a piece of work, by another that comes to the same
pub performs_as : (r after : Rewriter) (w v : Work) → ((names : Names) → all_worked r.what names (w ∷ works r) (parts_made r) ≡ all_worked r.what names (v ∷ works r) (parts_made r)) → weight w ≡ weight v
    → Performs r v after → Performs r w after
performs_as r after w v same weighs p = record {
  what = p.what;
  numbers = p.numbers;
  same = λ names numbered. same names ∙ p.same names numbered;
  fewer = subst (λ k. weights (works after) < k + weights (works r)) (sym weighs) p.fewer;
}

-- equal pieces of work
pub performs_is : (r after : Rewriter) (w v : Work) → w ≡ v → Performs r v after → Performs r w after
performs_is r after w v is p = subst (λ x. Performs r x after) (sym is) p

-- Nothing is left of it.
pub performs_none : (r : Rewriter) (w : Work) → ((names : Names) → all_worked r.what names (w ∷ works r) (parts_made r) ≡ all_worked r.what names (works r) (parts_made r)) → 0 < weight w → Performs r w r
performs_none r w same weighs = record { what = refl; numbers = refl; same = λ names numbered. same names; fewer = omega arith }

-- This work is left, with what is made by then.
pub performs : (r after : Rewriter) (w : Work) (ws : List Work) (m : Made) → after.what ≡ r.what → after.numbers.now ≡ r.numbers.now → works after ≡ ws → parts_made after ≡ m
    → ((names : Names) → IsNumbered r.what names r.numbers.now → all_worked r.what names (w ∷ works r) (parts_made r) ≡ all_worked r.what names ws m) → weights ws < weight w + weights (works r) → Performs r w after
performs r after w ws m what numbers left made same fewer = record {
  what = what;
  numbers = numbers;
  same = λ names numbered. same names numbered ∙ ap (λ vs. all_worked r.what names vs m) (sym left) ∙ ap (all_worked r.what names (works after)) (sym made);
  fewer = subst (λ vs. weights vs < weight w + weights (works r)) (sym left) fewer;
}

-- A term is made.
pub performs_term : (r after : Rewriter) (old new : Settings) (n made : Node) → AddsTerm r made after → ((names : Names) → IsNumbered r.what names r.numbers.now → made ≡ node_rewritten r.what names old new n)
    → 0 < weight (term old new n) → Performs r (term old new n) after
performs_term r after old new n made adds same weighs =
    performs r after (term old new n) (works r) (with_node (parts_made r) made) adds.what adds.numbers (ap (λ ts. works_of (reverse ts)) adds.tasks) adds.made
    (λ names numbered. ap (λ k. all_worked r.what names (works r) (with_node (parts_made r) k)) (sym (same names numbered))) (omega arith)

pub adds_term : (r : Rewriter) (ts : List Term) (t : Term) → ts ≡ r.terms ++ (t ∷ []) → AddsTerm r (mirror_term t) (record r { terms = ts })
adds_term r ts t pushed = record {
  made = ap (λ ns. record (parts_made r) { terms = ns }) (ap (map mirror_term) pushed ∙ map-append mirror_term r.terms (t ∷ []));
  tasks = refl;
  what = refl;
  numbers = refl;
}

some_terms : (f : Node → Node) (ts : List Term) (rest : List Node → Option Made) → on_last f (map mirror_term ts) rest ≢ None → 0 < length ts
some_terms f [] rest some = absurd (some refl)
some_terms f (t ∷ ts) rest some = omega arith

-- What a quantifier repeats is there.
pub ready_term : (r : Rewriter) (s : Span) (min : ℕ) (max : Option ℕ) (greedy : Bool) → IsReady r (ending_quantifier s min max greedy ∷ works r) → 0 < length r.terms
ready_term r s min max greedy ready =
    some_terms (quantified s min max greedy) r.terms (λ ns. all_worked r.what ready.names (works r) (record { terms = ns; alternatives = map mirror_alternative r.alternatives })) ready.some

-- The last term is what a quantifier repeats.
pub performs_quantifier : (r d after : Rewriter) (ts : List Term) (body : Term) (s : Span) (min : ℕ) (max : Option ℕ) (greedy : Bool) → r.terms ≡ ts ++ (body ∷ []) → d ≡ record r { terms = ts }
    → AddsTerm d (quantified s min max greedy (mirror_term body)) after → Performs r (ending_quantifier s min max greedy) after
performs_quantifier r d after ts body s min max greedy popped is adds =
    let a : AddsTerm (record r { terms = ts }) (quantified s min max greedy (mirror_term body)) after = subst (λ y. AddsTerm y (quantified s min max greedy (mirror_term body)) after) is adds in
    performs r after (ending_quantifier s min max greedy) (works r) (with_node (record (parts_made r) { terms = map mirror_term ts }) (quantified s min max greedy (mirror_term body))) a.what a.numbers
    (ap (λ ts. works_of (reverse ts)) a.tasks) a.made
    (λ names numbered.
    let rest : List Node → Option Made = λ ns. all_worked r.what names (works r) (record { terms = ns; alternatives = map mirror_alternative r.alternatives }) in
    ap (λ ns. on_last (quantified s min max greedy) ns rest) (ap (map mirror_term) popped ∙ map-append mirror_term ts (body ∷ []))
    ∙ on-last (quantified s min max greedy) (map mirror_term ts) (mirror_term body) rest)
    (omega arith)

-- So far as a disjunction is rewritten, its rewriting comes out.
pub record Makes (r : Rewriter) (what : Rewrites) (numbers : GroupNumbers) (old new : Settings) (all : Alternatives) : Type 0 where
  pub what_is : r.what ≡ what
  pub numbers_is : r.numbers.now ≡ numbers
  pub comes : (names : Names) → IsNumbered what names numbers → all_worked what names (works r) (parts_made r) ≡ Some (record { terms = []; alternatives = listed_alternatives (alternatives_rewritten what names old new all) })

pub makes_first : (r : Rewriter) (what : Rewrites) (numbers : GroupNumbers) (settings : SettingsPair) (slice : Bor (List Alternative)) (all : Alternatives) → r.what ≡ what → r.numbers.now ≡ numbers
    → r.tasks ≡ [] ++ (task.Alternatives settings slice ∷ []) → r.terms ≡ [] → r.alternatives ≡ [] → tree.alternatives (map mirror_alternative slice.now) ≡ all → Makes r what numbers settings.old settings.new all
makes_first r what numbers settings slice all what_is numbers_is tasks_is terms_is alternatives_is all_is = record {
  what_is = what_is;
  numbers_is = numbers_is;
  comes = λ names numbered.
      ap (λ ts. all_worked what names (works_of (reverse ts)) (parts_made r)) tasks_is
      ∙ ap (λ ts. all_worked what names (works_of (task.Alternatives settings slice ∷ [])) (record { terms = map mirror_term ts; alternatives = map mirror_alternative r.alternatives })) terms_is
      ∙ ap (λ as'. all_worked what names (works_of (task.Alternatives settings slice ∷ [])) (record { terms = []; alternatives = map mirror_alternative as' })) alternatives_is
      ∙ ap (λ x. Some (record { terms = []; alternatives = listed_alternatives (alternatives_rewritten what names settings.old settings.new x) })) all_is;
}

pub popped_works : (r : Rewriter) (ts : List Task) (t : Task) → r.tasks ≡ ts ++ (t ∷ []) → works r ≡ work_of t ∷ works (record r { tasks = ts })
popped_works r ts t popped = ap works_of (reverse-last r.tasks ts t popped)

pub ready_next : (r : Rewriter) (ts : List Task) (t : Task) (what : Rewrites) (numbers : GroupNumbers) (old new : Settings) (all : Alternatives) → r.tasks ≡ ts ++ (t ∷ []) → ((names : Names) × IsNumbered what names numbers)
    → Makes r what numbers old new all → IsReady (record r { tasks = ts }) (work_of t ∷ works (record r { tasks = ts }))
ready_next r ts t what numbers old new all popped numbered m = record {
  names = numbered.0;
  numbered = subst (λ w. IsNumbered w numbered.0 r.numbers.now) (sym m.what_is) (subst (λ g. IsNumbered what numbered.0 g) (sym m.numbers_is) numbered.1);
  some = λ none.
      let comes = m.comes numbered.0 numbered.1 in
      let nothing = ap (λ w. all_worked w numbered.0 (works r) (parts_made r)) (sym m.what_is) ∙ ap (λ ws. all_worked r.what numbered.0 ws (parts_made r)) (popped_works r ts t popped) ∙ none in
      never_none (sym comes ∙ nothing);
}
  where
    never_none : {A : Type 0} {x : A} → Some x ≡ None → ⊥
    never_none e = cc

pub makes_on : (r after : Rewriter) (ts : List Task) (t : Task) (what : Rewrites) (numbers : GroupNumbers) (old new : Settings) (all : Alternatives) → r.tasks ≡ ts ++ (t ∷ []) → Makes r what numbers old new all
    → Performs (record r { tasks = ts }) (work_of t) after → Makes after what numbers old new all
makes_on r after ts t what numbers old new all popped m p = record {
  what_is = p.what ∙ m.what_is;
  numbers_is = p.numbers ∙ m.numbers_is;
  comes = λ names numbered.
      let known : IsNumbered r.what names r.numbers.now = subst (λ w. IsNumbered w names r.numbers.now) (sym m.what_is) (subst (λ g. IsNumbered what names g) (sym m.numbers_is) numbered) in
      ap (λ w. all_worked w names (works after) (parts_made after)) (sym m.what_is) ∙ sym (p.same names known) ∙ ap (λ ws. all_worked r.what names ws (parts_made r)) (sym (popped_works r ts t popped))
      ∙ ap (λ w. all_worked w names (works r) (parts_made r)) m.what_is ∙ m.comes names numbered;
}

pub fewer_on : (r after : Rewriter) (ts : List Task) (t : Task) → r.tasks ≡ ts ++ (t ∷ []) → Performs (record r { tasks = ts }) (work_of t) after → weights (works after) < weights (works r)
fewer_on r after ts t popped p = let few = p.fewer in let e = ap weights (popped_works r ts t popped) in omega arith

-- Nothing is left: the alternatives are the rewriting.
pub makes_all : (r : Rewriter) (what : Rewrites) (numbers : GroupNumbers) (old new : Settings) (all : Alternatives) (names : Names) → r.tasks ≡ [] → IsNumbered what names numbers → Makes r what numbers old new all
    → tree.alternatives (map mirror_alternative r.alternatives) ≡ alternatives_rewritten what names old new all
makes_all r what numbers old new all names none numbered m =
    let comes = ap (λ ts. all_worked what names (works_of (reverse ts)) (parts_made r)) (sym none) ∙ m.comes names numbered in
    ap tree.alternatives (alternatives_in (parts_made r) _ comes) ∙ alternatives-listed (alternatives_rewritten what names old new all)
  where
    alternatives_in : (m n : Made) → Some m ≡ Some n → m.alternatives ≡ n.alternatives
    alternatives_in m n e = ap (λ o. alternatives_or m o) e
      where
        alternatives_or : Made → Option Made → List SpannedNodes
        alternatives_or m None = m.alternatives
        alternatives_or m (Some n) = n.alternatives
