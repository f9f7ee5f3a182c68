-- What each kind of work is cut into, over plain values.
use Rattle.std.proofs.Common.{◌≡◌, refl, ap, sym, ◌∙◌, subst, ℕ, Bool, Option, List, [], ◌∷◌, ◌++◌, map, reverse, arith}
use Rattle.std.proofs.lemmas.List.{map-append}
use Rattle.rx_base.specs.declared.span.Span.{Span}
use Rattle.rx_ast.specs.declared.leaf.Modifiers.{Modifiers}
use Rattle.rx_ast.specs.declared.term.Alternative.{Alternative}
use Rattle.rx_ast.specs.declared.term.CapturingGroup.{CapturingGroup, out-CapturingGroup}
use Rattle.rx_ast.specs.declared.term.IgnoreGroup.{IgnoreGroup, out-IgnoreGroup}
use Rattle.rx_ast.specs.declared.term.LookAroundAssertion.{LookAroundAssertion, out-LookAroundAssertion}
use Rattle.rx_ast.specs.declared.term.Term.{Term}
use Rattle.rx_ast.specs.Tree as tree
use Rattle.rx_ast.specs.Tree.{Leaf, Node, Alternatives, SpannedNodes, leaf, quantified, group, no_node, node, no_alternative, alternative, mirror_alternative, mirror_capturing, mirror_disjunction, mirror_ignore, mirror_look, mirror_term}
use Rattle.rx_ast.proofs.Equations.{alternative_is, capturing_is, ignore_is, look_is}
use Rattle.rx_trace.specs.Groups.{Names}
use Rattle.rx_trace.specs.declared.settings.Settings.{Settings}
use Rattle.rx_trace.specs.Matching.{update_settings}
use Rattle.rx_rewrite.specs.declared.rewriter.Rewriter.{Rewriter}
use Rattle.rx_rewrite.specs.declared.rewriter.Task.{Task}
use Rattle.rx_rewrite.specs.RewriterState.{work_of, works_of, works, parts_made, with_task, AddsTerm, IsNumbered, Performs}
use Rattle.rx_rewrite.specs.Rewriting.{leaf_rewritten, modifiers_rewritten, name_rewritten}
use Rattle.rx_rewrite.specs.Works.{alternatives, terms, term, opening, ending_alternative, ending_group, ending_quantifier, all_worked, node_weight}
use Rattle.rx_rewrite.proofs.Splits.{no_alternatives, no_terms, split_alternatives, split_terms, split_quantified, split_opening}
use Rattle.rx_rewrite.proofs.Performing.{performs, performs_as, performs_is, performs_none, performs_term, works_with}

module _ (r after : Rewriter) (old new : Settings) where
  pub cuts_no_alternatives : (all : List Alternative) → all ≡ [] → Performs r (alternatives old new (tree.alternatives (map mirror_alternative all))) r
  cuts_no_alternatives all none =
      performs_is r r (alternatives old new (tree.alternatives (map mirror_alternative all))) (alternatives old new no_alternative) (ap (λ more. alternatives old new (tree.alternatives (map mirror_alternative more))) none)
      (performs_none r (alternatives old new no_alternative) (λ names. no_alternatives r.what names (works r) old new (parts_made r)) (omega arith))

  -- the first alternative, and those after it
  pub cuts_alternatives : (all rest : List Alternative) (a : Alternative) (ts outer inner : List Term) (t u v : Task) → all ≡ a ∷ rest → work_of t ≡ alternatives old new (tree.alternatives (map mirror_alternative rest))
      → work_of u ≡ ending_alternative a.span (map mirror_term outer) → work_of v ≡ terms old new (tree.nodes (map mirror_term ts)) → outer ≡ r.terms → inner ≡ [] → ts ≡ a.body
      → after ≡ with_task (with_task (record (with_task r t) { terms = inner }) u) v → Performs r (alternatives old new (tree.alternatives (map mirror_alternative all))) after
  cuts_alternatives all rest a ts outer inner t u v first t_is u_is v_is outer_is inner_is ts_is is =
      let more = tree.alternatives (map mirror_alternative rest) in
      let ns = tree.nodes (map mirror_term ts) in
      let d : Rewriter = record (with_task r t) { terms = inner } in
      let mirrors : tree.alternatives (map mirror_alternative all) ≡ alternative a.span ns more =
      ap (λ x. tree.alternatives (map mirror_alternative x)) first
      ∙ ap (λ (x : SpannedNodes). alternative x.0 x.1 more) (alternative_is a)
      ∙ ap (λ x. alternative a.span (tree.nodes (map mirror_term x)) more) (sym ts_is) in
      let left : works (with_task (with_task d u) v) ≡ terms old new ns ∷ ending_alternative a.span (map mirror_term r.terms) ∷ alternatives old new more ∷ works r =
      works_with (with_task d u) v ∙ ap (λ w. w ∷ works (with_task d u)) v_is
      ∙ ap (λ ws. terms old new ns ∷ ws) (works_with d u ∙ ap (λ w. w ∷ works d) (u_is ∙ ap (λ x. ending_alternative a.span (map mirror_term x)) outer_is))
      ∙ ap (λ ws. terms old new ns ∷ ending_alternative a.span (map mirror_term r.terms) ∷ ws) (works_with r t ∙ ap (λ w. w ∷ works r) t_is) in
      subst (λ y. Performs r (alternatives old new (tree.alternatives (map mirror_alternative all))) y) (sym is)
      (performs_is r (with_task (with_task d u) v) (alternatives old new (tree.alternatives (map mirror_alternative all))) (alternatives old new (alternative a.span ns more)) (ap (alternatives old new) mirrors)
      (performs r (with_task (with_task d u) v) (alternatives old new (alternative a.span ns more)) (terms old new ns ∷ ending_alternative a.span (map mirror_term r.terms) ∷ alternatives old new more ∷ works r)
      (record (parts_made r) { terms = [] }) refl refl left (ap (λ x. record (parts_made r) { terms = map mirror_term x }) inner_is)
      (λ names numbered. split_alternatives r.what names (works r) old new (parts_made r) a.span ns more) (omega arith)))

  pub cuts_no_terms : (all : List Term) → all ≡ [] → Performs r (terms old new (tree.nodes (map mirror_term all))) r
  cuts_no_terms all none =
      performs_is r r (terms old new (tree.nodes (map mirror_term all))) (terms old new no_node) (ap (λ ts. terms old new (tree.nodes (map mirror_term ts))) none)
      (performs_none r (terms old new no_node) (λ names. no_terms r.what names (works r) old new (parts_made r)) (omega arith))

  pub cuts_terms : (all rest : List Term) (first : Term) (t u : Task) → all ≡ first ∷ rest → work_of t ≡ terms old new (tree.nodes (map mirror_term rest)) → work_of u ≡ term old new (mirror_term first)
      → after ≡ with_task (with_task r t) u → Performs r (terms old new (tree.nodes (map mirror_term all))) after
  cuts_terms all rest first t u is_first t_is u_is is =
      let ns = tree.nodes (map mirror_term rest) in
      let left : works (with_task (with_task r t) u) ≡ term old new (mirror_term first) ∷ terms old new ns ∷ works r =
      works_with (with_task r t) u ∙ ap (λ w. w ∷ works (with_task r t)) u_is ∙ ap (λ ws. term old new (mirror_term first) ∷ ws) (works_with r t ∙ ap (λ w. w ∷ works r) t_is) in
      subst (λ y. Performs r (terms old new (tree.nodes (map mirror_term all))) y) (sym is)
      (performs_is r (with_task (with_task r t) u) (terms old new (tree.nodes (map mirror_term all))) (terms old new (node (mirror_term first) ns)) (ap (λ ts. terms old new (tree.nodes (map mirror_term ts))) is_first)
      (performs r (with_task (with_task r t) u) (terms old new (node (mirror_term first) ns)) (term old new (mirror_term first) ∷ terms old new ns ∷ works r) (parts_made r) refl refl left refl
      (λ names numbered. split_terms r.what names (works r) old new (parts_made r) (mirror_term first) ns) (omega arith)))

  -- a group or a look-around whose opener is rewritten
  pub cuts_opening : (s d : Span) (o : tree.Opener) (more : Alternatives) (outer inner : List Alternative) (t u : Task) → work_of t ≡ ending_group s o d (map mirror_alternative outer) → work_of u ≡ alternatives old new more
      → outer ≡ r.alternatives → inner ≡ [] → after ≡ with_task (with_task (record r { alternatives = inner }) t) u → Performs r (opening old new s o d more) after
  cuts_opening s d o more outer inner t u t_is u_is outer_is inner_is is =
      let e : Rewriter = record r { alternatives = inner } in
      let left : works (with_task (with_task e t) u) ≡ alternatives old new more ∷ ending_group s o d (map mirror_alternative r.alternatives) ∷ works r =
      works_with (with_task e t) u ∙ ap (λ w. w ∷ works (with_task e t)) u_is
      ∙ ap (λ ws. alternatives old new more ∷ ws) (works_with e t ∙ ap (λ w. w ∷ works r) (t_is ∙ ap (λ x. ending_group s o d (map mirror_alternative x)) outer_is)) in
      subst (λ y. Performs r (opening old new s o d more) y) (sym is)
      (performs r (with_task (with_task e t) u) (opening old new s o d more) (alternatives old new more ∷ ending_group s o d (map mirror_alternative r.alternatives) ∷ works r)
      (record (parts_made r) { alternatives = [] }) refl refl left (ap (λ x. record (parts_made r) { alternatives = map mirror_alternative x }) inner_is)
      (λ names numbered. split_opening r.what names (works r) old new (parts_made r) s o d more) (omega arith))

pub ends_alternative : (r after : Rewriter) (s : Span) (outer : List Term) (a : Alternative) → mirror_alternative a ≡ (s, tree.nodes (map mirror_term r.terms)) → after ≡ record r { terms = outer; alternatives = r.alternatives ++ (a ∷ []) }
    → Performs r (ending_alternative s (map mirror_term outer)) after
ends_alternative r after s outer a mirrors is =
    subst (λ y. Performs r (ending_alternative s (map mirror_term outer)) y) (sym is)
    (performs r (record r { terms = outer; alternatives = r.alternatives ++ (a ∷ []) }) (ending_alternative s (map mirror_term outer)) (works r)
    (record { terms = map mirror_term outer; alternatives = map mirror_alternative r.alternatives ++ ((s, tree.nodes (map mirror_term r.terms)) ∷ []) }) refl refl refl
    (ap (λ x. record { terms = map mirror_term outer; alternatives = x }) (map-append mirror_alternative r.alternatives (a ∷ []) ∙ ap (λ x. map mirror_alternative r.alternatives ++ (x ∷ [])) mirrors))
    (λ names numbered. refl) (omega arith))

pub ends_group : (r after : Rewriter) (s d : Span) (o : tree.Opener) (outer : List Alternative) (t : Term) → mirror_term t ≡ group s o d (tree.alternatives (map mirror_alternative r.alternatives))
    → AddsTerm (record r { alternatives = outer }) (mirror_term t) after → Performs r (ending_group s o d (map mirror_alternative outer)) after
ends_group r after s d o outer t mirrors adds =
    performs r after (ending_group s o d (map mirror_alternative outer)) (works r)
    (record { terms = map mirror_term r.terms ++ (mirror_term t ∷ []); alternatives = map mirror_alternative outer }) adds.what adds.numbers (ap (λ ts. works_of (reverse ts)) adds.tasks) adds.made
    (λ names numbered. ap (λ n. all_worked r.what names (works r) (record { terms = map mirror_term r.terms ++ (n ∷ []); alternatives = map mirror_alternative outer })) (sym mirrors)) (omega arith)

-- A quantifier's body is rewritten first.
pub cuts_quantified : (r d after : Rewriter) (old new : Settings) (s : Span) (min : ℕ) (max : Option ℕ) (greedy : Bool) (n : Node) (t u : Task) → d ≡ with_task r t → after ≡ with_task d u
    → work_of t ≡ ending_quantifier s min max greedy → work_of u ≡ term old new n → Performs r (term old new (quantified s min max greedy n)) after
cuts_quantified r d after old new s min max greedy n t u first second t_is u_is =
    let left : works (with_task (with_task r t) u) ≡ term old new n ∷ ending_quantifier s min max greedy ∷ works r =
    works_with (with_task r t) u ∙ ap (λ w. w ∷ works (with_task r t)) u_is ∙ ap (λ ws. term old new n ∷ ws) (works_with r t ∙ ap (λ w. w ∷ works r) t_is) in
    subst (λ y. Performs r (term old new (quantified s min max greedy n)) y) (sym (second ∙ ap (λ y. with_task y u) first))
    (performs r (with_task (with_task r t) u) (term old new (quantified s min max greedy n)) (term old new n ∷ ending_quantifier s min max greedy ∷ works r) (parts_made r) refl refl left refl
    (λ names numbered. split_quantified r.what names (works r) old new (parts_made r) s min max greedy n) (omega arith))

module _ (r after : Rewriter) (old new : Settings) where
  -- a group that captures, by its name after the rewriting
  pub opens_capturing : (g : CapturingGroup) (name : Option (List ℕ)) → ((names : Names) → name ≡ name_rewritten r.what names (out-CapturingGroup g).name)
      → Performs r (opening old new (out-CapturingGroup g).span (tree.capturing name) (mirror_disjunction (out-CapturingGroup g).body).0 (mirror_disjunction (out-CapturingGroup g).body).1) after → Performs r (term old new (mirror_capturing g)) after
  opens_capturing g name rewrites p =
      let it = out-CapturingGroup g in
      let d = mirror_disjunction it.body in
      performs_as r after (term old new (mirror_capturing g)) (opening old new it.span (tree.capturing name) d.0 d.1)
      (λ names. ap (λ n. all_worked r.what names (term old new n ∷ works r) (parts_made r)) (capturing_is g)
      ∙ ap (λ x. all_worked r.what names (opening old new it.span (tree.capturing x) d.0 d.1 ∷ works r) (parts_made r)) (sym (rewrites names)))
      (ap node_weight (capturing_is g)) p

  -- a group that does not, by its modifiers and the settings in it
  pub opens_ignoring : (g : IgnoreGroup) (m : Option Modifiers) (old_in new_in : Settings) → ((names : Names) → m ≡ modifiers_rewritten r.what names (out-IgnoreGroup g).modifiers)
      → old_in ≡ update_settings (out-IgnoreGroup g).modifiers old → new_in ≡ update_settings m new
      → Performs r (opening old_in new_in (out-IgnoreGroup g).span (tree.ignoring m) (mirror_disjunction (out-IgnoreGroup g).body).0 (mirror_disjunction (out-IgnoreGroup g).body).1) after → Performs r (term old new (mirror_ignore g)) after
  opens_ignoring g m old_in new_in rewrites old_is new_is p =
      let it = out-IgnoreGroup g in
      let d = mirror_disjunction it.body in
      performs_as r after (term old new (mirror_ignore g)) (opening old_in new_in it.span (tree.ignoring m) d.0 d.1)
      (λ names. ap (λ n. all_worked r.what names (term old new n ∷ works r) (parts_made r)) (ignore_is g)
      ∙ ap (λ x. all_worked r.what names (opening (update_settings it.modifiers old) (update_settings x new) it.span (tree.ignoring x) d.0 d.1 ∷ works r) (parts_made r)) (sym (rewrites names))
      ∙ ap (λ x. all_worked r.what names (opening x (update_settings m new) it.span (tree.ignoring m) d.0 d.1 ∷ works r) (parts_made r)) (sym old_is)
      ∙ ap (λ x. all_worked r.what names (opening old_in x it.span (tree.ignoring m) d.0 d.1 ∷ works r) (parts_made r)) (sym new_is))
      (ap node_weight (ignore_is g)) p

  pub opens_looking : (g : LookAroundAssertion) → Performs r (opening old new (out-LookAroundAssertion g).span (tree.looking (out-LookAroundAssertion g).kind) (mirror_disjunction (out-LookAroundAssertion g).body).0 (mirror_disjunction (out-LookAroundAssertion g).body).1) after
      → Performs r (term old new (mirror_look g)) after
  opens_looking g p =
      let it = out-LookAroundAssertion g in
      let d = mirror_disjunction it.body in
      performs_as r after (term old new (mirror_look g)) (opening old new it.span (tree.looking it.kind) d.0 d.1)
      (λ names. ap (λ n. all_worked r.what names (term old new n ∷ works r) (parts_made r)) (look_is g)) (ap node_weight (look_is g)) p

  -- a term that holds no other
  pub makes_leaf : (n : Node) (l : Leaf) (made : Node) → n ≡ leaf l → ((names : Names) → IsNumbered r.what names r.numbers.now → made ≡ leaf_rewritten r.what names old new l) → AddsTerm r made after → Performs r (term old new n) after
  makes_leaf n l made is rewrites adds =
      performs_is r after (term old new n) (term old new (leaf l)) (ap (term old new) is) (performs_term r after old new (leaf l) made adds rewrites (omega arith))

pub changes_term : (r after : Rewriter) (old new : Settings) (n m : Node) → n ≡ m → Performs r (term old new m) after → Performs r (term old new n) after
changes_term r after old new n m is = performs_is r after (term old new n) (term old new m) (ap (term old new) is)
