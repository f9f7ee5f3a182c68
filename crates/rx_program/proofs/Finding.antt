-- Classes that are found in a tree, over plain values.
use Rattle.std.proofs.Common.{◌≡◌, refl, ap, sym, ◌∙◌, subst, ℕ, ◌+◌, ◌<◌, Bool, Option, List, [], ◌∷◌, ◌++◌, append_assoc, append-nil, length, map, reverse, arith}
use Rattle.std.proofs.Math.Path.{fun_ext}
use Rattle.rx_base.specs.declared.span.Span.{Span}
use Rattle.rx_ast.specs.declared.term.Alternative.{Alternative}
use Rattle.rx_ast.specs.declared.term.Term.{Term}
use Rattle.rx_ast.specs.ClassTree.{Class}
use Rattle.rx_ast.specs.Tree as tree
use Rattle.rx_ast.specs.Tree.{Leaf, Opener, Node, Alternatives, leaf, quantified, group, nodes, alternatives, mirror_term, mirror_alternative}
use Rattle.rx_program.specs.declared.checks.ClassRow.{ClassRow}
use Rattle.rx_program.specs.declared.classes.ClassFinder.{ClassFinder}
use Rattle.rx_program.specs.declared.classes.Unseen.{Unseen}
use Rattle.rx_program.specs.Checks.{row_holds}
use Rattle.rx_program.specs.ClassTests.{Tests, row_tests, leaf_tests, node_tests, nodes_tests, each_tests}
use Rattle.rx_program.specs.ClassesFound.{unseen_tests, tests_of, unseen_of, unseen_weight, unseen_weights, with_unseen, with_row, Finds, FindsClass}
use Rattle.rx_trace.specs.Holding.{class_holds}
use Rattle.rx_program.specs.Works.{node_weight, nodes_weight, each_weight}
use Rattle.rx_program.proofs.SmallerWorks.{with_last, with_last_alternative, nodes_last, alternatives_last, weight_last, weight_last_alternative}
use Rattle.std.proofs.lemmas.List.{nil_from_length}
use Rattle.rx_trace.proofs.Lists.{reverse-last}
use Rattle.rx_program.proofs.TestOrder.{nodes_tests-last, each_tests-last}

row_tests-last : (rows : List ClassRow) (row : ClassRow) → row_tests (rows ++ (row ∷ [])) ≡ row_tests rows ++ (row_holds row ∷ [])
row_tests-last [] row = refl
row_tests-last (r ∷ rows) row = ap (λ ts. row_holds r ∷ ts) (row_tests-last rows row)

unseen_with : (f : ClassFinder) (u : Unseen) → unseen_of (with_unseen f u) ≡ u ∷ unseen_of f
unseen_with f u = reverse-last (f.unseen ++ (u ∷ [])) f.unseen u refl

-- what is still to be looked at: the tests that it has, and how many looks it takes
pub record IsUnseen (u : Unseen) (tests : Tests → Tests) (most : ℕ) : Type 0 where
  pub tests_are : (before : Tests) → unseen_tests u before ≡ tests before
  pub few : unseen_weight u ≡ most

finds_none : (f : ClassFinder) (tests : Tests → Tests) (most : ℕ) → ((before : Tests) → tests before ≡ before) → 0 < most → Finds f tests most f
finds_none f tests most none some = record { same = ap (λ ts. row_tests f.rows ++ ts) (none (tests_of (unseen_of f))); fewer = omega arith }

finds_one : (f after : ClassFinder) (tests one : Tests → Tests) (most weight : ℕ) (u : Unseen) → IsUnseen u one weight → after ≡ with_unseen f u → ((before : Tests) → tests before ≡ one before) → weight < most → Finds f tests most after
finds_one f after tests one most weight u is pushed same less =
    let all = unseen_with f u in
    let sum = ap unseen_weights all in
    let own = is.few in
    subst (λ y. Finds f tests most y) (sym pushed)
    (record {
      same = ap (λ ts. row_tests f.rows ++ ts) (same (tests_of (unseen_of f)) ∙ sym (is.tests_are (tests_of (unseen_of f))) ∙ sym (ap tests_of all));
      fewer = omega arith;
    })

finds_two : (f after : ClassFinder) (tests one other : Tests → Tests) (most weight weight' : ℕ) (u v : Unseen) → IsUnseen u one weight → IsUnseen v other weight' → after ≡ with_unseen (with_unseen f u) v
    → ((before : Tests) → tests before ≡ other (one before)) → weight + weight' < most → Finds f tests most after
finds_two f after tests one other most weight weight' u v is is' pushed same less =
    let all : unseen_of (with_unseen (with_unseen f u) v) ≡ v ∷ u ∷ unseen_of f = unseen_with (with_unseen f u) v ∙ ap (λ us. v ∷ us) (unseen_with f u) in
    let sum = ap unseen_weights all in
    let own = is.few in
    let own' = is'.few in
    subst (λ y. Finds f tests most y) (sym pushed)
    (record {
      same = ap (λ ts. row_tests f.rows ++ ts)
          (same (tests_of (unseen_of f)) ∙ ap other (sym (is.tests_are (tests_of (unseen_of f)))) ∙ sym (is'.tests_are (unseen_tests u (tests_of (unseen_of f)))) ∙ sym (ap tests_of all));
      fewer = omega arith;
    })

pub finds_no_alternatives : (f : ClassFinder) (all : List Alternative) → length all ≡ 0 → Finds f (each_tests (alternatives (map mirror_alternative all))) (1 + each_weight (alternatives (map mirror_alternative all))) f
finds_no_alternatives f all none =
    finds_none f (each_tests (alternatives (map mirror_alternative all))) (1 + each_weight (alternatives (map mirror_alternative all))) (λ before. ap (λ l. each_tests (alternatives (map mirror_alternative l)) before) (nil_from_length all none)) (omega arith)

pub finds_no_terms : (f : ClassFinder) (all : List Term) → length all ≡ 0 → Finds f (nodes_tests (nodes (map mirror_term all))) (1 + nodes_weight (nodes (map mirror_term all))) f
finds_no_terms f all none =
    finds_none f (nodes_tests (nodes (map mirror_term all))) (1 + nodes_weight (nodes (map mirror_term all))) (λ before. ap (λ l. nodes_tests (nodes (map mirror_term l)) before) (nil_from_length all none)) (omega arith)

pub finds_alternatives : (f after : ClassFinder) (all more : List Alternative) (last : Alternative) (body : List Term) (u v : Unseen) → all ≡ more ++ (last ∷ []) → (mirror_alternative last).1 ≡ nodes (map mirror_term body)
    → IsUnseen u (each_tests (alternatives (map mirror_alternative more))) (1 + each_weight (alternatives (map mirror_alternative more))) → IsUnseen v (nodes_tests (nodes (map mirror_term body))) (1 + nodes_weight (nodes (map mirror_term body)))
    → after ≡ with_unseen (with_unseen f u) v → Finds f (each_tests (alternatives (map mirror_alternative all))) (1 + each_weight (alternatives (map mirror_alternative all))) after
finds_alternatives f after all more last body u v cut is_body is is' pushed =
    let ms = alternatives (map mirror_alternative more) in
    let ns = nodes (map mirror_term body) in
    let d = (mirror_alternative last).0 in
    let e : alternatives (map mirror_alternative all) ≡ with_last_alternative ms d ns = ap (λ l. alternatives (map mirror_alternative l)) cut ∙ alternatives_last more last ∙ ap (with_last_alternative ms d) is_body in
    let heavy = ap each_weight e ∙ weight_last_alternative ms d ns in
    finds_two f after (each_tests (alternatives (map mirror_alternative all))) (each_tests ms) (nodes_tests ns) (1 + each_weight (alternatives (map mirror_alternative all))) (1 + each_weight ms) (1 + nodes_weight ns) u v is is' pushed
    (λ before. ap (λ x. each_tests x before) e ∙ each_tests-last ms d ns before) (omega arith)

pub finds_terms : (f after : ClassFinder) (all more : List Term) (last : Term) (u v : Unseen) → all ≡ more ++ (last ∷ [])
    → IsUnseen u (nodes_tests (nodes (map mirror_term more))) (1 + nodes_weight (nodes (map mirror_term more))) → IsUnseen v (node_tests (mirror_term last)) (node_weight (mirror_term last))
    → after ≡ with_unseen (with_unseen f u) v → Finds f (nodes_tests (nodes (map mirror_term all))) (1 + nodes_weight (nodes (map mirror_term all))) after
finds_terms f after all more last u v cut is is' pushed =
    let ns = nodes (map mirror_term more) in
    let n = mirror_term last in
    let e : nodes (map mirror_term all) ≡ with_last ns n = ap (λ l. nodes (map mirror_term l)) cut ∙ nodes_last more last in
    let heavy = ap nodes_weight e ∙ weight_last ns n in
    finds_two f after (nodes_tests (nodes (map mirror_term all))) (nodes_tests ns) (node_tests n) (1 + nodes_weight (nodes (map mirror_term all))) (1 + nodes_weight ns) (node_weight n) u v is is' pushed
    (λ before. ap (λ x. nodes_tests x before) e ∙ nodes_tests-last ns n before) (omega arith)

-- a node with no class in it
pub finds_leaf : (f : ClassFinder) (n : Node) (l : Leaf) → n ≡ leaf l → ((before : Tests) → leaf_tests l before ≡ before) → Finds f (node_tests n) (node_weight n) f
finds_leaf f n l is none = let e = ap node_weight is in finds_none f (node_tests n) (node_weight n) (λ before. ap (λ x. node_tests x before) is ∙ none before) (omega arith)

pub finds_quantified : (f after : ClassFinder) (n m : Node) (d : Span) (min : ℕ) (max : Option ℕ) (greedy : Bool) (u : Unseen) → n ≡ quantified d min max greedy m → IsUnseen u (node_tests m) (node_weight m) → after ≡ with_unseen f u
    → Finds f (node_tests n) (node_weight n) after
finds_quantified f after n m d min max greedy u is of_u pushed =
    let e = ap node_weight is in
    finds_one f after (node_tests n) (node_tests m) (node_weight n) (node_weight m) u of_u pushed (λ before. ap (λ x. node_tests x before) is) (omega arith)

pub finds_group : (f after : ClassFinder) (n : Node) (d c : Span) (o : Opener) (more : Alternatives) (u : Unseen) → n ≡ group d o c more → IsUnseen u (each_tests more) (1 + each_weight more) → after ≡ with_unseen f u
    → Finds f (node_tests n) (node_weight n) after
finds_group f after n d c o more u is of_u pushed =
    let e = ap node_weight is in
    finds_one f after (node_tests n) (each_tests more) (node_weight n) (1 + each_weight more) u of_u pushed (λ before. ap (λ x. node_tests x before) is) (omega arith)

pub finds_row : (f after : ClassFinder) (row : ClassRow) (k : Class) → after ≡ with_row f row → ((c : ℕ) → row_holds row c ≡ class_holds k c) → FindsClass f k after
finds_row f after row k pushed same =
    subst (FindsClass f k) (sym pushed)
    (record { rows = row_tests-last f.rows row ∙ ap (λ t. row_tests f.rows ++ (t ∷ [])) (fun_ext same); unseen = refl })

pub finds_class : (f after : ClassFinder) (n : Node) (k : Class) → n ≡ leaf (tree.class k) → FindsClass f k after → Finds f (node_tests n) (node_weight n) after
finds_class f after n k is found =
    let e = ap node_weight is in
    let same = ap (λ us. unseen_weights (reverse us)) found.unseen in
    record {
      same = ap (λ x. row_tests f.rows ++ node_tests x (tests_of (unseen_of f))) is ∙ sym (append_assoc (row_tests f.rows) (class_holds k ∷ []) (tests_of (unseen_of f)))
          ∙ ap (λ ts. ts ++ tests_of (unseen_of f)) (sym found.rows) ∙ ap (λ us. row_tests after.rows ++ tests_of (reverse us)) (sym found.unseen);
      fewer = omega arith;
    }

-- the loop: what is found and what is left come to the same
pub record FindsAll (f : ClassFinder) (all : Tests) : Type 0 where
  pub same : row_tests f.rows ++ tests_of (unseen_of f) ≡ all

abbrev pub popped : ClassFinder → List Unseen → ClassFinder
popped f us = record f { unseen = us }

pub all_first : (f : ClassFinder) (u : Unseen) (tests : Tests → Tests) (most : ℕ) → f.rows ≡ [] → f.unseen ≡ [] ++ (u ∷ []) → IsUnseen u tests most → FindsAll f (tests [])
all_first f u tests most none only is = record {
  same = ap (λ rows. row_tests rows ++ tests_of (unseen_of f)) none ∙ ap (λ us. tests_of (reverse us)) only ∙ is.tests_are [];
}

pub all_on : (f after : ClassFinder) (us : List Unseen) (u : Unseen) (all : Tests) → f.unseen ≡ us ++ (u ∷ []) → FindsAll f all → Finds (popped f us) (unseen_tests u) (unseen_weight u) after → FindsAll after all
all_on f after us u all is finds found = record {
  same = sym found.same ∙ ap (λ rs. row_tests f.rows ++ tests_of rs) (sym (reverse-last f.unseen us u is)) ∙ finds.same;
}

pub all_fewer : (f after : ClassFinder) (us : List Unseen) (u : Unseen) → f.unseen ≡ us ++ (u ∷ []) → Finds (popped f us) (unseen_tests u) (unseen_weight u) after → unseen_weights (unseen_of after) < unseen_weights (unseen_of f)
all_fewer f after us u is found = let e = ap unseen_weights (reverse-last f.unseen us u is) in let g = found.fewer in omega arith

pub all_found : (f : ClassFinder) (all : Tests) → f.unseen ≡ [] → FindsAll f all → row_tests f.rows ≡ all
all_found f all none finds = sym (append-nil (row_tests f.rows)) ∙ ap (λ us. row_tests f.rows ++ tests_of (reverse us)) (sym none) ∙ finds.same
