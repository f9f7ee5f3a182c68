use Rattle.std.proofs.Common.{◌≡◌, ap, ◌∙◌, refl, sym, rules, false, length, ◌<◌, ◌≤◌, IsTrue}
use Rattle.std.proofs.lemmas.Bool.{true≢false}
use Rattle.std.proofs.lemmas.List.Elements.{length_all_zip}
use Rattle.rx_base.proofs.Pairwise.{pairs_more}
use Rattle.rx_ast.specs.declared.term.CapturingGroup.{out-CapturingGroup}
use Rattle.rx_ast.specs.declared.term.IgnoreGroup.{out-IgnoreGroup}
use Rattle.rx_ast.specs.declared.term.LookAroundAssertion.{out-LookAroundAssertion}
use Rattle.rx_ast.specs.Tree as tree
use Rattle.rx_ast.specs.Tree.{leaf, mirror_term, mirror_look, mirror_quantifier, mirror_capturing, mirror_ignore}
use Rattle.rx_ast.specs.Forget.{nowhere, three_bits, forget_character, forget_node, same_kind}
use Rattle.rx_ast.proofs.ClassContentEq.{class_of}
use Rattle.rx_ast.proofs.ContentEq.{by_held, all_same, same_here, from_both, to_both, all_kept}
use Rattle.rx_ast.proofs.Equations.{capturing_is, ignore_is, look_is, quantifier_is, boundary_is, look_term_is, quantifier_term_is, character_is, dot_is, escape_is, property_is, class_is, capturing_term_is, ignore_term_is, indexed_is, named_is}
use Rattle.rx_ast.proofs.TermContentEq.{node_of, nodes_of, alternatives_of, alternative_from_terms, same_terms, disjunction_from_alternatives, same_alternatives, same_opener, by_inside, same_head, by_repeated}
use Rattle.std.specs.Option.{option_map}
use Rattle.rx_ast.proofs.TermShapes.{one_variant, name_or, modifiers_or, look_or, boundary_or, character_or, dot_or, escape_or, property_or, class_or, indexed_or, named_or}
use Rattle.rx_ast.proofs.content_eq.term.+term.Goals as goal

pub TermContentEq::content_eq-returns-in-BoundaryAssertion-other : goal.TermContentEq::content_eq-returns-in-BoundaryAssertion-other
TermContentEq::content_eq-returns-in-BoundaryAssertion-other t c =
    let a = c.in-BoundaryAssertion.it in
    let b = c.in-BoundaryAssertion-other.that in
    let x = record a { span = nowhere } in
    let y = record b { span = nowhere } in
    by_held (λ k. leaf (tree.boundary k)) (boundary_or x) x y _ _ refl refl
    (ap node_of c.in-BoundaryAssertion.is ∙ ap (forget_node same_kind) (boundary_is a))
    (ap node_of c.in-BoundaryAssertion-other.is ∙ ap (forget_node same_kind) (boundary_is b))
    c.content_eq.ensures

pub TermContentEq::content_eq-returns-in_default : goal.TermContentEq::content_eq-returns-in_default
TermContentEq::content_eq-returns-in_default t c = (
  λ f. absurd (true≢false (sym f)),
  λ same. let other = one_variant c.args.self.now c.args.other.now _ (ap mirror_term c.in-BoundaryAssertion.is ∙ boundary_is c.in-BoundaryAssertion.it) same in absurd (c.in_default.not-BoundaryAssertion other.0 other.1),
)

pub TermContentEq::content_eq-returns-in-LookAroundAssertion-other : goal.TermContentEq::content_eq-returns-in-LookAroundAssertion-other
TermContentEq::content_eq-returns-in-LookAroundAssertion-other t c =
    by_held (λ n. n) (λ n. n) _ _ _ _ refl refl
    (ap node_of c.in-LookAroundAssertion.is ∙ ap (forget_node same_kind) (look_term_is c.in-LookAroundAssertion.it) ∙ ap (λ k. forget_node same_kind (mirror_look k)) (sym c.deref.ensures))
    (ap node_of c.in-LookAroundAssertion-other.is ∙ ap (forget_node same_kind) (look_term_is c.in-LookAroundAssertion-other.that) ∙ ap (λ k. forget_node same_kind (mirror_look k)) (sym c.deref-in-LookAroundAssertion-other.ensures))
    c.content_eq-in-LookAroundAssertion-other.ensures

pub TermContentEq::content_eq-returns-in_default-other : goal.TermContentEq::content_eq-returns-in_default-other
TermContentEq::content_eq-returns-in_default-other t c = (
  λ f. absurd (true≢false (sym f)),
  λ same. let other = one_variant c.args.self.now c.args.other.now _ (ap mirror_term c.in-LookAroundAssertion.is ∙ look_term_is c.in-LookAroundAssertion.it ∙ look_is c.in-LookAroundAssertion.it.value) same in absurd (c.in_default-other.not-LookAroundAssertion other.0 other.1),
)

pub TermContentEq::content_eq-returns-in-Quantifier-other : goal.TermContentEq::content_eq-returns-in-Quantifier-other
TermContentEq::content_eq-returns-in-Quantifier-other t c =
    by_held (λ n. n) (λ n. n) _ _ _ _ refl refl
    (ap node_of c.in-Quantifier.is ∙ ap (forget_node same_kind) (quantifier_term_is c.in-Quantifier.it) ∙ ap (λ k. forget_node same_kind (mirror_quantifier k)) (sym c.deref-in-Quantifier-other.ensures))
    (ap node_of c.in-Quantifier-other.is ∙ ap (forget_node same_kind) (quantifier_term_is c.in-Quantifier-other.that) ∙ ap (λ k. forget_node same_kind (mirror_quantifier k)) (sym c.deref-in-Quantifier-other-2.ensures))
    c.content_eq-in-Quantifier-other.ensures

pub TermContentEq::content_eq-returns-in_default-other-2 : goal.TermContentEq::content_eq-returns-in_default-other-2
TermContentEq::content_eq-returns-in_default-other-2 t c = (
  λ f. absurd (true≢false (sym f)),
  λ same. let other = one_variant c.args.self.now c.args.other.now _ (ap mirror_term c.in-Quantifier.is ∙ quantifier_term_is c.in-Quantifier.it ∙ quantifier_is c.in-Quantifier.it.value) same in absurd (c.in_default-other-2.not-Quantifier other.0 other.1),
)

pub TermContentEq::content_eq-returns-in-Character-other : goal.TermContentEq::content_eq-returns-in-Character-other
TermContentEq::content_eq-returns-in-Character-other t c =
    let a = c.in-Character.it in
    let b = c.in-Character-other.that in
    let x = forget_character same_kind a in
    let y = forget_character same_kind b in
    by_held (λ k. leaf (tree.character k)) (character_or x) x y _ _ refl refl
    (ap node_of c.in-Character.is ∙ ap (forget_node same_kind) (character_is a))
    (ap node_of c.in-Character-other.is ∙ ap (forget_node same_kind) (character_is b))
    c.content_eq-in-Character-other.ensures

pub TermContentEq::content_eq-returns-in_default-other-3 : goal.TermContentEq::content_eq-returns-in_default-other-3
TermContentEq::content_eq-returns-in_default-other-3 t c = (
  λ f. absurd (true≢false (sym f)),
  λ same. let other = one_variant c.args.self.now c.args.other.now _ (ap mirror_term c.in-Character.is ∙ character_is c.in-Character.it) same in absurd (c.in_default-other-3.not-Character other.0 other.1),
)

pub TermContentEq::content_eq-returns-in-Dot-other : goal.TermContentEq::content_eq-returns-in-Dot-other
TermContentEq::content_eq-returns-in-Dot-other t c =
    let a = c.in-Dot.it in
    let b = c.in-Dot-other.that in
    let x = record a { span = nowhere } in
    let y = record b { span = nowhere } in
    by_held (λ k. leaf (tree.dot k)) (dot_or x) x y _ _ refl refl
    (ap node_of c.in-Dot.is ∙ ap (forget_node same_kind) (dot_is a))
    (ap node_of c.in-Dot-other.is ∙ ap (forget_node same_kind) (dot_is b))
    c.content_eq-in-Dot-other.ensures

pub TermContentEq::content_eq-returns-in_default-other-4 : goal.TermContentEq::content_eq-returns-in_default-other-4
TermContentEq::content_eq-returns-in_default-other-4 t c = (
  λ f. absurd (true≢false (sym f)),
  λ same. let other = one_variant c.args.self.now c.args.other.now _ (ap mirror_term c.in-Dot.is ∙ dot_is c.in-Dot.it) same in absurd (c.in_default-other-4.not-Dot other.0 other.1),
)

pub TermContentEq::content_eq-returns-in-CharacterClassEscape-other : goal.TermContentEq::content_eq-returns-in-CharacterClassEscape-other
TermContentEq::content_eq-returns-in-CharacterClassEscape-other t c =
    let a = c.in-CharacterClassEscape.it in
    let b = c.in-CharacterClassEscape-other.that in
    let x = record a { span = nowhere } in
    let y = record b { span = nowhere } in
    by_held (λ k. leaf (tree.class_escape k)) (escape_or x) x y _ _ refl refl
    (ap node_of c.in-CharacterClassEscape.is ∙ ap (forget_node same_kind) (escape_is a))
    (ap node_of c.in-CharacterClassEscape-other.is ∙ ap (forget_node same_kind) (escape_is b))
    c.content_eq-in-CharacterClassEscape-other.ensures

pub TermContentEq::content_eq-returns-in_default-other-5 : goal.TermContentEq::content_eq-returns-in_default-other-5
TermContentEq::content_eq-returns-in_default-other-5 t c = (
  λ f. absurd (true≢false (sym f)),
  λ same. let other = one_variant c.args.self.now c.args.other.now _ (ap mirror_term c.in-CharacterClassEscape.is ∙ escape_is c.in-CharacterClassEscape.it) same in absurd (c.in_default-other-5.not-CharacterClassEscape other.0 other.1),
)

pub TermContentEq::content_eq-returns-in-UnicodePropertyEscape-other : goal.TermContentEq::content_eq-returns-in-UnicodePropertyEscape-other
TermContentEq::content_eq-returns-in-UnicodePropertyEscape-other t c =
    let a = c.in-UnicodePropertyEscape.it in
    let b = c.in-UnicodePropertyEscape-other.that in
    let x = record a.value { span = nowhere } in
    let y = record b.value { span = nowhere } in
    by_held (λ k. leaf (tree.property k)) (property_or x) x y _ _ refl refl
    (ap node_of c.in-UnicodePropertyEscape.is ∙ ap (forget_node same_kind) (property_is a))
    (ap node_of c.in-UnicodePropertyEscape-other.is ∙ ap (forget_node same_kind) (property_is b))
    c.content_eq-in-UnicodePropertyEscape-other.ensures

pub TermContentEq::content_eq-returns-in_default-other-6 : goal.TermContentEq::content_eq-returns-in_default-other-6
TermContentEq::content_eq-returns-in_default-other-6 t c = (
  λ f. absurd (true≢false (sym f)),
  λ same. let other = one_variant c.args.self.now c.args.other.now _ (ap mirror_term c.in-UnicodePropertyEscape.is ∙ property_is c.in-UnicodePropertyEscape.it) same in absurd (c.in_default-other-6.not-UnicodePropertyEscape other.0 other.1),
)

pub TermContentEq::content_eq-returns-in-CharacterClass-other : goal.TermContentEq::content_eq-returns-in-CharacterClass-other
TermContentEq::content_eq-returns-in-CharacterClass-other t c =
    let a = c.in-CharacterClass.it in
    let b = c.in-CharacterClass-other.that in
    let x = class_of a.value in
    let y = class_of b.value in
    by_held (λ k. leaf (tree.class k)) (class_or x) x y _ _ refl refl
    (ap node_of c.in-CharacterClass.is ∙ ap (forget_node same_kind) (class_is a))
    (ap node_of c.in-CharacterClass-other.is ∙ ap (forget_node same_kind) (class_is b))
    c.content_eq-in-CharacterClass-other.ensures

pub TermContentEq::content_eq-returns-in_default-other-7 : goal.TermContentEq::content_eq-returns-in_default-other-7
TermContentEq::content_eq-returns-in_default-other-7 t c = (
  λ f. absurd (true≢false (sym f)),
  λ same. let other = one_variant c.args.self.now c.args.other.now _ (ap mirror_term c.in-CharacterClass.is ∙ class_is c.in-CharacterClass.it) same in absurd (c.in_default-other-7.not-CharacterClass other.0 other.1),
)

pub TermContentEq::content_eq-returns-in-CapturingGroup-other : goal.TermContentEq::content_eq-returns-in-CapturingGroup-other
TermContentEq::content_eq-returns-in-CapturingGroup-other t c =
    by_held (λ n. n) (λ n. n) _ _ _ _ refl refl
    (ap node_of c.in-CapturingGroup.is ∙ ap (forget_node same_kind) (capturing_term_is c.in-CapturingGroup.it) ∙ ap (λ k. forget_node same_kind (mirror_capturing k)) (sym c.deref-in-CapturingGroup-other.ensures))
    (ap node_of c.in-CapturingGroup-other.is ∙ ap (forget_node same_kind) (capturing_term_is c.in-CapturingGroup-other.that) ∙ ap (λ k. forget_node same_kind (mirror_capturing k)) (sym c.deref-in-CapturingGroup-other-2.ensures))
    c.content_eq-in-CapturingGroup-other.ensures

pub TermContentEq::content_eq-returns-in_default-other-8 : goal.TermContentEq::content_eq-returns-in_default-other-8
TermContentEq::content_eq-returns-in_default-other-8 t c = (
  λ f. absurd (true≢false (sym f)),
  λ same. let other = one_variant c.args.self.now c.args.other.now _ (ap mirror_term c.in-CapturingGroup.is ∙ capturing_term_is c.in-CapturingGroup.it ∙ capturing_is c.in-CapturingGroup.it.value) same in absurd (c.in_default-other-8.not-CapturingGroup other.0 other.1),
)

pub TermContentEq::content_eq-returns-in-IgnoreGroup-other : goal.TermContentEq::content_eq-returns-in-IgnoreGroup-other
TermContentEq::content_eq-returns-in-IgnoreGroup-other t c =
    by_held (λ n. n) (λ n. n) _ _ _ _ refl refl
    (ap node_of c.in-IgnoreGroup.is ∙ ap (forget_node same_kind) (ignore_term_is c.in-IgnoreGroup.it) ∙ ap (λ k. forget_node same_kind (mirror_ignore k)) (sym c.deref-in-IgnoreGroup-other.ensures))
    (ap node_of c.in-IgnoreGroup-other.is ∙ ap (forget_node same_kind) (ignore_term_is c.in-IgnoreGroup-other.that) ∙ ap (λ k. forget_node same_kind (mirror_ignore k)) (sym c.deref-in-IgnoreGroup-other-2.ensures))
    c.content_eq-in-IgnoreGroup-other.ensures

pub TermContentEq::content_eq-returns-in_default-other-9 : goal.TermContentEq::content_eq-returns-in_default-other-9
TermContentEq::content_eq-returns-in_default-other-9 t c = (
  λ f. absurd (true≢false (sym f)),
  λ same. let other = one_variant c.args.self.now c.args.other.now _ (ap mirror_term c.in-IgnoreGroup.is ∙ ignore_term_is c.in-IgnoreGroup.it ∙ ignore_is c.in-IgnoreGroup.it.value) same in absurd (c.in_default-other-9.not-IgnoreGroup other.0 other.1),
)

pub TermContentEq::content_eq-returns-in-IndexedReference-other : goal.TermContentEq::content_eq-returns-in-IndexedReference-other
TermContentEq::content_eq-returns-in-IndexedReference-other t c =
    let a = c.in-IndexedReference.it in
    let b = c.in-IndexedReference-other.that in
    let x = record a { span = nowhere } in
    let y = record b { span = nowhere } in
    by_held (λ k. leaf (tree.indexed k)) (indexed_or x) x y _ _ refl refl
    (ap node_of c.in-IndexedReference.is ∙ ap (forget_node same_kind) (indexed_is a))
    (ap node_of c.in-IndexedReference-other.is ∙ ap (forget_node same_kind) (indexed_is b))
    c.content_eq-in-IndexedReference-other.ensures

pub TermContentEq::content_eq-returns-in_default-other-10 : goal.TermContentEq::content_eq-returns-in_default-other-10
TermContentEq::content_eq-returns-in_default-other-10 t c = (
  λ f. absurd (true≢false (sym f)),
  λ same. let other = one_variant c.args.self.now c.args.other.now _ (ap mirror_term c.in-IndexedReference.is ∙ indexed_is c.in-IndexedReference.it) same in absurd (c.in_default-other-10.not-IndexedReference other.0 other.1),
)

pub TermContentEq::content_eq-returns-in-NamedReference-other : goal.TermContentEq::content_eq-returns-in-NamedReference-other
TermContentEq::content_eq-returns-in-NamedReference-other t c =
    let a = c.in-NamedReference.it in
    let b = c.in-NamedReference-other.that in
    let x = record a.value { span = nowhere } in
    let y = record b.value { span = nowhere } in
    by_held (λ k. leaf (tree.named k)) (named_or x) x y _ _ refl refl
    (ap node_of c.in-NamedReference.is ∙ ap (forget_node same_kind) (named_is a))
    (ap node_of c.in-NamedReference-other.is ∙ ap (forget_node same_kind) (named_is b))
    c.content_eq-in-NamedReference-other.ensures

pub TermContentEq::content_eq-returns-in_default-other-11 : goal.TermContentEq::content_eq-returns-in_default-other-11
TermContentEq::content_eq-returns-in_default-other-11 t c = (
  λ f. absurd (true≢false (sym f)),
  λ same. let other = one_variant c.args.self.now c.args.other.now _ (ap mirror_term c.in-NamedReference.is ∙ named_is c.in-NamedReference.it) same in absurd (c.in_default-other-11.not-NamedReference other.0 other.1),
)

pub AlternativeContentEq::content_eq-returns-then-len : goal.AlternativeContentEq::content_eq-returns-then-len
AlternativeContentEq::content_eq-returns-then-len t c = (
  λ f. absurd (true≢false (sym f)),
  λ same. let as_long = length_all_zip (λ x y. node_of x ≡ node_of y) _ _ (same_terms c.args.self.now c.args.other.now same) in let h = c.if-len.true in search rules,
)

pub AlternativeContentEq::content_eq-returns-then-not-content_eq : goal.AlternativeContentEq::content_eq-returns-then-not-content_eq
AlternativeContentEq::content_eq-returns-then-not-content_eq t c =
    let h = c.if-not-content_eq.true in
    let differ : c.content_eq.result ≡ false = search rules in (
      λ f. absurd (true≢false (sym f)),
      λ same.
          let here = same_here node_of c.loop-i-test.true c.as_slice-term-items.ensures c.as_slice-others.ensures c.term-item.is c.index-others-i.is (same_terms c.args.self.now c.args.other.now same) in
          absurd (true≢false (sym (c.content_eq.ensures.1 here) ∙ differ)),
    )

pub AlternativeContentEq::content_eq-loop-i-preserved : goal.AlternativeContentEq::content_eq-loop-i-preserved
AlternativeContentEq::content_eq-loop-i-preserved t c =
    let as_long = c.if-len.false in
    let h = c.if-not-content_eq.false in
    let equal : IsTrue c.content_eq.result = search rules in
    let within : c.loop-i.i < length c.as_slice-others.result.now = search rules in
    pairs_more (λ x y. node_of x ≡ node_of y) c.as_slice-term-items.result.now c.as_slice-others.result.now c.loop-i.i c.term-item.result c.index-others-i.result c.loop-i-test.true c.term-item.is c.index-others-i.is within c.loop-i.invariant (c.content_eq.ensures.0 equal)

pub AlternativeContentEq::content_eq-returns : goal.AlternativeContentEq::content_eq-returns
AlternativeContentEq::content_eq-returns t c =
    let as_long = c.if-len.false in
    let within : length c.as_slice-others.result.now ≤ c.loop-i.i = search rules in
    let items = all_same node_of c.loop-i-test.false within c.as_slice-term-items.ensures c.as_slice-others.ensures c.loop-i.invariant in
    (λ _. alternative_from_terms c.args.self.now c.args.other.now items, λ _. refl)

pub DisjunctionContentEq::content_eq-returns-then-len : goal.DisjunctionContentEq::content_eq-returns-then-len
DisjunctionContentEq::content_eq-returns-then-len t c = (
  λ f. absurd (true≢false (sym f)),
  λ same. let as_long = length_all_zip (λ x y. nodes_of x ≡ nodes_of y) _ _ (same_alternatives c.args.self.now c.args.other.now same) in let h = c.if-len.true in search rules,
)

pub DisjunctionContentEq::content_eq-returns-then-not-content_eq : goal.DisjunctionContentEq::content_eq-returns-then-not-content_eq
DisjunctionContentEq::content_eq-returns-then-not-content_eq t c =
    let h = c.if-not-content_eq.true in
    let differ : c.content_eq.result ≡ false = search rules in (
      λ f. absurd (true≢false (sym f)),
      λ same.
          let here = same_here nodes_of c.loop-i-test.true c.as_slice-alternative-items.ensures c.as_slice-others.ensures c.alternative-item.is c.index-others-i.is (same_alternatives c.args.self.now c.args.other.now same) in
          absurd (true≢false (sym (c.content_eq.ensures.1 here) ∙ differ)),
    )

pub DisjunctionContentEq::content_eq-loop-i-preserved : goal.DisjunctionContentEq::content_eq-loop-i-preserved
DisjunctionContentEq::content_eq-loop-i-preserved t c =
    let as_long = c.if-len.false in
    let h = c.if-not-content_eq.false in
    let equal : IsTrue c.content_eq.result = search rules in
    let within : c.loop-i.i < length c.as_slice-others.result.now = search rules in
    pairs_more (λ x y. nodes_of x ≡ nodes_of y) c.as_slice-alternative-items.result.now c.as_slice-others.result.now c.loop-i.i c.alternative-item.result c.index-others-i.result c.loop-i-test.true c.alternative-item.is c.index-others-i.is within c.loop-i.invariant (c.content_eq.ensures.0 equal)

pub DisjunctionContentEq::content_eq-returns : goal.DisjunctionContentEq::content_eq-returns
DisjunctionContentEq::content_eq-returns t c =
    let as_long = c.if-len.false in
    let within : length c.as_slice-others.result.now ≤ c.loop-i.i = search rules in
    let items = all_same nodes_of c.loop-i-test.false within c.as_slice-alternative-items.ensures c.as_slice-others.ensures c.loop-i.invariant in
    (λ _. disjunction_from_alternatives c.args.self.now c.args.other.now items, λ _. refl)

pub CapturingGroupContentEq::content_eq-returns-then-content_eq : goal.CapturingGroupContentEq::content_eq-returns-then-content_eq
CapturingGroupContentEq::content_eq-returns-then-content_eq t c =
    let some = out-CapturingGroup c.args.self.now in
    let other = out-CapturingGroup c.args.other.now in
    let h = c.if-content_eq.true in
    let equal : IsTrue c.content_eq.result = search rules in
    by_inside _ _ (tree.capturing some.name) (tree.capturing other.name) (alternatives_of some.body) (alternatives_of other.body) (ap (forget_node same_kind) (capturing_is c.args.self.now)) (ap (forget_node same_kind) (capturing_is c.args.other.now))
    (ap (λ k. tree.capturing k) (sym (all_kept some.name) ∙ from_both (λ a. a) some.name other.name (c.content_eq.ensures.0 equal) ∙ all_kept other.name))
    c.content_eq-then-content_eq.ensures

pub CapturingGroupContentEq::content_eq-returns-else-content_eq : goal.CapturingGroupContentEq::content_eq-returns-else-content_eq
CapturingGroupContentEq::content_eq-returns-else-content_eq t c =
    let some = out-CapturingGroup c.args.self.now in
    let other = out-CapturingGroup c.args.other.now in
    let h = c.if-content_eq.false in
    let differ : c.content_eq.result ≡ false = search rules in (
      λ f. absurd (true≢false (sym f ∙ differ)),
      λ same.
          let opener = same_opener _ _ (tree.capturing some.name) (tree.capturing other.name) (alternatives_of some.body) (alternatives_of other.body) (ap (forget_node same_kind) (capturing_is c.args.self.now)) (ap (forget_node same_kind) (capturing_is c.args.other.now)) same in
          c.content_eq.ensures.1 (to_both (λ a. a) some.name other.name (all_kept some.name ∙ ap (name_or some.name) opener ∙ sym (all_kept other.name))),
    )

pub IgnoreGroupContentEq::content_eq-returns-then-content_eq : goal.IgnoreGroupContentEq::content_eq-returns-then-content_eq
IgnoreGroupContentEq::content_eq-returns-then-content_eq t c =
    let some = out-IgnoreGroup c.args.self.now in
    let other = out-IgnoreGroup c.args.other.now in
    let h = c.if-content_eq.true in
    let equal : IsTrue c.content_eq.result = search rules in
    by_inside _ _ (tree.ignoring (option_map three_bits some.modifiers)) (tree.ignoring (option_map three_bits other.modifiers)) (alternatives_of some.body) (alternatives_of other.body) (ap (forget_node same_kind) (ignore_is c.args.self.now)) (ap (forget_node same_kind) (ignore_is c.args.other.now))
    (ap (λ k. tree.ignoring k) (from_both three_bits some.modifiers other.modifiers (c.content_eq.ensures.0 equal)))
    c.content_eq-then-content_eq.ensures

pub IgnoreGroupContentEq::content_eq-returns-else-content_eq : goal.IgnoreGroupContentEq::content_eq-returns-else-content_eq
IgnoreGroupContentEq::content_eq-returns-else-content_eq t c =
    let some = out-IgnoreGroup c.args.self.now in
    let other = out-IgnoreGroup c.args.other.now in
    let h = c.if-content_eq.false in
    let differ : c.content_eq.result ≡ false = search rules in (
      λ f. absurd (true≢false (sym f ∙ differ)),
      λ same.
          let opener = same_opener _ _ (tree.ignoring (option_map three_bits some.modifiers)) (tree.ignoring (option_map three_bits other.modifiers)) (alternatives_of some.body) (alternatives_of other.body) (ap (forget_node same_kind) (ignore_is c.args.self.now)) (ap (forget_node same_kind) (ignore_is c.args.other.now)) same in
          c.content_eq.ensures.1 (to_both three_bits some.modifiers other.modifiers (ap (modifiers_or (option_map three_bits some.modifiers)) opener)),
    )

pub LookAroundAssertionContentEq::content_eq-returns-then-content_eq : goal.LookAroundAssertionContentEq::content_eq-returns-then-content_eq
LookAroundAssertionContentEq::content_eq-returns-then-content_eq t c =
    let some = out-LookAroundAssertion c.args.self.now in
    let other = out-LookAroundAssertion c.args.other.now in
    let h = c.if-content_eq.true in
    let equal : IsTrue c.content_eq.result = search rules in
    by_inside _ _ (tree.looking some.kind) (tree.looking other.kind) (alternatives_of some.body) (alternatives_of other.body) (ap (forget_node same_kind) (look_is c.args.self.now)) (ap (forget_node same_kind) (look_is c.args.other.now))
    (ap (λ k. tree.looking k) (c.content_eq.ensures.0 equal))
    c.content_eq-then-content_eq.ensures

pub LookAroundAssertionContentEq::content_eq-returns-else-content_eq : goal.LookAroundAssertionContentEq::content_eq-returns-else-content_eq
LookAroundAssertionContentEq::content_eq-returns-else-content_eq t c =
    let some = out-LookAroundAssertion c.args.self.now in
    let other = out-LookAroundAssertion c.args.other.now in
    let h = c.if-content_eq.false in
    let differ : c.content_eq.result ≡ false = search rules in (
      λ f. absurd (true≢false (sym f ∙ differ)),
      λ same.
          let opener = same_opener _ _ (tree.looking some.kind) (tree.looking other.kind) (alternatives_of some.body) (alternatives_of other.body) (ap (forget_node same_kind) (look_is c.args.self.now)) (ap (forget_node same_kind) (look_is c.args.other.now)) same in
          c.content_eq.ensures.1 (ap (look_or some.kind) opener),
    )

pub QuantifierContentEq::content_eq-returns-then-have_same_head : goal.QuantifierContentEq::content_eq-returns-then-have_same_head
QuantifierContentEq::content_eq-returns-then-have_same_head t c =
    let h = c.if-have_same_head.true in
    let equal : IsTrue c.have_same_head.result = search rules in
    by_repeated c.args.self.now c.args.other.now (c.have_same_head.ensures.0 equal) c.content_eq.ensures

pub QuantifierContentEq::content_eq-returns-else-have_same_head : goal.QuantifierContentEq::content_eq-returns-else-have_same_head
QuantifierContentEq::content_eq-returns-else-have_same_head t c =
    let h = c.if-have_same_head.false in
    let differ : c.have_same_head.result ≡ false = search rules in
    (λ f. absurd (true≢false (sym f ∙ differ)), λ same. c.have_same_head.ensures.1 (same_head c.args.self.now c.args.other.now same))
