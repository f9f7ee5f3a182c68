-- What is asked for is not left in the rewritten pattern.
use Rattle.std.proofs.Common.{◌≡◌, refl, subst, sym, ℕ, Bool, true, false, if◌then◌else◌, Option, Some, None, List}
use Rattle.std.proofs.lemmas.Bool.{true≢false}
use Rattle.rx_ast.specs.declared.leaf.BoundaryAssertion.{BoundaryAssertion}
use Rattle.rx_ast.specs.declared.leaf.BoundaryAssertionKind.{BoundaryAssertionKind}
use Rattle.rx_ast.specs.declared.leaf.BoundaryAssertionKind.TheVariants as at
use Rattle.rx_ast.specs.declared.leaf.Dot.{Dot}
use Rattle.rx_ast.specs.declared.leaf.LookAroundAssertionKind.{LookAroundAssertionKind}
use Rattle.rx_ast.specs.declared.leaf.LookAroundAssertionKind.TheVariants as look
use Rattle.rx_ast.specs.declared.leaf.Modifiers.{Modifiers}
use Rattle.rx_ast.specs.declared.leaf.NamedReference.{NamedReference}
use Rattle.rx_ast.specs.Tree as tree
use Rattle.rx_ast.specs.Tree.{Leaf, Opener, Node, Nodes, Alternatives, Whole, leaf, quantified, group, no_node, node, no_alternative, alternative, capturing, ignoring, looking}
use Rattle.rx_trace.specs.declared.answer.MatchFlags.{MatchFlags}
use Rattle.rx_trace.specs.Answers.{settings}
use Rattle.rx_trace.specs.Groups.{Names, names_in_each}
use Rattle.rx_trace.specs.declared.settings.Settings.{Settings}
use Rattle.rx_trace.specs.Matching.{update_settings}
use Rattle.rx_rewrite.specs.declared.rewrites.Rewrites.{Rewrites}
use Rattle.rx_rewrite.specs.Asked.{HoldsIn, HoldsInAll, HoldsInEach, OfAnyLeaf, OfAnyOpener, IsNotNamed, HasNoName, IsDotInLine, IsEndIn, IsEndOfInput, HasNoLineModifier, HasNoNames, HasDotsInLine, HasEndsOfInput, HasNoLineModifiers}
use Rattle.rx_rewrite.specs.Rewriting.{number_of, dot_rewritten, end_rewritten, boundary_rewritten, modifiers_kept, modifiers_rewritten, name_rewritten, leaf_rewritten, node_rewritten, nodes_rewritten, alternatives_rewritten, flags_rewritten, rewritten}
use Rattle.rx_rewrite.proofs.Modifiers.{of_case, lacks_case, has_neither}
use Rattle.rx_rewrite.proofs.LeafRewrites.{leaf-all}

-- It holds of the rewritten tree, where it holds of what each leaf and each opener becomes.
module _ (what : Rewrites) (names : Names) (P : Settings → Leaf → Type 0) (Q : Opener → Type 0)
    (of_leaf : (old new : Settings) (l : Leaf) → HoldsIn P Q new (leaf_rewritten what names old new l))
    (of_name : (name : Option (List ℕ)) → Q (capturing (name_rewritten what names name)))
    (of_modifiers : (m : Option Modifiers) → Q (ignoring (modifiers_rewritten what names m)))
    (of_look : (k : LookAroundAssertionKind) → Q (looking k)) where
  mutual
    left-node : (old new : Settings) (n : Node) → HoldsIn P Q new (node_rewritten what names old new n)
    left-node old new (leaf l) = of_leaf old new l
    left-node old new (quantified s min max greedy n) = left-node old new n
    left-node old new (group s (capturing name) d more) = (of_name name, left-each old new more)
    left-node old new (group s (ignoring m) d more) = (of_modifiers m, left-each (update_settings m old) (update_settings (modifiers_rewritten what names m) new) more)
    left-node old new (group s (looking kind) d more) = (of_look kind, left-each old new more)

    left-all : (old new : Settings) (ns : Nodes) → HoldsInAll P Q new (nodes_rewritten what names old new ns)
    left-all old new no_node = tt
    left-all old new (node n ns) = (left-node old new n, left-all old new ns)

    left-each : (old new : Settings) (more : Alternatives) → HoldsInEach P Q new (alternatives_rewritten what names old new more)
    left-each old new no_alternative = tt
    left-each old new (alternative s ns more) = (left-all old new ns, left-each old new more)

  left-pattern : (flags : MatchFlags) (tree : Alternatives) → HoldsInEach P Q (settings (flags_rewritten what flags)) (alternatives_rewritten what names (settings flags) (settings (flags_rewritten what flags)) tree)
  left-pattern flags tree = left-each (settings flags) (settings (flags_rewritten what flags)) tree

module _ (what : Rewrites) (names : Names) where
  -- names
  reference-left : (asked : Bool) → asked ≡ true → (r : NamedReference) (e : Settings) →
      HoldsIn IsNotNamed HasNoName e (leaf (if asked then tree.indexed (record { span = r.span; index = number_of r.name names }) else tree.named r))
  reference-left true is r e = tt
  reference-left false is r e = absurd (true≢false (sym is))

  named-leaf : what.named_capture_groups ≡ true → (old new : Settings) (l : Leaf) → HoldsIn IsNotNamed HasNoName new (leaf_rewritten what names old new l)
  named-leaf asked old new (tree.boundary b) = leaf-all what names (HoldsIn IsNotNamed HasNoName new) old new (tree.boundary b) (tt, λ k. ((tt, ((tt, tt), tt)), (tt, ((tt, tt), tt))))
  named-leaf asked old new (tree.character c) = tt
  named-leaf asked old new (tree.dot d) = leaf-all what names (HoldsIn IsNotNamed HasNoName new) old new (tree.dot d) (tt, tt, tt)
  named-leaf asked old new (tree.class_escape k) = tt
  named-leaf asked old new (tree.property p) = tt
  named-leaf asked old new (tree.class k) = tt
  named-leaf asked old new (tree.indexed r) = tt
  named-leaf asked old new (tree.named r) = reference-left what.named_capture_groups asked r new

  name-left : (asked : Bool) → asked ≡ true → (name : Option (List ℕ)) → (if asked then None else name) ≡ None
  name-left true is name = refl
  name-left false is name = absurd (true≢false (sym is))

  -- `.` under `dot_all`
  dot-left : (asked : Bool) → asked ≡ true → (old new m : Bool) (d : Dot) → HoldsIn IsDotInLine OfAnyOpener (record { multiline = m; dot_all = new }) (dot_rewritten asked old new d)
  dot-left true is true true m d = tt
  dot-left false is true true m d = absurd (true≢false (sym is))
  dot-left asked is true false m d = tt
  dot-left asked is false true m d = tt
  dot-left asked is false false m d = refl

  dot-leaf : what.dot_all ≡ true → (old new : Settings) (l : Leaf) → HoldsIn IsDotInLine OfAnyOpener new (leaf_rewritten what names old new l)
  dot-leaf asked old new (tree.boundary b) = leaf-all what names (HoldsIn IsDotInLine OfAnyOpener new) old new (tree.boundary b) (tt, λ k. ((tt, ((tt, tt), tt)), (tt, ((tt, tt), tt))))
  dot-leaf asked old new (tree.character c) = tt
  dot-leaf asked old new (tree.dot d) = dot-left what.dot_all asked old.dot_all new.dot_all new.multiline d
  dot-leaf asked old new (tree.class_escape k) = tt
  dot-leaf asked old new (tree.property p) = tt
  dot-leaf asked old new (tree.class k) = tt
  dot-leaf asked old new (tree.indexed r) = tt
  dot-leaf asked old new (tree.named r) = reference-any what.named_capture_groups
    where
      reference-any : (asked : Bool) → HoldsIn IsDotInLine OfAnyOpener new (leaf (if asked then tree.indexed (record { span = r.span; index = number_of r.name names }) else tree.named r))
      reference-any true = tt
      reference-any false = tt

  -- `^` and `$` under `multiline`
  end-left : (asked : Bool) → asked ≡ true → (k : LookAroundAssertionKind) (old new d : Bool) (b : BoundaryAssertion)
      → ((e : Settings) → e.multiline ≡ false → IsEndIn e b.kind) → HoldsIn IsEndOfInput OfAnyOpener (record { multiline = new; dot_all = d }) (end_rewritten asked old new k b)
  end-left true is k true true d b plain = (tt, ((tt, tt), tt))
  end-left false is k true true d b plain = absurd (true≢false (sym is))
  end-left asked is k true false d b plain = (tt, ((tt, tt), tt))
  end-left asked is k false true d b plain = (tt, ((tt, tt), tt))
  end-left asked is k false false d b plain = plain (record { multiline = false; dot_all = d }) refl

  boundary-left : (asked : Bool) → asked ≡ true → (old new : Settings) (k : BoundaryAssertionKind) (b : BoundaryAssertion) → k ≡ b.kind →
      HoldsIn IsEndOfInput OfAnyOpener new (boundary_rewritten asked old.multiline new.multiline k b)
  boundary-left asked is old new at.Start b kind = end-left asked is look.NegativeLookbehind old.multiline new.multiline new.dot_all b (λ e plain. subst (IsEndIn e) kind plain)
  boundary-left asked is old new at.End b kind = end-left asked is look.NegativeLookahead old.multiline new.multiline new.dot_all b (λ e plain. subst (IsEndIn e) kind plain)
  boundary-left asked is old new at.Boundary b kind = subst (IsEndIn new) kind tt
  boundary-left asked is old new at.NegativeBoundary b kind = subst (IsEndIn new) kind tt
  boundary-left asked is old new at.StartBuffer b kind = subst (IsEndIn new) kind tt
  boundary-left asked is old new at.EndBuffer b kind = subst (IsEndIn new) kind tt
  boundary-left asked is old new at.EndBufferOptionalNewline b kind = subst (IsEndIn new) kind tt

  end-leaf : what.multiline ≡ true → (old new : Settings) (l : Leaf) → HoldsIn IsEndOfInput OfAnyOpener new (leaf_rewritten what names old new l)
  end-leaf asked old new (tree.boundary b) = boundary-left what.multiline asked old new b.kind b refl
  end-leaf asked old new (tree.character c) = tt
  end-leaf asked old new (tree.dot d) = leaf-all what names (HoldsIn IsEndOfInput OfAnyOpener new) old new (tree.dot d) (tt, tt, tt)
  end-leaf asked old new (tree.class_escape k) = tt
  end-leaf asked old new (tree.property p) = tt
  end-leaf asked old new (tree.class k) = tt
  end-leaf asked old new (tree.indexed r) = tt
  end-leaf asked old new (tree.named r) = reference-any what.named_capture_groups
    where
      reference-any : (asked : Bool) → HoldsIn IsEndOfInput OfAnyOpener new (leaf (if asked then tree.indexed (record { span = r.span; index = number_of r.name names }) else tree.named r))
      reference-any true = tt
      reference-any false = tt

  -- modifiers
  any-leaf : (old new : Settings) (l : Leaf) → HoldsIn OfAnyLeaf HasNoLineModifier new (leaf_rewritten what names old new l)
  any-leaf old new (tree.boundary b) = leaf-all what names (HoldsIn OfAnyLeaf HasNoLineModifier new) old new (tree.boundary b) (tt, λ k. ((tt, ((tt, tt), tt)), (tt, ((tt, tt), tt))))
  any-leaf old new (tree.character c) = tt
  any-leaf old new (tree.dot d) = leaf-all what names (HoldsIn OfAnyLeaf HasNoLineModifier new) old new (tree.dot d) (tt, tt, tt)
  any-leaf old new (tree.class_escape k) = tt
  any-leaf old new (tree.property p) = tt
  any-leaf old new (tree.class k) = tt
  any-leaf old new (tree.indexed r) = tt
  any-leaf old new (tree.named r) = tt

  kept-left : (m : Option Modifiers) → HasNoLineModifier (ignoring (modifiers_kept m))
  kept-left None = tt
  kept-left (Some m) = by_test (lacks_case m)
    where
      by_test : (b : Bool) → HasNoLineModifier (ignoring (if b then None else Some (of_case m)))
      by_test true = tt
      by_test false = has_neither m

  modifiers-left : (asked : Bool) → asked ≡ true → (m : Option Modifiers) → HasNoLineModifier (ignoring (if asked then modifiers_kept m else m))
  modifiers-left true is m = kept-left m
  modifiers-left false is m = absurd (true≢false (sym is))

module _ (what : Rewrites) (flags : MatchFlags) (p : Whole) where
  pub names_left : what.named_capture_groups ≡ true → HasNoNames (flags_rewritten what flags) (rewritten what flags p)
  names_left asked =
      let names = names_in_each p.1.1 in
      left-pattern what names IsNotNamed HasNoName (named-leaf what names asked) (name-left what names what.named_capture_groups asked) (λ m. tt) (λ k. tt) flags p.1.1

  pub dots_left : what.dot_all ≡ true → HasDotsInLine (flags_rewritten what flags) (rewritten what flags p)
  dots_left asked = let names = names_in_each p.1.1 in left-pattern what names IsDotInLine OfAnyOpener (dot-leaf what names asked) (λ name. tt) (λ m. tt) (λ k. tt) flags p.1.1

  pub ends_left : what.multiline ≡ true → HasEndsOfInput (flags_rewritten what flags) (rewritten what flags p)
  ends_left asked = let names = names_in_each p.1.1 in left-pattern what names IsEndOfInput OfAnyOpener (end-leaf what names asked) (λ name. tt) (λ m. tt) (λ k. tt) flags p.1.1

  pub modifiers_left : what.pattern_modifiers ≡ true → HasNoLineModifiers (flags_rewritten what flags) (rewritten what flags p)
  modifiers_left asked =
      let names = names_in_each p.1.1 in
      left-pattern what names OfAnyLeaf HasNoLineModifier (any-leaf what names) (λ name. tt) (modifiers-left what names what.pattern_modifiers asked) (λ k. tt) flags p.1.1
