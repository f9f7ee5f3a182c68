-- From each state the trace of the rewritten tree follows that of the tree.
use Rattle.std.proofs.Common.{◌≡◌, refl, ap, sym, subst, ◌∙◌, ℕ, suc, ◌+◌, ◌-◌, Bool, true, false, not, ◌==◌, ◌||◌, ◌&&◌, if◌then◌else◌, Option, Some, None, List, [], ◌∷◌, ◌++◌, length}
use Rattle.rx_base.specs.declared.span.Span.{Span}
use Rattle.rx_ast.specs.declared.leaf.BoundaryAssertion.{BoundaryAssertion}
use Rattle.rx_ast.specs.declared.leaf.BoundaryAssertionKind.{BoundaryAssertionKind}
use Rattle.rx_ast.specs.declared.leaf.BoundaryAssertionKind.TheVariants as at
use Rattle.rx_ast.specs.declared.leaf.Dot.{Dot}
use Rattle.rx_ast.specs.declared.leaf.NamedReference.{NamedReference}
use Rattle.rx_ast.specs.declared.leaf.LookAroundAssertionKind.TheVariants as look
use Rattle.rx_ast.specs.ClassTree.{Class}
use Rattle.rx_ast.specs.Tree as tree
use Rattle.rx_ast.specs.Tree.{Leaf, Node, Nodes, Alternatives, leaf, quantified, group, no_node, node, no_alternative, alternative, capturing, ignoring, looking}
use Rattle.rx_model.specs.Trees.Names.{AreDistinct}
use Rattle.rx_trace.specs.Traces.{State, Trace, tick, reached, and_then, front, first, states}
use Rattle.rx_trace.specs.Holding.{is_line_terminator, class_holds, holds_at, is_nothing, ahead, unit_before, boundary_holds}
use Rattle.rx_trace.specs.Groups.{Names, groups_in, groups_in_all, unset_in, with_capture}
use Rattle.rx_trace.specs.Repeats.{repeat_trace}
use Rattle.rx_trace.specs.declared.settings.Settings.{Settings}
use Rattle.rx_trace.specs.Matching.{update_settings, move_to, place_if_held, if_holds, where_none, looks_back, over_unit, back_reference_trace, leaf_trace, node_trace, nodes_trace, alternatives_trace}
use Rattle.rx_rewrite.specs.declared.rewrites.Rewrites.{Rewrites}
use Rattle.rx_rewrite.specs.Rewriting.{number_of, any_unit, no_line_terminator, look_for, dot_rewritten, end_rewritten, boundary_rewritten, modifiers_rewritten, leaf_rewritten, node_rewritten, nodes_rewritten, alternatives_rewritten}
use Rattle.rx_rewrite.proofs.Follows.{Follows, one_tick, two_ticks, follow-itself, follow-states, follow-then, follow-append, follow-look, follow-repeat}
use Rattle.rx_rewrite.proofs.NamedSlots.{given_names, named_slot}
use Rattle.rx_rewrite.proofs.SameGroups.{groups-node, groups-all}

-- A negative look-around for a class takes a Tick for the class, and stays where it is where no unit that is held stands beside it.
none_after : (holds : ℕ → Bool) (o : Option ℕ) (p : ℕ) (s : State) →
    front ((tick ∷ move_to (place_if_held holds p o) s ++ []) ++ []) ++ where_none (first ((move_to (place_if_held holds p o) s ++ []) ++ [])) s ≡ tick ∷ if_holds (not (holds_at holds o)) s
none_after holds None p s = refl
none_after holds (Some c) p s = by_test (holds c)
  where
    by_test : (b : Bool) → let t = move_to (if b then Some p else None) s in front ((tick ∷ t ++ []) ++ []) ++ where_none (first ((t ++ []) ++ [])) s ≡ tick ∷ if_holds (not b) s
    by_test true = refl
    by_test false = refl

none_ahead : (holds : ℕ → Bool) (o : Option ℕ) (p : ℕ) (s : State) →
    let t = and_then (move_to (place_if_held holds p o) s) (λ w. reached w ∷ []) in front ((tick ∷ t) ++ []) ++ where_none (first (t ++ [])) s ≡ tick ∷ if_holds (not (holds_at holds o)) s
none_ahead holds None p s = refl
none_ahead holds (Some c) p s = by_test (holds c)
  where
    by_test : (b : Bool) → let t = and_then (move_to (if b then Some p else None) s) (λ w. reached w ∷ []) in front ((tick ∷ t) ++ []) ++ where_none (first (t ++ [])) s ≡ tick ∷ if_holds (not b) s
    by_test true = refl
    by_test false = refl

-- what `[^\n\r\u2028\u2029]` holds
not_of_four : (a b c d : Bool) → not (a || (b || (c || (d || false)))) ≡ not (a || b || c || d)
not_of_four true b c d = refl
not_of_four false true c d = refl
not_of_four false false true d = refl
not_of_four false false false true = refl
not_of_four false false false false = refl

holds_no_terminator : (span : Span) (c : ℕ) → class_holds (no_line_terminator span) c ≡ not (is_line_terminator c)
holds_no_terminator span c = not_of_four (c == 10) (c == 13) (c == 0x2028) (c == 0x2029)

-- An end of a line is where no unit stands, or a line terminator.
end_of_line : (span : Span) (o : Option ℕ) → not (holds_at (class_holds (no_line_terminator span)) o) ≡ (is_nothing o || (true && holds_at is_line_terminator o))
end_of_line span None = refl
end_of_line span (Some c) = ap not (holds_no_terminator span c) ∙ twice (is_line_terminator c)
  where
    twice : (b : Bool) → not (not b) ≡ (false || (true && b))
    twice true = refl
    twice false = refl

-- An end of the input is where no unit stands.
end_of_input : (span : Span) (o : Option ℕ) → not (holds_at (class_holds (any_unit span)) o) ≡ (is_nothing o || (false && holds_at is_line_terminator o))
end_of_input span None = refl
end_of_input span (Some c) = refl

module _ (input : List ℕ) (names : Names) where
  look_behind_for : (span : Span) (c : Class) (e : Settings) (back : Bool) (before : ℕ) (s : State) →
      node_trace input names (look_for span look.NegativeLookbehind c) e back before s ≡ tick ∷ tick ∷ if_holds (not (holds_at (class_holds c) (unit_before input s.place))) s
  look_behind_for span c e back before s = ap (λ t. tick ∷ t) (none_after (class_holds c) (unit_before input s.place) (s.place - 1) s)

  look_ahead_for : (span : Span) (c : Class) (e : Settings) (back : Bool) (before : ℕ) (s : State) →
      node_trace input names (look_for span look.NegativeLookahead c) e back before s ≡ tick ∷ tick ∷ if_holds (not (holds_at (class_holds c) (ahead input s.place))) s
  look_ahead_for span c e back before s = ap (λ t. tick ∷ t) (none_ahead (class_holds c) (ahead input s.place) (s.place + 1) s)

  -- What a boundary is rewritten to holds where the boundary does.
  abbrev StandsFor : Bool → BoundaryAssertionKind → Settings → Bool → ℕ → State → Node → Type 0
  StandsFor multiline k e back before s n = Follows (tick ∷ if_holds (boundary_holds multiline input k s.place) s) (node_trace input names n e back before s)

  same_boundary : (e : Settings) (k : BoundaryAssertionKind) (b : BoundaryAssertion) → k ≡ b.kind → (back : Bool) (before : ℕ) (s : State) →
      StandsFor e.multiline k e back before s (leaf (tree.boundary b))
  same_boundary e k b is back before s =
      let t = tick ∷ if_holds (boundary_holds e.multiline input k s.place) s in
      subst (Follows t) (ap (λ k. tick ∷ if_holds (boundary_holds e.multiline input k s.place) s) is) (follow-itself t)

  look_follows : (holds one : Bool) (s : State) (n : Node) (e : Settings) (back : Bool) (before : ℕ) →
      node_trace input names n e back before s ≡ tick ∷ tick ∷ if_holds holds s → holds ≡ one → Follows (tick ∷ if_holds one s) (node_trace input names n e back before s)
  look_follows holds one s n e back before is same =
      subst (Follows (tick ∷ if_holds one s)) (sym (is ∙ ap (λ h. tick ∷ tick ∷ if_holds h s) same)) (two_ticks (if_holds one s) (if_holds one s) (follow-itself (if_holds one s)))

  start_follows : (asked old new d : Bool) (b : BoundaryAssertion) → at.Start ≡ b.kind → (back : Bool) (before : ℕ) (s : State) →
      StandsFor old at.Start (record { multiline = new; dot_all = d }) back before s (end_rewritten asked old new look.NegativeLookbehind b)
  start_follows asked old new d b is back before s = by_settings asked old new
    where
      for_class : (e : Settings) (c : Class) (one : Bool) → not (holds_at (class_holds c) (unit_before input s.place)) ≡ one → Follows (tick ∷ if_holds one s) (node_trace input names (look_for b.span look.NegativeLookbehind c) e back before s)
      for_class e c one same = look_follows (not (holds_at (class_holds c) (unit_before input s.place))) one s (look_for b.span look.NegativeLookbehind c) e back before (look_behind_for b.span c e back before s) same

      by_settings : (asked old new : Bool) → StandsFor old at.Start (record { multiline = new; dot_all = d }) back before s (end_rewritten asked old new look.NegativeLookbehind b)
      by_settings true true true = for_class (record { multiline = true; dot_all = d }) (no_line_terminator b.span) _ (end_of_line b.span (unit_before input s.place))
      by_settings false true true = same_boundary (record { multiline = true; dot_all = d }) at.Start b is back before s
      by_settings asked true false = for_class (record { multiline = false; dot_all = d }) (no_line_terminator b.span) _ (end_of_line b.span (unit_before input s.place))
      by_settings asked false true = for_class (record { multiline = true; dot_all = d }) (any_unit b.span) _ (end_of_input b.span (unit_before input s.place))
      by_settings asked false false = same_boundary (record { multiline = false; dot_all = d }) at.Start b is back before s

  end_follows : (asked old new d : Bool) (b : BoundaryAssertion) → at.End ≡ b.kind → (back : Bool) (before : ℕ) (s : State) →
      StandsFor old at.End (record { multiline = new; dot_all = d }) back before s (end_rewritten asked old new look.NegativeLookahead b)
  end_follows asked old new d b is back before s = by_settings asked old new
    where
      for_class : (e : Settings) (c : Class) (one : Bool) → not (holds_at (class_holds c) (ahead input s.place)) ≡ one → Follows (tick ∷ if_holds one s) (node_trace input names (look_for b.span look.NegativeLookahead c) e back before s)
      for_class e c one same = look_follows (not (holds_at (class_holds c) (ahead input s.place))) one s (look_for b.span look.NegativeLookahead c) e back before (look_ahead_for b.span c e back before s) same

      by_settings : (asked old new : Bool) → StandsFor old at.End (record { multiline = new; dot_all = d }) back before s (end_rewritten asked old new look.NegativeLookahead b)
      by_settings true true true = for_class (record { multiline = true; dot_all = d }) (no_line_terminator b.span) _ (end_of_line b.span (ahead input s.place))
      by_settings false true true = same_boundary (record { multiline = true; dot_all = d }) at.End b is back before s
      by_settings asked true false = for_class (record { multiline = false; dot_all = d }) (no_line_terminator b.span) _ (end_of_line b.span (ahead input s.place))
      by_settings asked false true = for_class (record { multiline = true; dot_all = d }) (any_unit b.span) _ (end_of_input b.span (ahead input s.place))
      by_settings asked false false = same_boundary (record { multiline = false; dot_all = d }) at.End b is back before s

  boundary_follows : (asked : Bool) (old new : Settings) (k : BoundaryAssertionKind) (b : BoundaryAssertion) → k ≡ b.kind → (back : Bool) (before : ℕ) (s : State) →
      StandsFor old.multiline k new back before s (boundary_rewritten asked old.multiline new.multiline k b)
  boundary_follows asked old new at.Start b is back before s = start_follows asked old.multiline new.multiline new.dot_all b is back before s
  boundary_follows asked old new at.End b is back before s = end_follows asked old.multiline new.multiline new.dot_all b is back before s
  boundary_follows asked old new at.Boundary b is back before s = same_boundary new at.Boundary b is back before s
  boundary_follows asked old new at.NegativeBoundary b is back before s = same_boundary new at.NegativeBoundary b is back before s
  boundary_follows asked old new at.StartBuffer b is back before s = same_boundary new at.StartBuffer b is back before s
  boundary_follows asked old new at.EndBuffer b is back before s = same_boundary new at.EndBuffer b is back before s
  boundary_follows asked old new at.EndBufferOptionalNewline b is back before s = same_boundary new at.EndBufferOptionalNewline b is back before s

  -- over a unit, by two tests that agree
  same_unit : (back : Bool) (f g : ℕ → Bool) → ((c : ℕ) → f c ≡ g c) → (s : State) → over_unit input back f s ≡ over_unit input back g s
  same_unit false f g agree s = held (ahead input s.place)
    where
      held : (o : Option ℕ) → move_to (place_if_held f (s.place + 1) o) s ≡ move_to (place_if_held g (s.place + 1) o) s
      held None = refl
      held (Some c) = ap (λ b. move_to (if b then Some (s.place + 1) else None) s) (agree c)
  same_unit true f g agree s = held (unit_before input s.place)
    where
      held : (o : Option ℕ) → move_to (place_if_held f (s.place - 1) o) s ≡ move_to (place_if_held g (s.place - 1) o) s
      held None = refl
      held (Some c) = ap (λ b. move_to (if b then Some (s.place - 1) else None) s) (agree c)

  -- `.` and what it is rewritten to hold the same units.
  same_dot : (asked old new m : Bool) (d : Dot) (back : Bool) (before : ℕ) (s : State) →
      node_trace input names (dot_rewritten asked old new d) (record { multiline = m; dot_all = new }) back before s ≡ tick ∷ over_unit input back (λ u. old || not (is_line_terminator u)) s
  same_dot true true true m d back before s = ap (λ t. tick ∷ t) (same_unit back (class_holds (any_unit d.span)) (λ u. true) (λ c. refl) s)
  same_dot false true true m d back before s = refl
  same_dot asked true false m d back before s = ap (λ t. tick ∷ t) (same_unit back (class_holds (any_unit d.span)) (λ u. true) (λ c. refl) s)
  same_dot asked false true m d back before s =
      ap (λ t. tick ∷ t) (same_unit back (class_holds (no_line_terminator d.span)) (λ u. not (is_line_terminator u)) (λ c. holds_no_terminator d.span c) s)
  same_dot asked false false m d back before s = refl

module _ (input : List ℕ) (what : Rewrites) (names new_names : Names)
    (distinct : what.named_capture_groups ≡ true → AreDistinct (given_names names)) (stay : what.named_capture_groups ≡ false → new_names ≡ names) where
  same_reference : (asked : Bool) → what.named_capture_groups ≡ asked → (r : NamedReference) (e old : Settings) (back : Bool) (before : ℕ) (s : State) →
      node_trace input new_names (leaf (if asked then tree.indexed (record { span = r.span; index = number_of r.name names }) else tree.named r)) e back before s
      ≡ tick ∷ leaf_trace input names old back (tree.named r) s
  same_reference true is r e old back before s = ap (λ slot. tick ∷ back_reference_trace input back slot s) (sym (named_slot r.name names s.slots (distinct is)))
  same_reference false is r e old back before s = ap (λ table. tick ∷ leaf_trace input table e back (tree.named r) s) (stay is)

  equal_follows : (t u : Trace) → u ≡ t → Follows t u
  equal_follows t u same = subst (Follows t) (sym same) (follow-itself t)

  leaf_follows : (l : Leaf) (old new : Settings) (back : Bool) (before : ℕ) (s : State) →
      Follows (tick ∷ leaf_trace input names old back l s) (node_trace input new_names (leaf_rewritten what names old new l) new back before s)
  leaf_follows (tree.boundary b) old new back before s = boundary_follows input new_names what.multiline old new b.kind b refl back before s
  leaf_follows (tree.character c) old new back before s = follow-itself _
  leaf_follows (tree.dot d) old new back before s = equal_follows _ _ (same_dot input new_names what.dot_all old.dot_all new.dot_all new.multiline d back before s)
  leaf_follows (tree.class_escape k) old new back before s = follow-itself _
  leaf_follows (tree.property p) old new back before s = follow-itself _
  leaf_follows (tree.class k) old new back before s = follow-itself _
  leaf_follows (tree.indexed r) old new back before s = follow-itself _
  leaf_follows (tree.named r) old new back before s = equal_follows _ _ (same_reference what.named_capture_groups refl r new old back before s)

  mutual
    pub node_follows : (n : Node) (old new : Settings) (back : Bool) (before : ℕ) (s : State) →
        Follows (node_trace input names n old back before s) (node_trace input new_names (node_rewritten what names old new n) new back before s)
    node_follows (leaf l) old new back before s = leaf_follows l old new back before s
    node_follows (quantified d min max greedy n) old new back before s =
        let m = node_rewritten what names old new n in
        let t = repeat_trace (node_trace input names n old back before) (unset_in before (groups_in n)) greedy (min + length input) min max s in
        let u = (λ (k : ℕ). repeat_trace (node_trace input new_names m new back before) (unset_in before k) greedy (min + length input) min max s) in
        one_tick t (u (groups_in m)) (subst (λ k. Follows t (u k)) (sym (groups-node what names old new n))
        (follow-repeat (node_trace input names n old back before) (node_trace input new_names m new back before) (unset_in before (groups_in n)) greedy
        (node_follows n old new back before) (min + length input) min max s))
    node_follows (group d (capturing name) c more) old new back before s =
        let t = alternatives_trace input names more old back (suc before) s in
        let u = alternatives_trace input new_names (alternatives_rewritten what names old new more) new back (suc before) s in
        let set = (λ (w : State). let it : Trace = reached (with_capture before s.place w) ∷ [] in it) in
        one_tick (and_then t set) (and_then u set) (follow-then t u set set (each_follows more old new back (suc before) s) (λ w. follow-itself (set w)))
    node_follows (group d (ignoring m) c more) old new back before s =
        let kept = modifiers_rewritten what names m in
        one_tick (alternatives_trace input names more (update_settings m old) back before s)
        (alternatives_trace input new_names (alternatives_rewritten what names (update_settings m old) (update_settings kept new) more) (update_settings kept new) back before s)
        (each_follows more (update_settings m old) (update_settings kept new) back before s)
    node_follows (group d (looking kind) c more) old new back before s =
        one_tick _ _ (follow-look kind (alternatives_trace input names more old (looks_back kind) before s)
        (alternatives_trace input new_names (alternatives_rewritten what names old new more) new (looks_back kind) before s) s (each_follows more old new (looks_back kind) before s))

    pub all_follow : (ns : Nodes) (old new : Settings) (back : Bool) (before : ℕ) (s : State) →
        Follows (nodes_trace input names ns old back before s) (nodes_trace input new_names (nodes_rewritten what names old new ns) new back before s)
    all_follow no_node old new back before s = follow-itself _
    all_follow (node n ns) old new false before s =
        let m = node_rewritten what names old new n in
        let ms = nodes_rewritten what names old new ns in
        let t = nodes_trace input names (node n ns) old false before s in
        subst (λ k. Follows t (and_then (node_trace input new_names m new false before s) (nodes_trace input new_names ms new false (before + k)))) (sym (groups-node what names old new n))
        (follow-then (node_trace input names n old false before s) (node_trace input new_names m new false before s)
        (nodes_trace input names ns old false (before + groups_in n)) (nodes_trace input new_names ms new false (before + groups_in n))
        (node_follows n old new false before s) (all_follow ns old new false (before + groups_in n)))
    all_follow (node n ns) old new true before s =
        let m = node_rewritten what names old new n in
        let ms = nodes_rewritten what names old new ns in
        let t = nodes_trace input names (node n ns) old true before s in
        subst (λ k. Follows t (and_then (nodes_trace input new_names ms new true (before + k) s) (node_trace input new_names m new true before))) (sym (groups-node what names old new n))
        (follow-then (nodes_trace input names ns old true (before + groups_in n) s) (nodes_trace input new_names ms new true (before + groups_in n) s)
        (node_trace input names n old true before) (node_trace input new_names m new true before)
        (all_follow ns old new true (before + groups_in n) s) (node_follows n old new true before))

    pub each_follows : (more : Alternatives) (old new : Settings) (back : Bool) (before : ℕ) (s : State) →
        Follows (alternatives_trace input names more old back before s) (alternatives_trace input new_names (alternatives_rewritten what names old new more) new back before s)
    each_follows no_alternative old new back before s = follow-itself _
    each_follows (alternative d ns more) old new back before s =
        let ms = nodes_rewritten what names old new ns in
        let rest = alternatives_rewritten what names old new more in
        let t = alternatives_trace input names (alternative d ns more) old back before s in
        subst (λ k. Follows t (nodes_trace input new_names ms new back before s ++ alternatives_trace input new_names rest new back (before + k) s)) (sym (groups-all what names old new ns))
        (follow-append (nodes_trace input names ns old back before s) (nodes_trace input new_names ms new back before s)
        (alternatives_trace input names more old back (before + groups_in_all ns) s) (alternatives_trace input new_names rest new back (before + groups_in_all ns) s)
        (all_follow ns old new back before s) (each_follows more old new back (before + groups_in_all ns) s))

  -- So from each state a node and what it is rewritten to reach the same states, in their order.
  pub same_states : (n : Node) (old new : Settings) (back : Bool) (before : ℕ) (s : State) →
      states (node_trace input new_names (node_rewritten what names old new n) new back before s) ≡ states (node_trace input names n old back before s)
  same_states n old new back before s =
      follow-states (node_trace input names n old back before s) (node_trace input new_names (node_rewritten what names old new n) new back before s) (node_follows n old new back before s)
