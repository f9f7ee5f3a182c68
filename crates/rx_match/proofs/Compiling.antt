-- The code of a tree does what its trace says.
use Rattle.std.proofs.Common.{◌≡◌, refl, ap, sym, ◌∙◌, ℕ, zero, suc, ◌+◌, ◌-◌, Bool, true, false, ◌==◌, ◌||◌, not, if◌then◌else◌, Option, Some, None, List, [], ◌∷◌, ◌++◌, append_assoc, append-nil, length}
use Rattle.rx_ast.specs.declared.leaf.LookAroundAssertionKind.{LookAroundAssertionKind}
use Rattle.rx_ast.specs.declared.leaf.LookAroundAssertionKind.TheVariants as look_kind
use Rattle.rx_ast.specs.Tree as tree
use Rattle.rx_ast.specs.Tree.{Leaf, Node, Nodes, Alternatives, leaf, quantified, group, no_node, node, no_alternative, alternative, capturing, ignoring, looking}
use Rattle.rx_trace.specs.declared.answer.Slot.{Slot}
use Rattle.rx_trace.specs.declared.answer.Slot.TheVariants.{Unset, Set}
use Rattle.rx_trace.specs.Traces.{State, Trace, tick, reached, and_then, front, first}
use Rattle.rx_trace.specs.Holding.{ahead, unit_before, boundary_holds, class_holds, escape_holds, is_line_terminator}
use Rattle.rx_trace.specs.Repeats.{is_over, one_less, after_turn, in_turn, repeat_trace}
use Rattle.rx_trace.specs.Groups.{Names, groups_in, groups_in_all, slot_of, slot_named, unset_in, with_capture}
use Rattle.rx_trace.specs.declared.settings.Settings.{Settings}
use Rattle.rx_trace.specs.Matching.{update_settings, move_to, place_if_held, if_holds, with_slots_of, where_none, look_around_trace, looks_back, over_unit, back_reference_trace, node_trace, nodes_trace, alternatives_trace}
use Rattle.rx_match.specs.Runs.{Run, silent, ticked, reaches, bind, visible, look_around_run, run_onward, turn_end_run, in_turn_run, repetition_run, at_place, unit_to, slot_to, code_run, is_negative}
use Rattle.rx_program.specs.Codes.{Code, accept}
use Rattle.std.specs.Prelude.{replicate}
use Rattle.rx_program.specs.declared.step.Step.{Step}
use Rattle.rx_program.specs.Steps.{code_at}
use Rattle.rx_match.specs.Programs.{trace_of}
use Rattle.rx_program.specs.Compiled.{leaf_code, chosen, node_code, nodes_code, each_code}

-- traces
then-append : (a b : Trace) (f : State → Trace) → and_then (a ++ b) f ≡ and_then a f ++ and_then b f
then-append [] b f = refl
then-append (tick ∷ a) b f = ap (λ r. tick ∷ r) (then-append a b f)
then-append (reached s ∷ a) b f = ap (λ r. f s ++ r) (then-append a b f) ∙ sym (append_assoc (f s) (and_then a f) (and_then b f))

then-then : (a : Trace) (f g : State → Trace) → and_then (and_then a f) g ≡ and_then a (λ w. and_then (f w) g)
then-then [] f g = refl
then-then (tick ∷ a) f g = ap (λ r. tick ∷ r) (then-then a f g)
then-then (reached s ∷ a) f g = then-append (f s) (and_then a f) g ∙ ap (λ r. and_then (f s) g ++ r) (then-then a f g)

then-reached : (a : Trace) → and_then a (λ s. reached s ∷ []) ≡ a
then-reached [] = refl
then-reached (tick ∷ a) = ap (λ r. tick ∷ r) (then-reached a)
then-reached (reached s ∷ a) = ap (λ r. reached s ∷ r) (then-reached a)

then-each : (a : Trace) (f g : State → Trace) → ((w : State) → f w ≡ g w) → and_then a f ≡ and_then a g
then-each [] f g same = refl
then-each (tick ∷ a) f g same = ap (λ r. tick ∷ r) (then-each a f g same)
then-each (reached s ∷ a) f g same = ap (λ r. r ++ and_then a f) (same s) ∙ ap (λ r. g s ++ r) (then-each a f g same)

visible-append : (a b : Run) → visible (a ++ b) ≡ visible a ++ visible b
visible-append [] b = refl
visible-append (silent ∷ a) b = visible-append a b
visible-append (ticked ∷ a) b = ap (λ r. tick ∷ r) (visible-append a b)
visible-append (reaches s ∷ a) b = ap (λ r. reached s ∷ r) (visible-append a b)

visible-bind : (a : Run) (f : State → Run) → visible (bind a f) ≡ and_then (visible a) (λ w. visible (f w))
visible-bind [] f = refl
visible-bind (silent ∷ a) f = visible-bind a f
visible-bind (ticked ∷ a) f = ap (λ r. tick ∷ r) (visible-bind a f)
visible-bind (reaches s ∷ a) f = visible-append (f s) (bind a f) ∙ ap (λ r. visible (f s) ++ r) (visible-bind a f)

visible-go : (o : Option ℕ) (s : State) (k : State → Run) → visible (run_onward o s k) ≡ and_then (move_to o s) (λ w. visible (k w))
visible-go None s k = refl
visible-go (Some p) s k = sym (append-nil (visible (k (at_place p s))))

front-then : (t : Trace) (u : Trace) (k : State → Trace) → and_then (front t ++ u) k ≡ front t ++ and_then u k
front-then [] u k = refl
front-then (tick ∷ t) u k = ap (λ r. tick ∷ r) (front-then t u k)
front-then (reached s ∷ t) u k = refl

-- look-arounds
look_around-kept : (r : Run) (s : State) (k : State → Run) → visible (look_around_run false r s k) ≡ front (visible r) ++ and_then (with_slots_of (first (visible r)) s) (λ w. visible (k w))
look_around-kept [] s k = refl
look_around-kept (silent ∷ r) s k = look_around-kept r s k
look_around-kept (ticked ∷ r) s k = ap (λ t. tick ∷ t) (look_around-kept r s k)
look_around-kept (reaches w ∷ r) s k = sym (append-nil (visible (k (at_place s.place w))))

look_around-unless : (r : Run) (s : State) (k : State → Run) → visible (look_around_run true r s k) ≡ front (visible r) ++ and_then (where_none (first (visible r)) s) (λ w. visible (k w))
look_around-unless [] s k = sym (append-nil (visible (k s)))
look_around-unless (silent ∷ r) s k = look_around-unless r s k
look_around-unless (ticked ∷ r) s k = ap (λ t. tick ∷ t) (look_around-unless r s k)
look_around-unless (reaches w ∷ r) s k = refl

look_around-looked : (kind : LookAroundAssertionKind) (r : Run) (t : Trace) (s : State) (k : State → Run) → visible r ≡ t → visible (look_around_run (is_negative kind) r s k) ≡ and_then (look_around_trace kind t s) (λ w. visible (k w))
look_around-looked look_kind.Lookahead r t s k is = look_around-kept r s k ∙ ap (λ t. front t ++ and_then (with_slots_of (first t) s) (λ w. visible (k w))) is ∙ sym (front-then t (with_slots_of (first t) s) (λ w. visible (k w)))
look_around-looked look_kind.NegativeLookahead r t s k is = look_around-unless r s k ∙ ap (λ t. front t ++ and_then (where_none (first t) s) (λ w. visible (k w))) is ∙ sym (front-then t (where_none (first t) s) (λ w. visible (k w)))
look_around-looked look_kind.Lookbehind r t s k is = look_around-kept r s k ∙ ap (λ t. front t ++ and_then (with_slots_of (first t) s) (λ w. visible (k w))) is ∙ sym (front-then t (with_slots_of (first t) s) (λ w. visible (k w)))
look_around-looked look_kind.NegativeLookbehind r t s k is = look_around-unless r s k ∙ ap (λ t. front t ++ and_then (where_none (first t) s) (λ w. visible (k w))) is ∙ sym (front-then t (where_none (first t) s) (λ w. visible (k w)))

-- repetitions
visible-after : (min : ℕ) (s : State) (f : State → Run) (g : State → Trace) (w : State) → visible (f w) ≡ g w → visible (turn_end_run min s.place f w) ≡ after_turn min s g w
visible-after zero s f g w same = by_test (w.place == s.place)
  where
    by_test : (b : Bool) → visible (if b then [] else f w) ≡ (if b then [] else g w)
    by_test true = refl
    by_test false = same
visible-after (suc min) s f g w same = same

visible-arranged : (min : ℕ) (greedy : Bool) (s : State) (leave turn_run : Run) (t : Trace) (k : State → Trace) → visible leave ≡ k s → visible turn_run ≡ and_then t k → visible (in_turn_run min greedy leave turn_run) ≡ and_then (in_turn min greedy s t) k
visible-arranged (suc min) greedy s leave turn_run t k l o = o
visible-arranged zero true s leave turn_run t k l o =
    visible-append turn_run (silent ∷ leave) ∙ ap (λ r. r ++ visible leave) o ∙ ap (λ r. and_then t k ++ r) (l ∙ sym (append-nil (k s))) ∙ sym (then-append t (reached s ∷ []) k)
visible-arranged zero false s leave turn_run t k l o = visible-append leave (silent ∷ turn_run) ∙ ap (λ r. r ++ visible turn_run) l ∙ ap (λ r. k s ++ r) o

visible-chosen : (b : Bool) (s : State) (leave other : Run) (t : Trace) (k : State → Trace) → visible leave ≡ k s → visible other ≡ and_then t k → visible (if b then leave else other) ≡ and_then (if b then reached s ∷ [] else t) k
visible-chosen true s leave other t k l o = l ∙ sym (append-nil (k s))
visible-chosen false s leave other t k l o = o

visible-loop : (body rest : State → Run) (tbody k : State → Trace) (unset : State → State) (greedy : Bool) → ((s : State) → visible (body s) ≡ tbody s) → ((s : State) → visible (rest s) ≡ k s)
    → (turns min : ℕ) (max : Option ℕ) (s : State) → visible (repetition_run body rest unset greedy turns min max s) ≡ and_then (repeat_trace tbody unset greedy turns min max s) k
visible-loop body rest tbody k unset greedy b r zero min max s =
    visible-chosen (is_over max) s (rest s) _ _ k (r s) (visible-arranged min greedy s (rest s) _ _ k (r s)
    (visible-bind (body (unset s)) (turn_end_run min s.place (λ w. [])) ∙ ap (λ t. and_then t (λ w. visible (turn_end_run min s.place (λ w. []) w))) (b (unset s))
    ∙ then-each (tbody (unset s)) (λ w. visible (turn_end_run min s.place (λ w. []) w)) (λ w. and_then (after_turn min s (λ w. []) w) k) (λ w. last min s w)
    ∙ sym (then-then (tbody (unset s)) (after_turn min s (λ w. [])) k)))
  where
    last : (min : ℕ) (s w : State) → visible (turn_end_run min s.place (λ w. []) w) ≡ and_then (after_turn min s (λ w. []) w) k
    last zero s w = by_test (w.place == s.place)
      where
        by_test : (b : Bool) → visible (if b then [] else []) ≡ and_then (if b then [] else []) k
        by_test true = refl
        by_test false = refl
    last (suc min) s w = refl
visible-loop body rest tbody k unset greedy b r (suc turns) min max s =
    visible-chosen (is_over max) s (rest s) _ _ k (r s) (visible-arranged min greedy s (rest s) _ _ k (r s)
    (visible-bind (body (unset s)) (turn_end_run min s.place (λ w. repetition_run body rest unset greedy turns (min - 1) (one_less max) w))
    ∙ ap (λ t. and_then t (λ w. visible (turn_end_run min s.place (λ w. repetition_run body rest unset greedy turns (min - 1) (one_less max) w) w))) (b (unset s))
    ∙ then-each (tbody (unset s)) (λ w. visible (turn_end_run min s.place (λ w. repetition_run body rest unset greedy turns (min - 1) (one_less max) w) w))
    (λ w. and_then (after_turn min s (λ w. repeat_trace tbody unset greedy turns (min - 1) (one_less max) w) w) k)
    (λ w. visible-after min s (λ w. repetition_run body rest unset greedy turns (min - 1) (one_less max) w) (λ w. and_then (repeat_trace tbody unset greedy turns (min - 1) (one_less max) w) k) w (visible-loop body rest tbody k unset greedy b r turns (min - 1) (one_less max) w)
    ∙ after-then min s w (λ w. repeat_trace tbody unset greedy turns (min - 1) (one_less max) w))
    ∙ sym (then-then (tbody (unset s)) (after_turn min s (λ w. repeat_trace tbody unset greedy turns (min - 1) (one_less max) w)) k)))
  where
    after-then : (min : ℕ) (s w : State) (f : State → Trace) → after_turn min s (λ w. and_then (f w) k) w ≡ and_then (after_turn min s f w) k
    after-then zero s w f = by_test (w.place == s.place)
      where
        by_test : (b : Bool) → (if b then [] else and_then (f w) k) ≡ and_then (if b then [] else f w) k
        by_test true = refl
        by_test false = refl
    after-then (suc min) s w f = refl

module _ (input : List ℕ) (names : Names) where
  abbrev ends : Code → Bool → State → Trace
  ends next back w = visible (code_run input next back w)

  unit-is : (back : Bool) (holds : ℕ → Bool) (s : State) (next : Code) → visible (run_onward (unit_to input back holds s.place) s (code_run input next back)) ≡ and_then (over_unit input back holds s) (ends next back)
  unit-is false holds s next = visible-go (unit_to input false holds s.place) s (code_run input next false)
  unit-is true holds s next = visible-go (unit_to input true holds s.place) s (code_run input next true)

  slot-is : (back : Bool) (sl : Slot) (s : State) (next : Code) → visible (run_onward (slot_to input back sl s.place) s (code_run input next back)) ≡ and_then (back_reference_trace input back sl s) (ends next back)
  slot-is back Unset s next = sym (append-nil (ends next back s))
  slot-is back (Set start end) s next = visible-go (slot_to input back (Set start end) s.place) s (code_run input next back)

  bound-is : (b back : Bool) (s : State) (next : Code) → visible (if b then code_run input next back s else []) ≡ and_then (if_holds b s) (ends next back)
  bound-is true back s next = sym (append-nil (ends next back s))
  bound-is false back s next = refl

  leaf-is : (l : Leaf) (e : Settings) (back : Bool) (before : ℕ) (next : Code) (s : State) → visible (code_run input (leaf_code names e l next) back s) ≡ and_then (node_trace input names (leaf l) e back before s) (ends next back)
  leaf-is (tree.boundary b) e back before next s = ap (λ t. tick ∷ t) (bound-is (boundary_holds e.multiline input b.kind s.place) back s next)
  leaf-is (tree.character c) e back before next s = ap (λ t. tick ∷ t) (unit-is back (λ u. u == c.value) s next)
  leaf-is (tree.dot d) e back before next s = ap (λ t. tick ∷ t) (unit-is back (λ u. e.dot_all || not (is_line_terminator u)) s next)
  leaf-is (tree.class_escape k) e back before next s = ap (λ t. tick ∷ t) (unit-is back (escape_holds k.kind) s next)
  leaf-is (tree.property p) e back before next s = ap (λ t. tick ∷ t) (never back s next)
    where
      never : (back : Bool) (s : State) (next : Code) → visible (run_onward (unit_to input back (λ u. false) s.place) s (code_run input next back)) ≡ []
      never false s next = by_unit (ahead input s.place)
        where
          by_unit : (o : Option ℕ) → visible (run_onward (place_if_held (λ u. false) (s.place + 1) o) s (code_run input next false)) ≡ []
          by_unit None = refl
          by_unit (Some c) = refl
      never true s next = by_unit (unit_before input s.place)
        where
          by_unit : (o : Option ℕ) → visible (run_onward (place_if_held (λ u. false) (s.place - 1) o) s (code_run input next true)) ≡ []
          by_unit None = refl
          by_unit (Some c) = refl
  leaf-is (tree.class k) e back before next s = ap (λ t. tick ∷ t) (unit-is back (class_holds k) s next)
  leaf-is (tree.indexed r) e back before next s = ap (λ t. tick ∷ t) (slot-is back (slot_of s.slots r.index) s next)
  leaf-is (tree.named r) e back before next s = ap (λ t. tick ∷ t) (slot-is back (slot_named r.name names s.slots) s next)

  mutual
    pub node-is : (n : Node) (e : Settings) (back : Bool) (before : ℕ) (next : Code) (s : State)
        → visible (code_run input (node_code names n e back before next) back s) ≡ and_then (node_trace input names n e back before s) (ends next back)
    node-is (leaf l) e back before next s = leaf-is l e back before next s
    node-is (quantified d min max greedy n) e back before next s =
        ap (λ t. tick ∷ t) (visible-loop (code_run input (node_code names n e back before accept) back) (code_run input next back) (node_trace input names n e back before) (ends next back) (unset_in before (groups_in n)) greedy
        (λ s. node-is n e back before accept s ∙ then-reached (node_trace input names n e back before s)) (λ s. refl) (min + length input) min max s)
    node-is (group d (capturing name) c more) e back before next s =
        ap (λ t. tick ∷ t) (visible-bind (code_run input (each_code names more e back (suc before) accept) back s) (λ w. silent ∷ code_run input next back (with_capture before s.place w))
        ∙ ap (λ t. and_then t (λ w. ends next back (with_capture before s.place w))) (each-is more e back (suc before) accept s ∙ then-reached (alternatives_trace input names more e back (suc before) s))
        ∙ then-each (alternatives_trace input names more e back (suc before) s) (λ w. ends next back (with_capture before s.place w)) (λ w. and_then (reached (with_capture before s.place w) ∷ []) (ends next back)) (λ w. sym (append-nil (ends next back (with_capture before s.place w))))
        ∙ sym (then-then (alternatives_trace input names more e back (suc before) s) (λ w. reached (with_capture before s.place w) ∷ []) (ends next back)))
    node-is (group d (ignoring m) c more) e back before next s = ap (λ t. tick ∷ t) (each-is more (update_settings m e) back before next s)
    node-is (group d (looking kind) c more) e back before next s =
        ap (λ t. tick ∷ t) (look_around-looked kind (code_run input (each_code names more e (looks_back kind) before accept) (looks_back kind) s) (alternatives_trace input names more e (looks_back kind) before s) s (code_run input next back)
        (each-is more e (looks_back kind) before accept s ∙ then-reached (alternatives_trace input names more e (looks_back kind) before s)))

    pub nodes-are : (ns : Nodes) (e : Settings) (back : Bool) (before : ℕ) (next : Code) (s : State)
        → visible (code_run input (nodes_code names ns e back before next) back s) ≡ and_then (nodes_trace input names ns e back before s) (ends next back)
    nodes-are no_node e back before next s = sym (append-nil (ends next back s))
    nodes-are (node n ns) e false before next s =
        node-is n e false before (nodes_code names ns e false (before + groups_in n) next) s
        ∙ then-each (node_trace input names n e false before s) (ends (nodes_code names ns e false (before + groups_in n) next) false) (λ w. and_then (nodes_trace input names ns e false (before + groups_in n) w) (ends next false))
        (λ w. nodes-are ns e false (before + groups_in n) next w)
        ∙ sym (then-then (node_trace input names n e false before s) (nodes_trace input names ns e false (before + groups_in n)) (ends next false))
    nodes-are (node n ns) e true before next s =
        visible-bind (code_run input (nodes_code names ns e true (before + groups_in n) accept) true s) (λ w. silent ∷ code_run input (node_code names n e true before next) true w)
        ∙ ap (λ t. and_then t (ends (node_code names n e true before next) true)) (nodes-are ns e true (before + groups_in n) accept s ∙ then-reached (nodes_trace input names ns e true (before + groups_in n) s))
        ∙ then-each (nodes_trace input names ns e true (before + groups_in n) s) (ends (node_code names n e true before next) true) (λ w. and_then (node_trace input names n e true before w) (ends next true)) (λ w. node-is n e true before next w)
        ∙ sym (then-then (nodes_trace input names ns e true (before + groups_in n) s) (node_trace input names n e true before) (ends next true))

    pub each-is : (more : Alternatives) (e : Settings) (back : Bool) (before : ℕ) (next : Code) (s : State)
        → visible (code_run input (each_code names more e back before next) back s) ≡ and_then (alternatives_trace input names more e back before s) (ends next back)
    each-is no_alternative e back before next s = refl
    each-is (alternative d ns more) e back before next s =
        choice-is (nodes_code names ns e back before next) more (each_code names more e back (before + groups_in_all ns) next) back s (each-is more e back (before + groups_in_all ns) next s) (none-is more)
        ∙ ap (λ r. r ++ and_then (alternatives_trace input names more e back (before + groups_in_all ns) s) (ends next back)) (nodes-are ns e back before next s)
        ∙ sym (then-append (nodes_trace input names ns e back before s) (alternatives_trace input names more e back (before + groups_in_all ns) s) (ends next back))
      where
        choice-is : (first' : Code) (more : Alternatives) (other : Code) (back : Bool) (s : State) → {t : Trace} → visible (code_run input other back s) ≡ t → ((more ≡ no_alternative) → t ≡ []) → visible (code_run input (chosen first' more other) back s) ≡ visible (code_run input first' back s) ++ t
        choice-is first' no_alternative other back s is none = sym (ap (λ t. visible (code_run input first' back s) ++ t) (none refl) ∙ append-nil (visible (code_run input first' back s)))
        choice-is first' (alternative d ns more) other back s is none = visible-append (code_run input first' back s) (silent ∷ code_run input other back s) ∙ ap (λ t. visible (code_run input first' back s) ++ t) is

        none-is : (more : Alternatives) → (more ≡ no_alternative) → and_then (alternatives_trace input names more e back (before + groups_in_all ns) s) (ends next back) ≡ []
        none-is no_alternative is = refl
        none-is (alternative d' ns' more') is = absurd (cc)

-- a program with the code of a tree has the tree's trace
pub trace_is : (input : List ℕ) (names : Names) (program : List Step) (entry groups start : ℕ) (more : Alternatives) (e : Settings) → code_at program entry ≡ each_code names more e false 0 accept
    → trace_of input program entry groups start ≡ alternatives_trace input names more e false 0 (record { place = start; slots = replicate groups Unset })
trace_is input names program entry groups start more e is =
    let s : State = record { place = start; slots = replicate groups Unset } in
    ap (λ c. visible (code_run input c false s)) is ∙ each-is input names more e false 0 accept s ∙ then-reached (alternatives_trace input names more e false 0 s)
