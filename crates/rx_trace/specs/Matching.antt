-- The trace of a tree from a state: CompileSubpattern, CompileAssertion and CompileAtom of ECMA-262, 22.2.2, with a Tick for each term.
--
-- | node | after the Tick, from a state s at a place p | section |
-- |---|---|---|
-- | Character, Dot, class escape, class | forward over the unit at p, backward over the unit before p, if there is one and the node holds it; else nothing | 22.2.2.7.1, 22.2.2.9 |
-- | boundary | s where it holds, else nothing | 22.2.2.4; of `\A`, `\z`, `\Z` a proposal |
-- | lookahead, lookbehind | the Ticks of the body up to its first state, and p with the slots of that state, if there is one | 22.2.2.4 |
-- | negative look-around | the Ticks of the body up to its first state, and s where there is none | 22.2.2.4 |
-- | capturing group | the body, in each state of which its slot is set from the lesser to the greater of p and the place there | 22.2.2.7 |
-- | other group | the body, under the settings that its modifiers give | 22.2.2.7, 22.2.2.7.4 |
-- | reference | s where the slot is unset or missing; else over units equal to the slot's, where they stand there; else nothing | 22.2.2.7.2 |
-- | quantifier | turns of its body | 22.2.2.3, 22.2.2.3.1 |
--
-- The alternatives of a disjunction follow one another, and so do the terms of an alternative (22.2.2.3, 22.2.2.3.3, 22.2.2.3.4).
use Rattle.std.specs.Prelude.{ℕ, suc, ◌+◌, ◌-◌, ◌==◌, ◌&&◌, ◌||◌, not, nat_le, Bool, true, false, if◌then◌else◌, Option, Some, None, List, [], ◌∷◌, ◌++◌, length, take, drop, bit_and}
use Rattle.rx_ast.specs.declared.leaf.Modifiers.{Modifiers}
use Rattle.rx_ast.specs.declared.leaf.LookAroundAssertionKind.{LookAroundAssertionKind}
use Rattle.rx_ast.specs.declared.leaf.LookAroundAssertionKind.TheVariants as look_around
use Rattle.rx_ast.specs.Tree as tree
use Rattle.rx_ast.specs.Tree.{Leaf, Node, Nodes, Alternatives, leaf, quantified, group, no_node, node, no_alternative, alternative, capturing, ignoring, looking}
use Rattle.rx_trace.specs.declared.answer.Slot.{Slot}
use Rattle.rx_trace.specs.declared.answer.Slot.TheVariants.{Unset, Set}
pub use Rattle.rx_trace.specs.declared.settings.Settings.{Settings}
use Rattle.rx_trace.specs.Traces.{State, Trace, tick, reached, and_then, front, first}
use Rattle.rx_trace.specs.Holding.{is_line_terminator, escape_holds, class_holds, boundary_holds, ahead, unit_before}
use Rattle.rx_trace.specs.Repeats.{repeat_trace}
use Rattle.rx_trace.specs.Groups.{Names, groups_in, groups_in_all, same_units, slot_of, slot_named, unset_in, with_capture}

-- the setting after a modifier on either side
abbrev pub switch_setting : ℕ → ℕ → Bool → Bool
switch_setting enabled disabled was = if disabled == 0 then (if enabled == 0 then was else true) else false

-- UpdateModifiers (22.2.2.7.4)
abbrev pub update_settings : Option Modifiers → Settings → Settings
update_settings None e = e
update_settings (Some m) e = record {
  -- the bit of `m` is 2, that of `s` is 4
  multiline = switch_setting (bit_and m.enabling.0 2) (bit_and m.disabling.0 2) e.multiline;
  dot_all = switch_setting (bit_and m.enabling.0 4) (bit_and m.disabling.0 4) e.dot_all;
}

-- the state moved to a place, or nothing where there is none
abbrev pub move_to : Option ℕ → State → Trace
move_to None s = []
move_to (Some p) s = reached (record { place = p; slots = s.slots }) ∷ []

-- the place to go to, where there is a unit and it is held
abbrev pub place_if_held : (ℕ → Bool) → ℕ → Option ℕ → Option ℕ
place_if_held holds p None = None
place_if_held holds p (Some c) = if holds c then Some p else None

-- the state, where an assertion holds
abbrev pub if_holds : Bool → State → Trace
if_holds true s = reached s ∷ []
if_holds false s = []

-- the state, where the body of a negative look-around has none
abbrev pub where_none : Option State → State → Trace
where_none None s = reached s ∷ []
where_none (Some w) s = []

-- the state's place with the slots of the first state of a look-around's body
abbrev pub with_slots_of : Option State → State → Trace
with_slots_of None s = []
with_slots_of (Some w) s = reached (record { place = s.place; slots = w.slots }) ∷ []

-- a lookbehind matches its body backward
abbrev pub looks_back : LookAroundAssertionKind → Bool
looks_back look_around.Lookahead = false
looks_back look_around.NegativeLookahead = false
looks_back look_around.Lookbehind = true
looks_back look_around.NegativeLookbehind = true

-- CompileAssertion (22.2.2.4): only the first state of the body counts, and it does not move
abbrev pub look_around_trace : LookAroundAssertionKind → Trace → State → Trace
look_around_trace look_around.Lookahead t s = front t ++ with_slots_of (first t) s
look_around_trace look_around.NegativeLookahead t s = front t ++ where_none (first t) s
look_around_trace look_around.Lookbehind t s = front t ++ with_slots_of (first t) s
look_around_trace look_around.NegativeLookbehind t s = front t ++ where_none (first t) s

module _ (input : List ℕ) where
  -- CharacterSetMatcher (22.2.2.7.1): forward over the unit at the place, backward over the unit before it
  abbrev pub over_unit : Bool → (ℕ → Bool) → State → Trace
  over_unit false holds s = move_to (place_if_held holds (s.place + 1) (ahead input s.place)) s
  over_unit true holds s = move_to (place_if_held holds (s.place - 1) (unit_before input s.place)) s

  -- the place after a text that stands at a place or, backward, the place before a text that stands before it
  abbrev pub place_over : Bool → List ℕ → ℕ → Option ℕ
  place_over false text p = if same_units (take (length text) (drop p input)) text then Some (p + length text) else None
  place_over true text p = if nat_le (length text) p && same_units (take (length text) (drop (p - length text) input)) text then Some (p - length text) else None

  -- BackreferenceMatcher (22.2.2.7.2): an unset slot moves nothing
  abbrev pub back_reference_trace : Bool → Slot → State → Trace
  back_reference_trace back Unset s = reached s ∷ []
  back_reference_trace back (Set start end) s = move_to (place_over back (take (end - start) (drop start input)) s.place) s

module _ (input : List ℕ) (names : Names) where
  -- CompileAtom (22.2.2.7) and CompileAssertion (22.2.2.4) where no term is inside. A property escape is refused before (Supported.antt).
  abbrev pub leaf_trace : Settings → Bool → Leaf → State → Trace
  leaf_trace e back (tree.boundary b) s = if_holds (boundary_holds e.multiline input b.kind s.place) s
  leaf_trace e back (tree.character c) s = over_unit input back (λ u. u == c.value) s
  leaf_trace e back (tree.dot d) s = over_unit input back (λ u. e.dot_all || not (is_line_terminator u)) s
  leaf_trace e back (tree.class_escape k) s = over_unit input back (escape_holds k.kind) s
  leaf_trace e back (tree.property p) s = []
  leaf_trace e back (tree.class k) s = over_unit input back (class_holds k) s
  leaf_trace e back (tree.indexed r) s = back_reference_trace input back (slot_of s.slots r.index) s
  leaf_trace e back (tree.named r) s = back_reference_trace input back (slot_named r.name names s.slots) s

  -- `before` is how many groups open before the node.
  abbrev mutual
    pub node_trace : Node → Settings → Bool → ℕ → State → Trace
    node_trace (leaf l) e back before s = tick ∷ leaf_trace e back l s
    node_trace (quantified d min max greedy n) e back before s =
        tick ∷ repeat_trace (node_trace n e back before) (unset_in before (groups_in n)) greedy (min + length input) min max s
    node_trace (group d (capturing name) c more) e back before s =
        tick ∷ and_then (alternatives_trace more e back (suc before) s) (λ w. reached (with_capture before s.place w) ∷ [])
    node_trace (group d (ignoring m) c more) e back before s = tick ∷ alternatives_trace more (update_settings m e) back before s
    node_trace (group d (looking kind) c more) e back before s = tick ∷ look_around_trace kind (alternatives_trace more e (looks_back kind) before s) s

    -- CompileSubpattern of an Alternative (22.2.2.3): from the left when forward, from the right when backward
    pub nodes_trace : Nodes → Settings → Bool → ℕ → State → Trace
    nodes_trace no_node e back before s = reached s ∷ []
    nodes_trace (node n ns) e false before s = and_then (node_trace n e false before s) (nodes_trace ns e false (before + groups_in n))
    nodes_trace (node n ns) e true before s = and_then (nodes_trace ns e true (before + groups_in n) s) (node_trace n e true before)

    -- CompileSubpattern of a Disjunction (22.2.2.3): one alternative after the other
    pub alternatives_trace : Alternatives → Settings → Bool → ℕ → State → Trace
    alternatives_trace no_alternative e back before s = []
    alternatives_trace (alternative d ns more) e back before s = nodes_trace ns e back before s ++ alternatives_trace more e back (before + groups_in_all ns) s
