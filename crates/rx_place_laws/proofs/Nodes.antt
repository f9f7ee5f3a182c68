-- What holds of the offset of each place holds at the ends of each node of a tree that is spanned over these offsets.
use Rattle.std.proofs.Common.{◌≡◌, sym, subst, ℕ, ◌+◌, Option, Some, None, List, [], ◌∷◌, ◌++◌, length}
use Rattle.rx_base.specs.declared.span.Span.{Span}
use Rattle.rx_ast.specs.declared.leaf.Modifiers.{Modifiers}
use Rattle.rx_ast.specs.declared.leaf.Character.{Character}
use Rattle.rx_ast.specs.declared.class.CharacterClassContentsKind.{CharacterClassContentsKind}
use Rattle.rx_ast.specs.declared.class.CharacterClassContentsKind.TheVariants.{Union, Intersection, Subtraction}
use Rattle.rx_ast.specs.declared.class.ClassString.{ClassString}
use Rattle.rx_ast.specs.declared.term.Pattern.{Pattern}
use Rattle.rx_ast.specs.ClassTree as in_class
use Rattle.rx_ast.specs.ClassTree.{Member, Members, Class, no_member, member}
use Rattle.rx_ast.specs.Forest.{Forest, nothing, tree}
use Rattle.rx_ast.specs.Parts.{part_span, characters_forest, strings_forest, member_forest, members_forest, class_forest, leaf_forest, modifiers_forest, node_forest, nodes_forest, alternatives_forest, forest, pattern_forest}
use Rattle.rx_ast.specs.Tree as ast
use Rattle.rx_ast.specs.Tree.{Leaf, Node, Nodes, Alternatives, Whole, leaf, quantified, group, no_node, node, no_alternative, mirror}
use Rattle.rx_units.specs.declared.code_point.CodePoint.{CodePoint}
use Rattle.rx_units.specs.Units.{offset_at}
use Rattle.rx_model.specs.declared.mode.Mode.{Mode}
use Rattle.rx_model.specs.declared.rules.Rules.{Rules}
use Rattle.rx_model.specs.Classes.ClassRows.{ClassRow, Place}
use Rattle.rx_model.specs.Classes.ClassTokens as of_class
use Rattle.rx_model.specs.Classes.ClassTokens.{ClassEvents, letters_events, string_events, barred_strings_events, strings_events, operator_events, member_events, class_events, members_events, more_members_events, range_events}
use Rattle.rx_model.specs.Inputs.Environment.{Environment, environment, for_classes}
use Rattle.rx_model.specs.Reading.Reading.{IsSpanned}
use Rattle.rx_model.specs.Reading.Rows.{Row}
use Rattle.rx_model.specs.Trees.Events as event
use Rattle.rx_model.specs.Trees.Events.{Events, within, node_events, nodes_events, alternatives_events, barred_events, disjunction_events, opener_event}
use Rattle.rx_model.specs.Trees.Token as of_token
use Rattle.rx_place_laws.specs.Ends.{HoldsAtEnds, HoldsInTree, HoldsOfEach}

module _ (P : ℕ → Type 0) where
  -- this holds where nodes begin and end, in a class and in a pattern
  abbrev InClass : ClassEvents → Type 0
  InClass [] = Unit {0}
  InClass ((of_class.enter n) ∷ es) = P n × InClass es
  InClass ((of_class.leave n) ∷ es) = P n × InClass es
  InClass ((of_class.token t) ∷ es) = InClass es

  abbrev In : Events → Type 0
  In [] = Unit {0}
  In ((event.enter n) ∷ es) = P n × In es
  In ((event.leave n) ∷ es) = P n × In es
  In ((event.token t) ∷ es) = In es
  In ((event.inside c) ∷ es) = InClass (class_events c) × In es
  In ((event.modified m) ∷ es) = P m.span.start × P m.span.end × In es

  module _ (o : ℕ → ℕ) (each : (place : ℕ) → P (o place)) where
    at_place : (n i : ℕ) → n ≡ o i → P n
    at_place n i is = subst P (sym is) (each i)

    in_class_row : (e : Environment) (es : ClassEvents) (q r : Place) (i j : ℕ) (us rest : List CodePoint) → ClassRow e o es q i us r j rest → InClass es
    in_class_row e [] q r i j us rest row = tt
    in_class_row e ((of_class.enter n) ∷ es) q r i j us rest row = (at_place n i row.0, in_class_row e es q r i j us rest row.1)
    in_class_row e ((of_class.leave n) ∷ es) q r i j us rest row = (at_place n i row.0, in_class_row e es q r i j us rest row.1)
    in_class_row e ((of_class.token t) ∷ es) q r i j us rest row = in_class_row e es _ r (i + length row.0) j row.1 rest row.4

    in_row : (e : Environment) (es : Events) (i j : ℕ) (us rest : List CodePoint) → Row e o es i us j rest → In es
    in_row e [] i j us rest row = tt
    in_row e ((event.enter n) ∷ es) i j us rest row = (at_place n i row.0, in_row e es i j us rest row.1)
    in_row e ((event.leave n) ∷ es) i j us rest row = (at_place n i row.0, in_row e es i j us rest row.1)
    in_row e ((event.token t) ∷ es) i j us rest row = in_row e es (i + length row.0) j row.1 rest row.4
    in_row e ((event.inside c) ∷ es) i j us rest row =
        (in_class_row (for_classes e) (class_events c) _ _ i (i + length row.0) _ _ row.3.row, in_row e es (i + length row.0) j row.1 rest row.4)
    in_row e ((event.modified m) ∷ es) i j us rest row =
        (at_place m.span.start (i + 2) row.3.start, at_place m.span.end (i + 2 + length row.3.modified.text) row.3.end, in_row e es (i + length row.0) j row.1 rest row.4)

  class_both : (es fs : ClassEvents) → InClass (es ++ fs) → InClass es × InClass fs
  class_both [] fs h = (tt, h)
  class_both ((of_class.enter n) ∷ es) fs h = let parts = class_both es fs h.1 in ((h.0, parts.0), parts.1)
  class_both ((of_class.leave n) ∷ es) fs h = let parts = class_both es fs h.1 in ((h.0, parts.0), parts.1)
  class_both ((of_class.token t) ∷ es) fs h = class_both es fs h

  both : (es fs : Events) → In (es ++ fs) → In es × In fs
  both [] fs h = (tt, h)
  both ((event.enter n) ∷ es) fs h = let parts = both es fs h.1 in ((h.0, parts.0), parts.1)
  both ((event.leave n) ∷ es) fs h = let parts = both es fs h.1 in ((h.0, parts.0), parts.1)
  both ((event.token t) ∷ es) fs h = both es fs h
  both ((event.inside c) ∷ es) fs h = let parts = both es fs h.1 in ((h.0, parts.0), parts.1)
  both ((event.modified m) ∷ es) fs h = let parts = both es fs h.2 in ((h.0, h.1, parts.0), parts.1)

  -- a node with what stands in it
  class_node : (s : Span) (es : ClassEvents) → InClass (of_class.within s es) → HoldsAtEnds P s × InClass es
  class_node s es h = let parts = class_both es (of_class.leave s.end ∷ []) h.1 in ((h.0, parts.1.0), parts.0)

  whole_node : (s : Span) (es : Events) → In (within s es) → HoldsAtEnds P s × In es
  whole_node s es h = let parts = both es (event.leave s.end ∷ []) h.1 in ((h.0, parts.1.0), parts.0)

  abbrev Each : Forest Span → Type 0
  Each = HoldsOfEach (HoldsAtEnds P)

  letters : (cs : List Character) → InClass (letters_events cs) → Each (characters_forest part_span cs)
  letters [] h = tt
  letters (c ∷ cs) h = ((h.0, h.1.0), tt, letters cs h.1.1)

  barred_strings : (ss : List ClassString) → InClass (barred_strings_events ss) → Each (strings_forest part_span ss)
  barred_strings [] h = tt
  barred_strings (s ∷ ss) h =
      let parts = class_both (string_events s) (barred_strings_events ss) h in
      let it = class_node s.span (letters_events s.body) parts.0 in
      (it.0, letters s.body it.1, barred_strings ss parts.1)

  strings : (ss : List ClassString) → InClass (strings_events ss) → Each (strings_forest part_span ss)
  strings [] h = tt
  strings (s ∷ ss) h = barred_strings (s ∷ ss) h

  no_ends : (k : CharacterClassContentsKind) (es : ClassEvents) → InClass (operator_events k ++ es) → InClass es
  no_ends Union es h = h
  no_ends Intersection es h = h
  no_ends Subtraction es h = h

  mutual
    of_member : (m : Member) (after : Forest Span) → InClass (member_events m) → Each after → Each (member_forest part_span m after)
    of_member (in_class.range r) after h more =
        let it = class_node r.span (range_events r) h in
        (it.0, ((it.1.0, it.1.1.0), tt, ((it.1.1.1.0, it.1.1.1.1.0), tt, tt)), more)
    of_member (in_class.escape e) after h more = ((h.0, h.1.0), tt, more)
    of_member (in_class.property p) after h more = ((h.0, h.1.0), tt, more)
    of_member (in_class.character c) after h more = ((h.0, h.1.0), tt, more)
    of_member (in_class.nested c) after h more = of_class_tree c after h more
    of_member (in_class.strings d) after h more =
        let it = class_node d.span (of_class.token of_class.strings ∷ (strings_events d.body ++ (of_class.token of_class.strings_end ∷ []))) h in
        (it.0, strings d.body (class_both (strings_events d.body) (of_class.token of_class.strings_end ∷ []) it.1).0, more)

    of_class_tree : (c : Class) (after : Forest Span) → InClass (class_events c) → Each after → Each (class_forest part_span c after)
    of_class_tree (in_class.class s negative may kind ms) after h more =
        let it = class_node s (of_class.token (of_class.bracket negative) ∷ (members_events (operator_events kind) ms ++ (of_class.token of_class.closer ∷ []))) h in
        (it.0, of_members kind ms (class_both (members_events (operator_events kind) ms) (of_class.token of_class.closer ∷ []) it.1).0, more)

    of_members : (kind : CharacterClassContentsKind) (ms : Members) → InClass (members_events (operator_events kind) ms) → Each (members_forest part_span ms)
    of_members kind no_member h = tt
    of_members kind (member m ms) h =
        let parts = class_both (member_events m) (more_members_events (operator_events kind) ms) h in
        of_member m (members_forest part_span ms) parts.0 (of_more kind ms parts.1)

    of_more : (kind : CharacterClassContentsKind) (ms : Members) → InClass (more_members_events (operator_events kind) ms) → Each (members_forest part_span ms)
    of_more kind no_member h = tt
    of_more kind (member m ms) h =
        let parts = class_both (member_events m) (more_members_events (operator_events kind) ms) (no_ends kind (member_events m ++ more_members_events (operator_events kind) ms) h) in
        of_member m (members_forest part_span ms) parts.0 (of_more kind ms parts.1)

  of_leaf : (l : Leaf) (after : Forest Span) → In (node_events (leaf l)) → Each after → Each (leaf_forest part_span l after)
  of_leaf (ast.boundary b) after h more = ((h.0, h.1.0), tt, more)
  of_leaf (ast.character c) after h more = ((h.0, h.1.0), tt, more)
  of_leaf (ast.dot d) after h more = ((h.0, h.1.0), tt, more)
  of_leaf (ast.class_escape e) after h more = ((h.0, h.1.0), tt, more)
  of_leaf (ast.property p) after h more = ((h.0, h.1.0), tt, more)
  of_leaf (ast.class c) after h more = of_class_tree c after h.1.0 more
  of_leaf (ast.indexed r) after h more = ((h.0, h.1.0), tt, more)
  of_leaf (ast.named r) after h more = ((h.0, h.1.0), tt, more)

  -- the body of a group, and the modifiers before it
  of_body : (d : Span) (more : Alternatives) → (In (alternatives_events more) → Each (alternatives_forest part_span more)) → In (within d (alternatives_events more) ++ (event.token of_token.closer ∷ []))
      → Each (tree d (alternatives_forest part_span more) nothing)
  of_body d more alternatives h =
      let it = whole_node d (alternatives_events more) (both (within d (alternatives_events more)) (event.token of_token.closer ∷ []) h).0 in
      (it.0, alternatives it.1, tt)

  of_modified : (m : Option Modifiers) (d : Span) (more : Alternatives) → (In (alternatives_events more) → Each (alternatives_forest part_span more))
      → In (opener_event (ast.ignoring m) ∷ (within d (alternatives_events more) ++ (event.token of_token.closer ∷ []))) → Each (modifiers_forest part_span m (tree d (alternatives_forest part_span more) nothing))
  of_modified None d more alternatives h = of_body d more alternatives h
  of_modified (Some m) d more alternatives h = ((h.0, h.1), tt, of_body d more alternatives h.2)

  mutual
    of_node : (n : Node) (after : Forest Span) → In (node_events n) → Each after → Each (node_forest part_span n after)
    of_node (leaf l) after h more = of_leaf l after h more
    of_node (quantified s min max greedy n) after h more =
        let it = whole_node s (node_events n ++ (event.token (of_token.quantifier min max greedy) ∷ [])) h in
        (it.0, of_node n nothing (both (node_events n) (event.token (of_token.quantifier min max greedy) ∷ []) it.1).0 tt, more)
    of_node (group s (ast.capturing name) d body) after h more =
        let it = whole_node s (opener_event (ast.capturing name) ∷ (within d (alternatives_events body) ++ (event.token of_token.closer ∷ []))) h in
        (it.0, of_body d body (λ g. of_alternatives body g) it.1, more)
    of_node (group s (ast.ignoring modifiers) d body) after h more =
        let it = whole_node s (opener_event (ast.ignoring modifiers) ∷ (within d (alternatives_events body) ++ (event.token of_token.closer ∷ []))) h in
        (it.0, of_modified modifiers d body (λ g. of_alternatives body g) it.1, more)
    of_node (group s (ast.looking kind) d body) after h more =
        let it = whole_node s (opener_event (ast.looking kind) ∷ (within d (alternatives_events body) ++ (event.token of_token.closer ∷ []))) h in
        (it.0, of_body d body (λ g. of_alternatives body g) it.1, more)

    of_nodes : (ns : Nodes) → In (nodes_events ns) → Each (nodes_forest part_span ns)
    of_nodes no_node h = tt
    of_nodes (node n ns) h = let parts = both (node_events n) (nodes_events ns) h in of_node n (nodes_forest part_span ns) parts.0 (of_nodes ns parts.1)

    of_alternatives : (more : Alternatives) → In (alternatives_events more) → Each (alternatives_forest part_span more)
    of_alternatives no_alternative h = tt
    of_alternatives (ast.alternative s ns more) h =
        let parts = both (within s (nodes_events ns)) (barred_events more) h in
        let it = whole_node s (nodes_events ns) parts.0 in
        (it.0, of_nodes ns it.1, of_barred more parts.1)

    of_barred : (more : Alternatives) → In (barred_events more) → Each (alternatives_forest part_span more)
    of_barred no_alternative h = tt
    of_barred (ast.alternative s ns more) h =
        let parts = both (within s (nodes_events ns)) (barred_events more) h in
        let it = whole_node s (nodes_events ns) parts.0 in
        (it.0, of_nodes ns it.1, of_barred more parts.1)

  of_whole : (p : Whole) → In (within p.0 (within p.1.0 (alternatives_events p.1.1))) → Each (pattern_forest part_span p)
  unfolding forest
  of_whole p h =
      let it = whole_node p.0 (within p.1.0 (alternatives_events p.1.1)) h in
      let body = whole_node p.1.0 (alternatives_events p.1.1) it.1 in
      (it.0, (body.0, of_alternatives p.1.1 body.1, tt), tt)

  -- the law
  pub in_tree : (mode : Mode) (rules : Rules) (p : Pattern) (us : List CodePoint) (first added : ℕ) → ((place : ℕ) → P (offset_at first us place + added)) → IsSpanned mode rules p us first added → HoldsInTree P p
  unfolding disjunction_events
  in_tree mode rules p us first added each row =
      of_whole (mirror p) (in_row (λ place. offset_at first us place + added) each (environment mode rules p) (within p.span (disjunction_events p.body)) 0 (length us) us [] row)
