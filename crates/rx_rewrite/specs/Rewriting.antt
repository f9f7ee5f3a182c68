-- The tree that a rewriting gives: without names of groups, without the modifiers `m` and `s`, and without what the flags `m` and `s` change, as far as asked.
use Rattle.std.specs.Prelude.{ℕ, zero, suc, ◌==◌, Bool, true, false, not, ◌&&◌, if◌then◌else◌, Option, Some, None, List, [], ◌∷◌, bit_and}
use Rattle.rx_base.specs.Ascii as ascii
use Rattle.rx_base.specs.declared.span.Span.{Span}
use Rattle.rx_ast.specs.declared.leaf.BoundaryAssertion.{BoundaryAssertion}
use Rattle.rx_ast.specs.declared.leaf.BoundaryAssertionKind.{BoundaryAssertionKind}
use Rattle.rx_ast.specs.declared.leaf.BoundaryAssertionKind.TheVariants as at
use Rattle.rx_ast.specs.declared.leaf.CharacterKind.{CharacterKind}
use Rattle.rx_ast.specs.declared.leaf.CharacterKind.TheVariants as kind
use Rattle.rx_ast.specs.declared.leaf.Dot.{Dot}
use Rattle.rx_ast.specs.declared.leaf.LookAroundAssertionKind.{LookAroundAssertionKind}
use Rattle.rx_ast.specs.declared.leaf.LookAroundAssertionKind.TheVariants as look
use Rattle.rx_ast.specs.declared.leaf.Modifiers.{Modifiers}
use Rattle.rx_ast.specs.declared.leaf.NamedReference.{NamedReference}
use Rattle.rx_ast.specs.declared.class.CharacterClassContentsKind.TheVariants as made
use Rattle.rx_ast.specs.ClassTree.{Class, Members, no_member, member}
use Rattle.rx_ast.specs.ClassTree as in_class
use Rattle.rx_ast.specs.Tree as tree
use Rattle.rx_ast.specs.Tree.{Leaf, Node, Nodes, Alternatives, Whole, leaf, quantified, group, no_node, node, no_alternative, alternative, capturing, ignoring, looking}
use Rattle.rx_trace.specs.declared.answer.MatchFlags.{MatchFlags}
use Rattle.rx_trace.specs.Answers.{settings}
use Rattle.rx_trace.specs.Groups.{Names, is_named, names_in_each}
use Rattle.rx_trace.specs.declared.settings.Settings.{Settings}
use Rattle.rx_trace.specs.Matching.{update_settings}
use Rattle.rx_rewrite.specs.declared.rewrites.Rewrites.{Rewrites}

-- Everywhere below a new node, with all in it, has the span of what it replaces.

-- one more, but 0 stays 0
abbrev pub one_up : ℕ → ℕ
one_up zero = 0
one_up (suc k) = suc (suc k)

-- the number of the first group of a name, from 1; 0 where there is none
abbrev pub number_of : List ℕ → Names → ℕ
number_of name [] = 0
number_of name (n ∷ ns) = if is_named name n then 1 else one_up (number_of name ns)

-- the class of all that these items do not hold
abbrev pub not_in_class : Span → Members → Class
not_in_class s items = in_class.class s true false made.Union items

abbrev pub written : Span → CharacterKind → ℕ → Members → Members
written s k c items = member (in_class.character (record { span = s; kind = k; value = c })) items

-- `[^]`: each unit
abbrev pub any_unit : Span → Class
any_unit s = not_in_class s no_member

-- `[^\n\r\u2028\u2029]`: each unit that is no LineTerminator (12.3)
abbrev pub no_line_terminator : Span → Class
no_line_terminator s = not_in_class s
    (written s kind.SingleEscape ascii.line_feed (written s kind.SingleEscape ascii.carriage_return (written s kind.UnicodeEscape 0x2028 (written s kind.UnicodeEscape 0x2029 no_member))))

-- a look-around whose body is a class alone
abbrev pub look_for : Span → LookAroundAssertionKind → Class → Node
look_for s k c = group s (looking k) s (alternative s (node (leaf (tree.class c)) no_node) no_alternative)

-- What a term becomes that was read where the setting was `old`, and will be read where it is `new`. `on` and `off` mean what it means where the setting is on and where it is
-- off. Where the setting stays the same the term does, unless the setting is on and the term is asked to be rewritten.
abbrev pub by_setting : Bool → Bool → Bool → Node → Node → Node → Node
by_setting asked true true same on off = if asked then on else same
by_setting asked true false same on off = on
by_setting asked false true same on off = off
by_setting asked false false same on off = same

-- `.` under `dot_all` is `[^]`, else `[^\n\r\u2028\u2029]`
abbrev pub dot_rewritten : Bool → Bool → Bool → Dot → Node
dot_rewritten asked old new d =
    by_setting asked old new (leaf (tree.dot d)) (leaf (tree.class (any_unit d.span))) (leaf (tree.class (no_line_terminator d.span)))

-- `^` under `multiline` is `(?<![^\n\r\u2028\u2029])`, else `(?<![^])`; `$` the same ahead
abbrev pub end_rewritten : Bool → Bool → Bool → LookAroundAssertionKind → BoundaryAssertion → Node
end_rewritten asked old new k b =
    by_setting asked old new (leaf (tree.boundary b)) (look_for b.span k (no_line_terminator b.span)) (look_for b.span k (any_unit b.span))

abbrev pub boundary_rewritten : Bool → Bool → Bool → BoundaryAssertionKind → BoundaryAssertion → Node
boundary_rewritten asked old new at.Start b = end_rewritten asked old new look.NegativeLookbehind b
boundary_rewritten asked old new at.End b = end_rewritten asked old new look.NegativeLookahead b
boundary_rewritten asked old new at.Boundary b = leaf (tree.boundary b)
boundary_rewritten asked old new at.NegativeBoundary b = leaf (tree.boundary b)
boundary_rewritten asked old new at.StartBuffer b = leaf (tree.boundary b)
boundary_rewritten asked old new at.EndBuffer b = leaf (tree.boundary b)
boundary_rewritten asked old new at.EndBufferOptionalNewline b = leaf (tree.boundary b)

-- On both sides only `i` is kept of the modifiers. Where nothing is left the group has none.
abbrev pub modifiers_kept : Option Modifiers → Option Modifiers
modifiers_kept None = None
modifiers_kept (Some m) =
    if (bit_and m.enabling.0 1 == 0) && (bit_and m.disabling.0 1 == 0) then None
    else Some (record { span = m.span; enabling = record { 0 = bit_and m.enabling.0 1 }; disabling = record { 0 = bit_and m.disabling.0 1 } })

module _ (what : Rewrites) (names : Names) where
  abbrev pub modifiers_rewritten : Option Modifiers → Option Modifiers
  modifiers_rewritten m = if what.pattern_modifiers then modifiers_kept m else m

  abbrev pub name_rewritten : Option (List ℕ) → Option (List ℕ)
  name_rewritten name = if what.named_capture_groups then None else name

  -- A reference by name is one by the number of the group.
  abbrev pub reference_rewritten : NamedReference → Leaf
  reference_rewritten r = if what.named_capture_groups then tree.indexed (record { span = r.span; index = number_of r.name names }) else tree.named r

  -- a term with no other in it, by the settings that it is read under before and after
  abbrev pub leaf_rewritten : Settings → Settings → Leaf → Node
  leaf_rewritten old new (tree.boundary b) = boundary_rewritten what.multiline old.multiline new.multiline b.kind b
  leaf_rewritten old new (tree.character c) = leaf (tree.character c)
  leaf_rewritten old new (tree.dot d) = dot_rewritten what.dot_all old.dot_all new.dot_all d
  leaf_rewritten old new (tree.class_escape k) = leaf (tree.class_escape k)
  leaf_rewritten old new (tree.property p) = leaf (tree.property p)
  leaf_rewritten old new (tree.class k) = leaf (tree.class k)
  leaf_rewritten old new (tree.indexed r) = leaf (tree.indexed r)
  leaf_rewritten old new (tree.named r) = leaf (reference_rewritten r)

  -- In a group with modifiers both settings change: the old ones by the old modifiers, the new ones by those that are left.
  abbrev mutual
    pub node_rewritten : Settings → Settings → Node → Node
    node_rewritten old new (leaf l) = leaf_rewritten old new l
    node_rewritten old new (quantified s min max greedy n) = quantified s min max greedy (node_rewritten old new n)
    node_rewritten old new (group s (capturing name) d more) = group s (capturing (name_rewritten name)) d (alternatives_rewritten old new more)
    node_rewritten old new (group s (ignoring m) d more) =
        group s (ignoring (modifiers_rewritten m)) d (alternatives_rewritten (update_settings m old) (update_settings (modifiers_rewritten m) new) more)
    node_rewritten old new (group s (looking k) d more) = group s (looking k) d (alternatives_rewritten old new more)

    pub nodes_rewritten : Settings → Settings → Nodes → Nodes
    nodes_rewritten old new no_node = no_node
    nodes_rewritten old new (node n ns) = node (node_rewritten old new n) (nodes_rewritten old new ns)

    pub alternatives_rewritten : Settings → Settings → Alternatives → Alternatives
    alternatives_rewritten old new no_alternative = no_alternative
    alternatives_rewritten old new (alternative s ns more) = alternative s (nodes_rewritten old new ns) (alternatives_rewritten old new more)

-- the flags that the rewritten pattern is matched with
abbrev pub flags_rewritten : Rewrites → MatchFlags → MatchFlags
flags_rewritten what flags = record {
  ignore_case = flags.ignore_case;
  multiline = flags.multiline && not what.multiline;
  dot_all = flags.dot_all && not what.dot_all;
  unicode_mode = flags.unicode_mode;
}

-- a whole pattern, rewritten
abbrev pub rewritten : Rewrites → MatchFlags → Whole → Whole
rewritten what flags p =
    (p.0, (p.1.0, alternatives_rewritten what (names_in_each p.1.1) (settings flags) (settings (flags_rewritten what flags)) p.1.1))
