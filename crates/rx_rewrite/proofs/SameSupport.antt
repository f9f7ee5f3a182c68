-- What is not supported of the pattern is what is not supported of the rewritten pattern.
use Rattle.std.proofs.Common.{◌≡◌, refl, ap₂, sym, ◌∙◌, Bool, true, false, if◌then◌else◌, Option, Some, None}
use Rattle.rx_base.specs.declared.span.Span.{Span}
use Rattle.rx_ast.specs.declared.leaf.Modifiers.{Modifiers}
use Rattle.rx_ast.specs.declared.leaf.NamedReference.{NamedReference}
use Rattle.rx_ast.specs.Kinds.{ignore_group, order, node_order, nodes_order, alternatives_order}
use Rattle.rx_ast.specs.Tree as tree
use Rattle.rx_ast.specs.Tree.{Leaf, Node, Nodes, Alternatives, Whole, leaf, quantified, group, no_node, node, no_alternative, alternative, capturing, ignoring, looking}
use Rattle.rx_trace.specs.declared.answer.MatchFlags.{MatchFlags}
use Rattle.rx_trace.specs.Answers.{settings}
use Rattle.rx_trace.specs.Groups.{Names, names_in_each}
use Rattle.rx_trace.specs.declared.settings.Settings.{Settings}
use Rattle.rx_trace.specs.Matching.{update_settings}
use Rattle.rx_trace.specs.Supported.{unsupported_span, or_later, first_unsupported, unsupported_in}
use Rattle.rx_trace.proofs.Unsupported.{first-append}
use Rattle.rx_rewrite.specs.declared.rewrites.Rewrites.{Rewrites}
use Rattle.rx_rewrite.specs.Rewriting.{number_of, modifiers_kept, modifiers_rewritten, node_rewritten, nodes_rewritten, alternatives_rewritten, flags_rewritten, rewritten}
use Rattle.rx_rewrite.proofs.Modifiers.{unsupported_of, unsupported_same}
use Rattle.rx_rewrite.proofs.LeafRewrites.{HoldsOfAll, leaf-all}

group-unsupported : (s : Span) (m : Option Modifiers) (d : tree.SpannedAlternatives) → unsupported_span (ignore_group s m d) ≡ unsupported_of m
group-unsupported s None d = refl
group-unsupported s (Some m) d = refl

module _ (what : Rewrites) (names : Names) where
  modifiers-same : (asked : Bool) (m : Option Modifiers) → unsupported_of (if asked then modifiers_kept m else m) ≡ unsupported_of m
  modifiers-same true m = unsupported_same m
  modifiers-same false m = refl

  reference-same : (asked : Bool) (r : NamedReference) → first_unsupported (node_order (leaf (if asked then tree.indexed (record { span = r.span; index = number_of r.name names }) else tree.named r))) ≡ None
  reference-same true r = refl
  reference-same false r = refl

  leaf-same : (l : Leaf) → HoldsOfAll what names (λ n. first_unsupported (node_order n) ≡ first_unsupported (node_order (leaf l))) l
  leaf-same (tree.boundary b) = (refl, λ k. (refl, refl))
  leaf-same (tree.character c) = refl
  leaf-same (tree.dot d) = (refl, refl, refl)
  leaf-same (tree.class_escape k) = refl
  leaf-same (tree.property p) = refl
  leaf-same (tree.class k) = refl
  leaf-same (tree.indexed r) = refl
  leaf-same (tree.named r) = reference-same what.named_capture_groups r

  mutual
    support-node : (old new : Settings) (n : Node) → first_unsupported (node_order (node_rewritten what names old new n)) ≡ first_unsupported (node_order n)
    support-node old new (leaf l) = leaf-all what names (λ n. first_unsupported (node_order n) ≡ first_unsupported (node_order (leaf l))) old new l (leaf-same l)
    support-node old new (quantified s min max greedy n) = support-node old new n
    support-node old new (group s (capturing name) d more) = support-each old new more
    support-node old new (group s (ignoring m) d more) =
        let new_m = modifiers_rewritten what names m in
        ap₂ or_later
        (group-unsupported s new_m (d, alternatives_rewritten what names (update_settings m old) (update_settings new_m new) more) ∙ modifiers-same what.pattern_modifiers m ∙ sym (group-unsupported s m (d, more)))
        (support-each (update_settings m old) (update_settings new_m new) more)
    support-node old new (group s (looking kind) d more) = support-each old new more

    support-all : (old new : Settings) (ns : Nodes) → first_unsupported (nodes_order (nodes_rewritten what names old new ns)) ≡ first_unsupported (nodes_order ns)
    support-all old new no_node = refl
    support-all old new (node n ns) =
        first-append (node_order (node_rewritten what names old new n)) (nodes_order (nodes_rewritten what names old new ns))
        ∙ ap₂ or_later (support-node old new n) (support-all old new ns) ∙ sym (first-append (node_order n) (nodes_order ns))

    support-each : (old new : Settings) (more : Alternatives) → first_unsupported (alternatives_order (alternatives_rewritten what names old new more)) ≡ first_unsupported (alternatives_order more)
    support-each old new no_alternative = refl
    support-each old new (alternative s ns more) =
        first-append (nodes_order (nodes_rewritten what names old new ns)) (alternatives_order (alternatives_rewritten what names old new more))
        ∙ ap₂ or_later (support-all old new ns) (support-each old new more) ∙ sym (first-append (nodes_order ns) (alternatives_order more))

pub same_support : (what : Rewrites) (flags : MatchFlags) (p : Whole) → unsupported_in (rewritten what flags p) ≡ unsupported_in p
unfolding order
same_support what flags p = support-each what (names_in_each p.1.1) (settings flags) (settings (flags_rewritten what flags)) p.1.1
