-- A piece of work that is cut into smaller ones.
use Rattle.std.proofs.Common.{◌≡◌, refl, ap, sym, ◌∙◌, ℕ, Bool, Option, List, [], ◌∷◌, ◌++◌, append_assoc, append-nil}
use Rattle.rx_base.specs.declared.span.Span.{Span}
use Rattle.rx_ast.specs.declared.leaf.Modifiers.{Modifiers}
use Rattle.rx_ast.specs.declared.leaf.LookAroundAssertionKind.{LookAroundAssertionKind}
use Rattle.rx_ast.specs.Tree as tree
use Rattle.rx_ast.specs.Tree.{Opener, Node, Nodes, Alternatives, quantified, group, no_node, node, no_alternative, alternative}
use Rattle.rx_trace.specs.Groups.{Names}
use Rattle.rx_trace.specs.declared.settings.Settings.{Settings}
use Rattle.rx_trace.specs.Matching.{update_settings}
use Rattle.rx_rewrite.specs.declared.rewrites.Rewrites.{Rewrites}
use Rattle.rx_rewrite.specs.Rewriting.{name_rewritten, modifiers_rewritten, node_rewritten, nodes_rewritten, alternatives_rewritten}
use Rattle.rx_rewrite.specs.Works.{Work, Made, alternatives, terms, term, opening, ending_alternative, ending_group, ending_quantifier, listed, listed_alternatives, all_worked}
use Rattle.rx_rewrite.proofs.Lists.{nodes-listed, alternatives-listed, on-last}

module _ (what : Rewrites) (names : Names) (ws : List Work) (old new : Settings) (m : Made) where
  pub no_alternatives : all_worked what names (alternatives old new no_alternative ∷ ws) m ≡ all_worked what names ws m
  no_alternatives = ap (λ as'. all_worked what names ws (record m { alternatives = as' })) (append-nil m.alternatives)

  pub split_alternatives : (s : Span) (ns : Nodes) (more : Alternatives)
      → all_worked what names (alternatives old new (alternative s ns more) ∷ ws) m
      ≡ all_worked what names (terms old new ns ∷ ending_alternative s m.terms ∷ alternatives old new more ∷ ws) (record m { terms = [] })
  split_alternatives s ns more =
      let made = nodes_rewritten what names old new ns in
      let rest = listed_alternatives (alternatives_rewritten what names old new more) in
      ap (λ as'. all_worked what names ws (record m { alternatives = as' }))
      (sym (append_assoc m.alternatives ((s, made) ∷ []) rest) ∙ ap (λ k. (m.alternatives ++ ((s, k) ∷ [])) ++ rest) (sym (nodes-listed made)))

  pub no_terms : all_worked what names (terms old new no_node ∷ ws) m ≡ all_worked what names ws m
  no_terms = ap (λ ns. all_worked what names ws (record m { terms = ns })) (append-nil m.terms)

  pub split_terms : (n : Node) (ns : Nodes) → all_worked what names (terms old new (node n ns) ∷ ws) m ≡ all_worked what names (term old new n ∷ terms old new ns ∷ ws) m
  split_terms n ns =
      let made = node_rewritten what names old new n in
      ap (λ ks. all_worked what names ws (record m { terms = ks })) (sym (append_assoc m.terms (made ∷ []) (listed (nodes_rewritten what names old new ns))))

  pub split_quantified : (s : Span) (min : ℕ) (max : Option ℕ) (greedy : Bool) (n : Node)
      → all_worked what names (term old new (quantified s min max greedy n) ∷ ws) m ≡ all_worked what names (term old new n ∷ ending_quantifier s min max greedy ∷ ws) m
  split_quantified s min max greedy n =
      sym (on-last (quantified s min max greedy) m.terms (node_rewritten what names old new n) (λ ns. all_worked what names ws (record m { terms = ns })))

  pub split_opening : (s : Span) (o : Opener) (d : Span) (more : Alternatives)
      → all_worked what names (opening old new s o d more ∷ ws) m ≡ all_worked what names (alternatives old new more ∷ ending_group s o d m.alternatives ∷ ws) (record m { alternatives = [] })
  split_opening s o d more =
      ap (λ k. all_worked what names ws (record m { terms = m.terms ++ (group s o d k ∷ []) })) (sym (alternatives-listed (alternatives_rewritten what names old new more)))

  pub split_capturing : (s d : Span) (name : Option (List ℕ)) (more : Alternatives)
      → all_worked what names (term old new (group s (tree.capturing name) d more) ∷ ws) m ≡ all_worked what names (opening old new s (tree.capturing (name_rewritten what names name)) d more ∷ ws) m
  split_capturing s d name more = refl

  pub split_ignoring : (s d : Span) (mods : Option Modifiers) (more : Alternatives)
      → all_worked what names (term old new (group s (tree.ignoring mods) d more) ∷ ws) m
      ≡ all_worked what names (opening (update_settings mods old) (update_settings (modifiers_rewritten what names mods) new) s (tree.ignoring (modifiers_rewritten what names mods)) d more ∷ ws) m
  split_ignoring s d mods more = refl

  pub split_looking : (s d : Span) (kind : LookAroundAssertionKind) (more : Alternatives)
      → all_worked what names (term old new (group s (tree.looking kind) d more) ∷ ws) m ≡ all_worked what names (opening old new s (tree.looking kind) d more ∷ ws) m
  split_looking s d kind more = refl
