-- The rewritten pattern is free of early errors.
use Rattle.std.proofs.Common.{◌≡◌, refl, ap, sym, subst, ◌∙◌, ℕ, ◌≤◌, Bool, true, false, if◌then◌else◌, Option, List, [], Contains, length, arith}
use Rattle.std.specs.List.{All}
use Rattle.rx_base.specs.declared.span.Span.{Span}
use Rattle.rx_ast.specs.declared.leaf.Modifiers.{Modifiers}
use Rattle.rx_ast.specs.declared.leaf.NamedReference.{NamedReference}
use Rattle.rx_ast.specs.declared.term.Pattern.{Pattern}
use Rattle.rx_ast.specs.Forget.{forget_class, same_kind}
use Rattle.rx_ast.specs.Tree as tree
use Rattle.rx_ast.specs.Tree.{Leaf, mirror, mirror_disjunction}
use Rattle.rx_model.specs.declared.rules.Rules.{Rules}
use Rattle.rx_model.specs.Trees.Early.{AreModifiers, IsEarlyClass, Obeys, most_groups, IsEarly}
use Rattle.rx_model.specs.Trees.Events.{alternatives_events, tokens}
use Rattle.rx_model.specs.Trees.Names.{alternatives_names, groups, names}
use Rattle.rx_model.specs.Trees.Token.{bits, leaf_token}
use Rattle.rx_model.proofs.Trees.Flat.{before, tokens_are}
use Rattle.rx_trace.specs.declared.answer.MatchFlags.{MatchFlags}
use Rattle.rx_trace.specs.Answers.{settings}
use Rattle.rx_trace.specs.Groups.{Names, names_in_each}
use Rattle.rx_trace.specs.declared.settings.Settings.{Settings}
use Rattle.rx_rewrite.specs.declared.rewrites.Rewrites.{Rewrites}
use Rattle.rx_rewrite.specs.Rewriting.{number_of, any_unit, no_line_terminator, modifiers_kept, leaf_rewritten, flags_rewritten, rewritten}
use Rattle.rx_rewrite.proofs.Modifiers.{early_kept}
use Rattle.rx_rewrite.proofs.NamedSlots.{given_names, given-each, number_some, number_within}
use Rattle.rx_rewrite.proofs.Patterns.{once-there, its_tree, its_groups, all_names, its_names_early}
use Rattle.rx_rewrite.proofs.LeafRewrites.{leaf-all}
use Rattle.rx_rewrite.proofs.Orders.{count-each}
use Rattle.rx_trace.proofs.GroupNames.{names-length-each}
use Rattle.rx_rewrite.proofs.Tokens.{OfNode, kept-tokens}

-- The classes that are made obey the rules on classes.
any_early : (s : Span) → IsEarlyClass (forget_class same_kind (any_unit s))
any_early s = (refl, refl, tt)

no_terminator_early : (s : Span) → IsEarlyClass (forget_class same_kind (no_line_terminator s))
no_terminator_early s = (refl, refl, (omega arith, (omega arith, (omega arith, (omega arith, tt)))))

module _ (what : Rewrites) (flags : MatchFlags) (p q : Pattern) (is : mirror q ≡ rewritten what flags (mirror p)) where
  table : Names
  table = names_in_each (mirror_disjunction p.body).1

  -- The number of a group's name is one of a group.
  number_there : (name : List ℕ) → Contains (names p) name → (1 ≤ number_of name table) × (number_of name table ≤ groups q)
  unfolding table
  number_there name there =
      let own : Contains (given_names table) name =
      subst (λ ns. Contains ns name) (sym (given-each (mirror_disjunction p.body).1)) (once-there [] (alternatives_names (mirror_disjunction p.body).1) name there) in
      let count : length table ≡ groups q = names-length-each (mirror_disjunction p.body).1 ∙ sym (count-each (mirror_disjunction p.body).1) ∙ sym (its_groups what flags p q is) in
      (number_some name table own, subst (λ k. number_of name table ≤ k) count (number_within name table))

  reference_obeys : (asked : Bool) → what.named_capture_groups ≡ asked → (r : NamedReference) → Contains (names p) r.name →
      Obeys (groups q) (names q) (leaf_token (if asked then tree.indexed (record { span = r.span; index = number_of r.name table }) else tree.named r))
  reference_obeys true asked r there = number_there r.name there
  reference_obeys false not_asked r there = subst (λ ns. Contains ns r.name) (sym (all_names what flags p q is not_asked)) there

  leaf_obeys : (old new : Settings) (l : Leaf) → Obeys (groups p) (names p) (leaf_token l) → OfNode (Obeys (groups q) (names q)) (leaf_rewritten what table old new l)
  leaf_obeys old new (tree.boundary b) obeys =
      leaf-all what table (OfNode (Obeys (groups q) (names q))) old new (tree.boundary b) (tt, λ k. ((tt, ((no_terminator_early b.span, tt), tt)), (tt, ((any_early b.span, tt), tt))))
  leaf_obeys old new (tree.character c) obeys = obeys
  leaf_obeys old new (tree.dot d) obeys = leaf-all what table (OfNode (Obeys (groups q) (names q))) old new (tree.dot d) (tt, any_early d.span, no_terminator_early d.span)
  leaf_obeys old new (tree.class_escape k) obeys = tt
  leaf_obeys old new (tree.property it) obeys = obeys
  leaf_obeys old new (tree.class k) obeys = obeys
  leaf_obeys old new (tree.indexed r) obeys = (obeys.0, subst (λ k. r.index ≤ k) (sym (its_groups what flags p q is)) obeys.1)
  leaf_obeys old new (tree.named r) obeys = reference_obeys what.named_capture_groups refl r obeys

  modifiers_obey : (asked : Bool) (m : Option Modifiers) → AreModifiers (bits m) → AreModifiers (bits (if asked then modifiers_kept m else m))
  modifiers_obey true m obeys = early_kept m obeys
  modifiers_obey false m obeys = obeys

  tokens_obey : All (Obeys (groups p) (names p)) (tokens p) → All (Obeys (groups q) (names q)) (tokens q)
  unfolding table
  tokens_obey obey =
      let old = settings flags in
      let new = settings (flags_rewritten what flags) in
      let P = Obeys (groups p) (names p) in
      let Q = Obeys (groups q) (names q) in
      subst (All Q) (sym (tokens_are q ∙ ap (λ more. before (alternatives_events more) []) (its_tree what flags p q is)))
      (kept-tokens what table P Q leaf_obeys (λ min max greedy h. h) (λ name h. tt) (modifiers_obey what.pattern_modifiers) (λ k h. tt) tt tt old new (mirror_disjunction p.body).1
      (subst (All P) (tokens_are p) obey))

  pub its_early : (rules : Rules) → IsEarly rules p → IsEarly rules q
  its_early rules early = record {
    tokens_obey = tokens_obey early.tokens_obey;
    apart = its_names_early what flags p q is rules.duplicate_names early.apart;
    in_limit = subst (λ k. k ≤ most_groups) (sym (its_groups what flags p q is)) early.in_limit;
  }
