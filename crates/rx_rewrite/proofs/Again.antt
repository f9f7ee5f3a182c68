-- Rewritten once more the rewritten pattern stays as it is, and so does each pattern where nothing is asked for.
use Rattle.std.proofs.Common.{◌≡◌, refl, ap, ap₂, sym, ◌∙◌, ℕ, Bool, true, false, not, ◌&&◌, if◌then◌else◌, Option, None, List}
use Rattle.rx_ast.specs.declared.leaf.BoundaryAssertion.{BoundaryAssertion}
use Rattle.rx_ast.specs.declared.leaf.BoundaryAssertionKind.{BoundaryAssertionKind}
use Rattle.rx_ast.specs.declared.leaf.BoundaryAssertionKind.TheVariants as at
use Rattle.rx_ast.specs.declared.leaf.Dot.{Dot}
use Rattle.rx_ast.specs.declared.leaf.LookAroundAssertionKind.TheVariants as look
use Rattle.rx_ast.specs.declared.leaf.Modifiers.{Modifiers}
use Rattle.rx_ast.specs.declared.leaf.NamedReference.{NamedReference}
use Rattle.rx_ast.specs.Tree as tree
use Rattle.rx_ast.specs.Tree.{Leaf, Node, Nodes, Alternatives, Whole, leaf, quantified, group, no_node, node, no_alternative, alternative, capturing, ignoring, looking}
use Rattle.rx_trace.specs.declared.answer.MatchFlags.{MatchFlags}
use Rattle.rx_trace.specs.Answers.{settings}
use Rattle.rx_trace.specs.Groups.{Names, names_in_each}
use Rattle.rx_trace.specs.declared.settings.Settings.{Settings}
use Rattle.rx_trace.specs.Matching.{update_settings}
use Rattle.rx_rewrite.specs.declared.rewrites.Rewrites.{Rewrites}
use Rattle.rx_rewrite.specs.Asked.{nothing}
use Rattle.rx_rewrite.specs.Rewriting.{number_of, dot_rewritten, end_rewritten, boundary_rewritten, modifiers_kept, modifiers_rewritten, leaf_rewritten, node_rewritten, nodes_rewritten, alternatives_rewritten, flags_rewritten, rewritten}
use Rattle.rx_rewrite.proofs.Modifiers.{kept_again}

module _ (what : Rewrites) (names later : Names) where
  same_kind : (old new : Settings) (k : BoundaryAssertionKind) (b : BoundaryAssertion) → k ≡ b.kind → node_rewritten what later old new (leaf (tree.boundary b)) ≡ boundary_rewritten what.multiline old.multiline new.multiline k b
  same_kind old new k b is = ap (λ k. boundary_rewritten what.multiline old.multiline new.multiline k b) (sym is)

  start-again : (asked : Bool) → what.multiline ≡ asked → (old new d : Bool) (b : BoundaryAssertion) → at.Start ≡ b.kind →
      let e : Settings = record { multiline = new; dot_all = d } in
      node_rewritten what later e e (end_rewritten asked old new look.NegativeLookbehind b) ≡ end_rewritten asked old new look.NegativeLookbehind b
  start-again true is true true d b kind = refl
  start-again false is true true d b kind =
      let e : Settings = record { multiline = true; dot_all = d } in
      same_kind e e at.Start b kind ∙ ap (λ asked. boundary_rewritten asked true true at.Start b) is
  start-again asked is true false d b kind = refl
  start-again asked is false true d b kind = refl
  start-again asked is false false d b kind = let e : Settings = record { multiline = false; dot_all = d } in same_kind e e at.Start b kind

  end-again : (asked : Bool) → what.multiline ≡ asked → (old new d : Bool) (b : BoundaryAssertion) → at.End ≡ b.kind →
      let e : Settings = record { multiline = new; dot_all = d } in
      node_rewritten what later e e (end_rewritten asked old new look.NegativeLookahead b) ≡ end_rewritten asked old new look.NegativeLookahead b
  end-again true is true true d b kind = refl
  end-again false is true true d b kind =
      let e : Settings = record { multiline = true; dot_all = d } in
      same_kind e e at.End b kind ∙ ap (λ asked. boundary_rewritten asked true true at.End b) is
  end-again asked is true false d b kind = refl
  end-again asked is false true d b kind = refl
  end-again asked is false false d b kind = let e : Settings = record { multiline = false; dot_all = d } in same_kind e e at.End b kind

  boundary-again : (old new : Settings) (k : BoundaryAssertionKind) (b : BoundaryAssertion) → k ≡ b.kind →
      node_rewritten what later new new (boundary_rewritten what.multiline old.multiline new.multiline k b) ≡ boundary_rewritten what.multiline old.multiline new.multiline k b
  boundary-again old new at.Start b is = start-again what.multiline refl old.multiline new.multiline new.dot_all b is
  boundary-again old new at.End b is = end-again what.multiline refl old.multiline new.multiline new.dot_all b is
  boundary-again old new at.Boundary b is = same_kind new new at.Boundary b is
  boundary-again old new at.NegativeBoundary b is = same_kind new new at.NegativeBoundary b is
  boundary-again old new at.StartBuffer b is = same_kind new new at.StartBuffer b is
  boundary-again old new at.EndBuffer b is = same_kind new new at.EndBuffer b is
  boundary-again old new at.EndBufferOptionalNewline b is = same_kind new new at.EndBufferOptionalNewline b is

  dot-again : (asked : Bool) → what.dot_all ≡ asked → (old new m : Bool) (d : Dot) →
      let e : Settings = record { multiline = m; dot_all = new } in
      node_rewritten what later e e (dot_rewritten asked old new d) ≡ dot_rewritten asked old new d
  dot-again true is true true m d = refl
  dot-again false is true true m d = ap (λ asked. dot_rewritten asked true true d) is
  dot-again asked is true false m d = refl
  dot-again asked is false true m d = refl
  dot-again asked is false false m d = refl

  reference-again : (asked : Bool) → what.named_capture_groups ≡ asked → (r : NamedReference) (e : Settings) →
      let it : Node = leaf (if asked then tree.indexed (record { span = r.span; index = number_of r.name names }) else tree.named r) in
      node_rewritten what later e e it ≡ it
  reference-again true is r e = refl
  reference-again false is r e = ap (λ asked. let it : Node = leaf (if asked then tree.indexed (record { span = r.span; index = number_of r.name later }) else tree.named r) in it) is

  name-again : (asked : Bool) (name : Option (List ℕ)) → (if asked then None else (if asked then None else name)) ≡ (if asked then None else name)
  name-again true name = refl
  name-again false name = refl

  modifiers-again : (asked : Bool) (m : Option Modifiers) → (if asked then modifiers_kept (if asked then modifiers_kept m else m) else (if asked then modifiers_kept m else m)) ≡ (if asked then modifiers_kept m else m)
  modifiers-again true m = kept_again m
  modifiers-again false m = refl

  leaf-again : (old new : Settings) (l : Leaf) → node_rewritten what later new new (leaf_rewritten what names old new l) ≡ leaf_rewritten what names old new l
  leaf-again old new (tree.boundary b) = boundary-again old new b.kind b refl
  leaf-again old new (tree.character c) = refl
  leaf-again old new (tree.dot d) = dot-again what.dot_all refl old.dot_all new.dot_all new.multiline d
  leaf-again old new (tree.class_escape k) = refl
  leaf-again old new (tree.property p) = refl
  leaf-again old new (tree.class k) = refl
  leaf-again old new (tree.indexed r) = refl
  leaf-again old new (tree.named r) = reference-again what.named_capture_groups refl r new

  -- What is rewritten is read under the same settings before and after.
  mutual
    node-again : (old new : Settings) (n : Node) → node_rewritten what later new new (node_rewritten what names old new n) ≡ node_rewritten what names old new n
    node-again old new (leaf l) = leaf-again old new l
    node-again old new (quantified s min max greedy n) = ap (λ n. quantified s min max greedy n) (node-again old new n)
    node-again old new (group s (capturing name) d more) =
        ap₂ (λ name more. group s (capturing name) d more) (name-again what.named_capture_groups name) (each-again old new more)
    node-again old new (group s (ignoring m) d more) =
        let kept = modifiers_rewritten what names m in
        let more_new = alternatives_rewritten what names (update_settings m old) (update_settings kept new) more in
        ap (λ m. group s (ignoring m) d (alternatives_rewritten what later (update_settings kept new) (update_settings m new) more_new)) (modifiers-again what.pattern_modifiers m)
        ∙ ap (λ more. group s (ignoring kept) d more) (each-again (update_settings m old) (update_settings kept new) more)
    node-again old new (group s (looking kind) d more) = ap (λ more. group s (looking kind) d more) (each-again old new more)

    all-again : (old new : Settings) (ns : Nodes) → nodes_rewritten what later new new (nodes_rewritten what names old new ns) ≡ nodes_rewritten what names old new ns
    all-again old new no_node = refl
    all-again old new (node n ns) = ap₂ (λ n ns. node n ns) (node-again old new n) (all-again old new ns)

    pub each-again : (old new : Settings) (more : Alternatives) → alternatives_rewritten what later new new (alternatives_rewritten what names old new more) ≡ alternatives_rewritten what names old new more
    each-again old new no_alternative = refl
    each-again old new (alternative s ns more) = ap₂ (λ ns more. alternative s ns more) (all-again old new ns) (each-again old new more)

off_again : (a w : Bool) → ((a && not w) && not w) ≡ (a && not w)
off_again true true = refl
off_again true false = refl
off_again false w = refl

settings_again : (what : Rewrites) (flags : MatchFlags) → settings (flags_rewritten what (flags_rewritten what flags)) ≡ settings (flags_rewritten what flags)
settings_again what flags = ap₂ (λ m d. let it : Settings = record { multiline = m; dot_all = d } in it) (off_again flags.multiline what.multiline) (off_again flags.dot_all what.dot_all)

pub rewritten_again : (what : Rewrites) (flags : MatchFlags) (p : Whole) → rewritten what (flags_rewritten what flags) (rewritten what flags p) ≡ rewritten what flags p
rewritten_again what flags p =
    let q = rewritten what flags p in
    let new = settings (flags_rewritten what flags) in
    ap (λ later. let it : Whole = (p.0, (p.1.0, alternatives_rewritten what (names_in_each q.1.1) new later q.1.1)) in it) (settings_again what flags)
    ∙ ap (λ more. let it : Whole = (p.0, (p.1.0, more)) in it) (each-again what (names_in_each p.1.1) (names_in_each q.1.1) (settings flags) new p.1.1)

-- Where nothing is asked for, each term is read under the same settings before and after, and stays.
module _ (names : Names) where
  end-stays : (on : Bool) (k : BoundaryAssertionKind) (b : BoundaryAssertion) → boundary_rewritten false on on k b ≡ leaf (tree.boundary b)
  end-stays true at.Start b = refl
  end-stays false at.Start b = refl
  end-stays true at.End b = refl
  end-stays false at.End b = refl
  end-stays on at.Boundary b = refl
  end-stays on at.NegativeBoundary b = refl
  end-stays on at.StartBuffer b = refl
  end-stays on at.EndBuffer b = refl
  end-stays on at.EndBufferOptionalNewline b = refl

  dot-stays : (on : Bool) (d : Dot) → dot_rewritten false on on d ≡ leaf (tree.dot d)
  dot-stays true d = refl
  dot-stays false d = refl

  leaf-stays : (e : Settings) (l : Leaf) → leaf_rewritten nothing names e e l ≡ leaf l
  leaf-stays e (tree.boundary b) = end-stays e.multiline b.kind b
  leaf-stays e (tree.character c) = refl
  leaf-stays e (tree.dot d) = dot-stays e.dot_all d
  leaf-stays e (tree.class_escape k) = refl
  leaf-stays e (tree.property p) = refl
  leaf-stays e (tree.class k) = refl
  leaf-stays e (tree.indexed r) = refl
  leaf-stays e (tree.named r) = refl

  mutual
    node-stays : (e : Settings) (n : Node) → node_rewritten nothing names e e n ≡ n
    node-stays e (leaf l) = leaf-stays e l
    node-stays e (quantified s min max greedy n) = ap (λ n. quantified s min max greedy n) (node-stays e n)
    node-stays e (group s (capturing name) d more) = ap (λ more. group s (capturing name) d more) (each-stays e more)
    node-stays e (group s (ignoring m) d more) = ap (λ more. group s (ignoring m) d more) (each-stays (update_settings m e) more)
    node-stays e (group s (looking kind) d more) = ap (λ more. group s (looking kind) d more) (each-stays e more)

    all-stay : (e : Settings) (ns : Nodes) → nodes_rewritten nothing names e e ns ≡ ns
    all-stay e no_node = refl
    all-stay e (node n ns) = ap₂ (λ n ns. node n ns) (node-stays e n) (all-stay e ns)

    each-stays : (e : Settings) (more : Alternatives) → alternatives_rewritten nothing names e e more ≡ more
    each-stays e no_alternative = refl
    each-stays e (alternative s ns more) = ap₂ (λ ns more. alternative s ns more) (all-stay e ns) (each-stays e more)

still : (b : Bool) → (b && not false) ≡ b
still true = refl
still false = refl

pub flags_stay : (flags : MatchFlags) → flags_rewritten nothing flags ≡ flags
flags_stay flags =
    ap₂ (λ m d. let it : MatchFlags = record { ignore_case = flags.ignore_case; multiline = m; dot_all = d; unicode_mode = flags.unicode_mode } in it) (still flags.multiline) (still flags.dot_all)

pub pattern_stays : (flags : MatchFlags) (p : Whole) → rewritten nothing flags p ≡ p
pattern_stays flags p =
    ap (λ after. let it : Whole = (p.0, (p.1.0, alternatives_rewritten nothing (names_in_each p.1.1) (settings flags) (settings after) p.1.1)) in it) (flags_stay flags)
    ∙ ap (λ more. let it : Whole = (p.0, (p.1.0, more)) in it) (each-stays (names_in_each p.1.1) (settings flags) p.1.1)
