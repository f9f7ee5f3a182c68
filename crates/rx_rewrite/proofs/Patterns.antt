-- The groups of the rewritten pattern and their names, and its shape.
use Rattle.std.proofs.Common.{◌≡◌, refl, ap, sym, subst, ◌∙◌, ℕ, zero, suc, Bool, true, false, if◌then◌else◌, Option, Some, None, List, [], ◌∷◌, Contains, inl, inr, arith}
use Rattle.std.specs.Prelude.{replicate, map}
use Rattle.std.proofs.lemmas.Bool.{false≢true}
use Rattle.rx_base.specs.Texts.{is_among}
use Rattle.rx_ast.specs.declared.term.Pattern.{Pattern}
use Rattle.rx_ast.specs.Tree as tree
use Rattle.rx_ast.specs.Tree.{Leaf, Node, Nodes, Alternatives, leaf, quantified, group, no_node, node, no_alternative, alternative, capturing, ignoring, looking, mirror, mirror_disjunction}
use Rattle.rx_model.specs.declared.mode.Mode.{Mode}
use Rattle.rx_model.specs.Trees.Names.{alternatives_groups, node_names, nodes_names, alternatives_names, opener_names, once_after, groups, names, AreApart, IsNodeApart, AreNodesApart, AreAlternativesApart, AreDistinct, AreNamesEarly}
use Rattle.rx_model.specs.Trees.Shapes.{takes, IsNode, AreNodes, HasAlternatives, AreAlternatives, IsWellMade}
use Rattle.rx_trace.specs.declared.answer.MatchFlags.{MatchFlags}
use Rattle.rx_trace.specs.Answers.{settings}
use Rattle.rx_trace.specs.Groups.{Names, groups_in_each, names_in, names_in_all, names_in_each}
use Rattle.rx_trace.specs.declared.settings.Settings.{Settings}
use Rattle.rx_trace.specs.Matching.{update_settings}
use Rattle.rx_rewrite.specs.declared.rewrites.Rewrites.{Rewrites}
use Rattle.rx_rewrite.specs.Rewriting.{number_of, modifiers_rewritten, node_rewritten, nodes_rewritten, alternatives_rewritten, flags_rewritten, rewritten}
use Rattle.rx_rewrite.proofs.Orders.{count-each}
use Rattle.rx_model.proofs.FirstPass.MarkNames.{contains_cases}
use Rattle.rx_rewrite.proofs.NamedSlots.{given_names, given-node, given-all, given-each}
use Rattle.rx_rewrite.proofs.LeafRewrites.{HoldsOfAll, leaf-all}
use Rattle.rx_rewrite.proofs.SameGroups.{names-node, names-all, names-each}
use Rattle.rx_rewrite.proofs.SameOutcomes as outcomes

given-none : (k : ℕ) → given_names (replicate k None) ≡ []
given-none zero = refl
given-none (suc k) = given-none k

-- A name that comes once is there.
pub once-there : (seen ns : List (List ℕ)) (name : List ℕ) → Contains (once_after seen ns) name → Contains ns name
once-there seen [] name there = there
once-there seen (n ∷ ns) name there = by_test (is_among seen n) there (once-there seen ns name) (once-there (n ∷ seen) ns name)
  where
    later : Contains ns name → Contains (n ∷ ns) name
    later (k, l, e) = (suc k, omega (arith, l), e)

    by_test : (b : Bool) → Contains (if b then once_after seen ns else n ∷ once_after (n ∷ seen) ns) name → (Contains (once_after seen ns) name → Contains ns name)
        → (Contains (once_after (n ∷ seen) ns) name → Contains ns name) → Contains (n ∷ ns) name
    by_test true there old new = later (old there)
    by_test false there old new = elim (contains_cases n (once_after (n ∷ seen) ns) name there) [ inl same ↦ (0, omega arith, same) | inr more ↦ later (new more) ]

no_contains : (name : List ℕ) → Contains [] name → ⊥
no_contains name there = let low = there.1 in absurd (omega arith)

nothing_apart : (others : List (List ℕ)) → AreApart [] others
nothing_apart others name there also = no_contains name there

module _ (what : Rewrites) (table : Names) where
  -- A name that is left was there.
  fewer : (asked : Bool) (ns : Names) (name : List ℕ) → Contains (given_names (map (λ n. if asked then None else n) ns)) name → Contains (given_names ns) name
  fewer true [] name there = there
  fewer true (n ∷ ns) name there = absurd (no_contains name (subst (λ xs. Contains xs name) (gone ns) there))
    where
      gone : (ns : Names) → given_names (map (λ n. if true then None else n) ns) ≡ []
      gone [] = refl
      gone (n ∷ ns) = gone ns
  fewer false [] name there = there
  fewer false (None ∷ ns) name there = fewer false ns name there
  fewer false (Some n ∷ ns) name there =
      elim (contains_cases n (given_names (map (λ n. if false then None else n) ns)) name there) [ inl same ↦ (0, omega arith, same) | inr more ↦ later (fewer false ns name more) ]
    where
      later : Contains (given_names ns) name → Contains (n ∷ given_names ns) name
      later (k, l, e) = (suc k, omega (arith, l), e)

  node-fewer : (old new : Settings) (n : Node) (name : List ℕ) → Contains (node_names (node_rewritten what table old new n)) name → Contains (node_names n) name
  node-fewer old new n name there =
      subst (λ xs. Contains xs name) (given-node n) (fewer what.named_capture_groups (names_in n) name
      (subst (λ ns. Contains (given_names ns) name) (names-node what table old new n) (subst (λ xs. Contains xs name) (sym (given-node (node_rewritten what table old new n))) there)))

  all-fewer : (old new : Settings) (ns : Nodes) (name : List ℕ) → Contains (nodes_names (nodes_rewritten what table old new ns)) name → Contains (nodes_names ns) name
  all-fewer old new ns name there =
      subst (λ xs. Contains xs name) (given-all ns) (fewer what.named_capture_groups (names_in_all ns) name
      (subst (λ ns. Contains (given_names ns) name) (names-all what table old new ns) (subst (λ xs. Contains xs name) (sym (given-all (nodes_rewritten what table old new ns))) there)))

  each-fewer : (old new : Settings) (more : Alternatives) (name : List ℕ) → Contains (alternatives_names (alternatives_rewritten what table old new more)) name → Contains (alternatives_names more) name
  each-fewer old new more name there =
      subst (λ xs. Contains xs name) (given-each more) (fewer what.named_capture_groups (names_in_each more) name
      (subst (λ ns. Contains (given_names ns) name) (names-each what table old new more) (subst (λ xs. Contains xs name) (sym (given-each (alternatives_rewritten what table old new more))) there)))

  own-fewer : (asked : Bool) (n : Option (List ℕ)) (name : List ℕ) → Contains (opener_names (capturing (if asked then None else n))) name → Contains (opener_names (capturing n)) name
  own-fewer true n name there = absurd (no_contains name there)
  own-fewer false n name there = there

  -- Names that were apart are.
  leaf-apart : (l : Leaf) → HoldsOfAll what table IsNodeApart l
  leaf-apart (tree.boundary b) = (tt, λ k. ((nothing_apart [], ((nothing_apart [], tt, tt), tt)), (nothing_apart [], ((nothing_apart [], tt, tt), tt))))
  leaf-apart (tree.character c) = tt
  leaf-apart (tree.dot d) = (tt, tt, tt)
  leaf-apart (tree.class_escape k) = tt
  leaf-apart (tree.property p) = tt
  leaf-apart (tree.class k) = tt
  leaf-apart (tree.indexed r) = tt
  leaf-apart (tree.named r) = tt

  mutual
    node-apart : (old new : Settings) (n : Node) → IsNodeApart n → IsNodeApart (node_rewritten what table old new n)
    node-apart old new (leaf l) apart = leaf-all what table IsNodeApart old new l (leaf-apart l)
    node-apart old new (quantified s min max greedy n) apart = node-apart old new n apart
    node-apart old new (group s (capturing n) d more) apart =
        (λ name own inside. apart.0 name (own-fewer what.named_capture_groups n name own) (each-fewer old new more name inside), each-apart old new more apart.1)
    node-apart old new (group s (ignoring m) d more) apart =
        (nothing_apart _, each-apart (update_settings m old) (update_settings (modifiers_rewritten what table m) new) more apart.1)
    node-apart old new (group s (looking kind) d more) apart = (nothing_apart _, each-apart old new more apart.1)

    all-apart : (old new : Settings) (ns : Nodes) → AreNodesApart ns → AreNodesApart (nodes_rewritten what table old new ns)
    all-apart old new no_node apart = tt
    all-apart old new (node n ns) apart =
        (λ name own after. apart.0 name (node-fewer old new n name own) (all-fewer old new ns name after), node-apart old new n apart.1, all-apart old new ns apart.2)

    pub each-apart : (old new : Settings) (more : Alternatives) → AreAlternativesApart more → AreAlternativesApart (alternatives_rewritten what table old new more)
    each-apart old new no_alternative apart = tt
    each-apart old new (alternative s ns more) apart = (all-apart old new ns apart.0, each-apart old new more apart.1)

  -- What a quantifier may follow it may follow still.
  leaf-takes : (mode : Mode) (l : Leaf) → takes mode (leaf l) ≡ true → HoldsOfAll what table (λ n. takes mode n ≡ true) l
  leaf-takes mode (tree.boundary b) may = absurd (false≢true may)
  leaf-takes mode (tree.character c) may = refl
  leaf-takes mode (tree.dot d) may = (refl, refl, refl)
  leaf-takes mode (tree.class_escape k) may = refl
  leaf-takes mode (tree.property p) may = refl
  leaf-takes mode (tree.class k) may = refl
  leaf-takes mode (tree.indexed r) may = refl
  leaf-takes mode (tree.named r) may = by_test what.named_capture_groups
    where
      by_test : (asked : Bool) → takes mode (leaf (if asked then tree.indexed (record { span = r.span; index = number_of r.name table }) else tree.named r)) ≡ true
      by_test true = refl
      by_test false = refl

  node-takes : (mode : Mode) (old new : Settings) (n : Node) → takes mode n ≡ true → takes mode (node_rewritten what table old new n) ≡ true
  node-takes mode old new (leaf l) may = leaf-all what table (λ n. takes mode n ≡ true) old new l (leaf-takes mode l may)
  node-takes mode old new (quantified s min max greedy n) may = may
  node-takes mode old new (group s (capturing name) d more) may = may
  node-takes mode old new (group s (ignoring m) d more) may = may
  node-takes mode old new (group s (looking kind) d more) may = may

  -- What has the shape of a pattern has it still.
  leaf-made : (mode : Mode) (l : Leaf) → HoldsOfAll what table (IsNode mode) l
  leaf-made mode (tree.boundary b) = (tt, λ k. (((tt, tt), tt), ((tt, tt), tt)))
  leaf-made mode (tree.character c) = tt
  leaf-made mode (tree.dot d) = (tt, tt, tt)
  leaf-made mode (tree.class_escape k) = tt
  leaf-made mode (tree.property p) = tt
  leaf-made mode (tree.class k) = tt
  leaf-made mode (tree.indexed r) = tt
  leaf-made mode (tree.named r) = tt

  mutual
    node-made : (mode : Mode) (old new : Settings) (n : Node) → IsNode mode n → IsNode mode (node_rewritten what table old new n)
    node-made mode old new (leaf l) made = leaf-all what table (IsNode mode) old new l (leaf-made mode l)
    node-made mode old new (quantified s min max greedy n) made = (node-takes mode old new n made.0, node-made mode old new n made.1)
    node-made mode old new (group s (capturing name) d more) made = some-made mode old new more made
    node-made mode old new (group s (ignoring m) d more) made = some-made mode (update_settings m old) (update_settings (modifiers_rewritten what table m) new) more made
    node-made mode old new (group s (looking kind) d more) made = some-made mode old new more made

    all-made : (mode : Mode) (old new : Settings) (ns : Nodes) → AreNodes mode ns → AreNodes mode (nodes_rewritten what table old new ns)
    all-made mode old new no_node made = tt
    all-made mode old new (node n ns) made = (node-made mode old new n made.0, all-made mode old new ns made.1)

    pub some-made : (mode : Mode) (old new : Settings) (more : Alternatives) → HasAlternatives mode more → HasAlternatives mode (alternatives_rewritten what table old new more)
    some-made mode old new no_alternative made = absurd made
    some-made mode old new (alternative s ns more) made = (all-made mode old new ns made.0, each-made mode old new more made.1)

    each-made : (mode : Mode) (old new : Settings) (more : Alternatives) → AreAlternatives mode more → AreAlternatives mode (alternatives_rewritten what table old new more)
    each-made mode old new no_alternative made = tt
    each-made mode old new (alternative s ns more) made = (all-made mode old new ns made.0, each-made mode old new more made.1)

-- A pattern and another whose tree is the rewritten one:
module _ (what : Rewrites) (flags : MatchFlags) (p q : Pattern) (is : mirror q ≡ rewritten what flags (mirror p)) where
  pub its_tree : (mirror_disjunction q.body).1 ≡ (rewritten what flags (mirror p)).1.1
  its_tree = ap (λ w. w.1.1) is

  -- they have as many groups,
  pub its_groups : groups q ≡ groups p
  its_groups =
      ap (λ more. alternatives_groups more) its_tree ∙ count-each (rewritten what flags (mirror p)).1.1 ∙ outcomes.its_groups what flags (mirror p)
      ∙ sym (count-each (mirror_disjunction p.body).1)

  no_own_names : what.named_capture_groups ≡ true → alternatives_names (mirror_disjunction q.body).1 ≡ []
  no_own_names asked =
      ap (λ more. alternatives_names more) its_tree ∙ sym (given-each (rewritten what flags (mirror p)).1.1) ∙ ap given_names (outcomes.no_names what flags (mirror p) asked)
      ∙ given-none (groups_in_each (mirror_disjunction p.body).1)

  all_own_names : what.named_capture_groups ≡ false → alternatives_names (mirror_disjunction q.body).1 ≡ alternatives_names (mirror_disjunction p.body).1
  all_own_names not_asked =
      ap (λ more. alternatives_names more) its_tree ∙ sym (given-each (rewritten what flags (mirror p)).1.1) ∙ ap given_names (outcomes.all_names what flags (mirror p) not_asked)
      ∙ given-each (mirror_disjunction p.body).1

  -- no name, where names are to go,
  pub no_names : what.named_capture_groups ≡ true → names q ≡ []
  no_names asked = ap (once_after []) (no_own_names asked)

  -- else the same names,
  pub all_names : what.named_capture_groups ≡ false → names q ≡ names p
  all_names not_asked = ap (once_after []) (all_own_names not_asked)

  -- which keep the early rule,
  pub its_names_early : (duplicate_names : Bool) → AreNamesEarly duplicate_names (mirror_disjunction p.body).1 → AreNamesEarly duplicate_names (mirror_disjunction q.body).1
  its_names_early true early = subst AreAlternativesApart (sym its_tree) (each-apart what (names_in_each (mirror_disjunction p.body).1) (settings flags) (settings (flags_rewritten what flags)) (mirror_disjunction p.body).1 early)
  its_names_early false early = by_test what.named_capture_groups refl
    where
      by_test : (asked : Bool) → what.named_capture_groups ≡ asked → AreDistinct (alternatives_names (mirror_disjunction q.body).1)
      by_test true asked = subst AreDistinct (sym (no_own_names asked)) tt
      by_test false not_asked = subst AreDistinct (sym (all_own_names not_asked)) early

  -- and the shape of a pattern.
  pub its_shape : (mode : Mode) → IsWellMade mode p → IsWellMade mode q
  its_shape mode made =
      subst (HasAlternatives mode) (sym its_tree) (some-made what (names_in_each (mirror_disjunction p.body).1) mode (settings flags) (settings (flags_rewritten what flags)) (mirror_disjunction p.body).1 made)
