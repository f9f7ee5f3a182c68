-- The first pass finds two groups of one name that might both take part exactly where the tree holds such.
use Rattle.std.proofs.Common.{◌≡◌, refl, sym, Bool, true, false, ◌∙◌, subst, ℕ, suc, ◌≤◌, List, [], ◌∷◌, drop, arith}
use Rattle.rx_ast.specs.declared.term.Pattern.{Pattern}
use Rattle.rx_ast.specs.Tree.{Node, Nodes, Alternatives, leaf, quantified, group, no_node, node, no_alternative, alternative, mirror_disjunction}
use Rattle.rx_units.specs.declared.code_point.CodePoint.{CodePoint}
use Rattle.rx_units.specs.Units.{values}
use Rattle.rx_model.specs.declared.mode.Mode.{Mode}
use Rattle.rx_model.specs.FirstPass.Cuts.{AreMarksOfAll, TellsApart}
use Rattle.rx_model.specs.Inputs.Environment.{Environment, environment}
use Rattle.rx_model.specs.Trees.Events.{node_events, nodes_events, alternatives_events, barred_events, tokens}
use Rattle.rx_model.specs.FirstPass.GroupStates.{GroupState, group_states}
use Rattle.rx_model.specs.FirstPass.Marks.{Mark, Clash, mark_at, marks}
use Rattle.rx_model.specs.Trees.Names.{AreDistinct, node_names, nodes_names, alternatives_names, IsNodeApart, AreNodesApart, AreAlternativesApart}
use Rattle.rx_model.specs.Reading.Reading.{IsSpelled}
use Rattle.rx_model.specs.Trees.Token.{Token, closer, quantifier}
use Rattle.rx_model.specs.declared.rules.Rules.{Rules}
use Rattle.rx_model.proofs.Trees.Flat.{before, before-append, before_leaf, before_quantified, before_group, before_alternative, tokens_are}
use Rattle.rx_model.proofs.FirstPass.GroupStretches.{SeesAsBefore, IsBody, no_body, alternative_body, bar_body, after_bar, after_opening, group_stretch}
use Rattle.rx_model.proofs.FirstPass.MarkRows.{AreFrom, no_mark, past_end, named_before_end, leaf_then, quantifier_then, opener_then, closer_then, bar_then, opening_step}
use Rattle.rx_model.proofs.FirstPass.OwnGroups.{all_names, row_marks}
use Rattle.rx_model.proofs.FirstPass.Distinct.{are_distinct, none_twice}
use Rattle.rx_model.specs.Reading.Rows.{TokenRow}
use Rattle.rx_model.proofs.FirstPass.PartedMarks.{hidden_parted, parted_hidden}
use Rattle.rx_model.proofs.FirstPass.Stretches.{AreClear, IsStretch, others_stretch, others_after, stretches}

module _ (mode : Mode) (ms : List Mark) where
  -- From k on stands a stretch, and then these tokens.
  abbrev StretchThen : ℕ → List Token → Type 0 → List (List ℕ) → Type 0
  StretchThen k ts rule names = (j : ℕ) × AreFrom mode ms j ts × IsStretch mode ms k j rule names

  -- From k on stand alternatives of a group, and then these tokens.
  abbrev BodyThen : ℕ → List GroupState → ℕ → List Token → Type 0 → List (List ℕ) → Type 0
  BodyThen s fs k ts rule names = (j : ℕ) × AreFrom mode ms j ts × IsBody mode ms s fs k j rule names

  -- A node is a stretch, with the rule and the names of the tree; so are the nodes of an alternative. The alternatives of a group are a body.
  mutual
    node_apart : (n : Node) (ts : List Token) (k : ℕ) → AreFrom mode ms k (before (node_events n) ts) → StretchThen k ts (IsNodeApart n) (node_names n)
    node_apart (leaf l) ts k c =
        let h = leaf_then mode ms l ts k (subst (AreFrom mode ms k) (before_leaf l _ ts) c) in
        (h.0, h.2, others_stretch mode ms k h.0 h.1)
    node_apart (quantified s min max greedy n) ts k c =
        let q = quantifier min max greedy in
        let h = node_apart n (q ∷ ts) k (subst (AreFrom mode ms k) (before_quantified s (node_events n) q ts) c) in
        let o = quantifier_then mode ms min max greedy ts h.0 h.1 in
        (o.0, o.2, others_after mode ms k h.0 o.0 (IsNodeApart n) (node_names n) h.2 o.1)
    node_apart (group s o d more) ts k c =
        let h = opener_then mode ms o (before (alternatives_events more) (closer ∷ ts)) k (subst (AreFrom mode ms k) (before_group s d o (alternatives_events more) ts) c) in
        let others = h.1.1 in
        let opened : group_states ms (suc k) ≡ (suc k, suc k) ∷ group_states ms k = opening_step mode o (mark_at ms k) k (group_states ms k) h.0 in
        let v = after_opening mode ms (suc k) (group_states ms k) h.1.0 opened others in
        let b = alternatives_apart more (suc k) (group_states ms k) h.1.0 (closer ∷ ts) v.0 others.up v.1 h.1.2 in
        let e = closer_then mode ms ts b.0 b.1 in
        (suc b.0, e.1, group_stretch mode ms o k h.1.0 b.0 (AreAlternativesApart more) (alternatives_names more) h.0 others b.2 e.0)

    nodes_apart : (ns : Nodes) (ts : List Token) (k : ℕ) → AreFrom mode ms k (before (nodes_events ns) ts) → StretchThen k ts (AreNodesApart ns) (nodes_names ns)
    nodes_apart no_node ts k c = (k, c, others_stretch mode ms k k (no_mark ms k))
    nodes_apart (node n ns) ts k c =
        let h = node_apart n (before (nodes_events ns) ts) k (subst (AreFrom mode ms k) (before-append (node_events n) (nodes_events ns) ts) c) in
        let r = nodes_apart ns ts h.0 h.1 in
        (r.0, r.1, stretches mode ms k h.0 r.0 (IsNodeApart n) (AreNodesApart ns) (node_names n) (nodes_names ns) h.2 r.2)

    alternatives_apart : (more : Alternatives) (s : ℕ) (fs : List GroupState) (k : ℕ) (ts : List Token) → group_states ms k ≡ (s, s) ∷ fs → s ≤ k → SeesAsBefore mode ms s fs k →
        AreFrom mode ms k (before (alternatives_events more) ts) → BodyThen s fs k ts (AreAlternativesApart more) (alternatives_names more)
    alternatives_apart no_alternative s fs k ts e le v c = (k, c, no_body mode ms s s fs k e)
    alternatives_apart (alternative d ns more) s fs k ts e le v c =
        let h = nodes_apart ns (before (barred_events more) ts) k (subst (AreFrom mode ms k) (before_alternative d (nodes_events ns) (barred_events more) ts) c) in
        let up = h.2.up in
        let r = barred_apart more s s fs h.0 ts (h.2.same ∙ e) (omega arith) h.1 in
        (r.0, r.1, alternative_body mode ms s fs k h.0 r.0 (AreNodesApart ns) (AreAlternativesApart more) (nodes_names ns) (alternatives_names more) v h.2 r.2)

    barred_apart : (more : Alternatives) (s last : ℕ) (fs : List GroupState) (k : ℕ) (ts : List Token) → group_states ms k ≡ (s, last) ∷ fs → s ≤ k →
        AreFrom mode ms k (before (barred_events more) ts) → BodyThen s fs k ts (AreAlternativesApart more) (alternatives_names more)
    barred_apart no_alternative s last fs k ts e le c = (k, c, no_body mode ms s last fs k e)
    barred_apart (alternative d ns more) s last fs k ts e le c =
        let b = bar_then mode ms _ k c in
        let v = after_bar mode ms s last fs k e le b.0 in
        let h = nodes_apart ns (before (barred_events more) ts) (suc k) (subst (AreFrom mode ms (suc k)) (before_alternative d (nodes_events ns) (barred_events more) ts) b.1) in
        let up = h.2.up in
        let r = barred_apart more s k fs h.0 ts (h.2.same ∙ v.0) (omega arith) h.1 in (
          r.0,
          r.1,
          bar_body mode ms s fs k r.0 (AreAlternativesApart (alternative d ns more)) (alternatives_names (alternative d ns more)) b.0
              (alternative_body mode ms s fs (suc k) h.0 r.0 (AreNodesApart ns) (AreAlternativesApart more) (nodes_names ns) (alternatives_names more) v.1 h.2 r.2),
        )

  -- marks without a clash are clear
  clear_from : (j : ℕ) → ((a b : ℕ) → Clash mode true ms a b → ⊥) → AreClear mode ms 0 j
  clear_from j f b name l g h v = f v.0 b (record { in_order = v.1; name = name; first = v.2; second = h; together = λ _ p. v.3 (parted_hidden ms v.0 b p) })

  -- and clear marks are without a clash
  no_clash_from : (j : ℕ) → drop j ms ≡ [] → AreClear mode ms 0 j → (a b : ℕ) → Clash mode true ms a b → ⊥
  no_clash_from j e f a b c =
      let end = past_end ms j e in
      let here = named_before_end mode ms b c.name c.second in
      f b c.name (omega arith) (omega arith) c.second (a, c.in_order, c.first, λ h. c.together refl (hidden_parted ms a b h))

  -- the alternatives of a whole text are a body in no group
  whole_apart : (more : Alternatives) → AreFrom mode ms 0 (before (alternatives_events more) []) → BodyThen 0 [] 0 [] (AreAlternativesApart more) (alternatives_names more)
  whole_apart more c = alternatives_apart more 0 [] 0 [] refl (omega arith) (λ name. (λ v. let l = v.1 in absurd (omega arith), λ v. let l = v.1 in absurd (omega arith))) c

-- where the marks of a whole text do not clash, the names of its tree are apart
apart_from : (mode : Mode) (ms : List Mark) (more : Alternatives) → AreFrom mode ms 0 (before (alternatives_events more) []) → ((a b : ℕ) → Clash mode true ms a b → ⊥) → AreAlternativesApart more
apart_from mode ms more c f = let b = whole_apart mode ms more c in (b.2.sound (clear_from mode ms b.0 f)).0

-- and where they are apart, the marks do not clash
no_clash_of : (mode : Mode) (ms : List Mark) (more : Alternatives) → AreFrom mode ms 0 (before (alternatives_events more) []) → AreAlternativesApart more → (a b : ℕ) → Clash mode true ms a b → ⊥
no_clash_of mode ms more c r =
    let b = whole_apart mode ms more c in
    no_clash_from mode ms b.0 b.1 (b.2.whole r (λ name h v. let l = v.1 in absurd (omega arith)))

-- the marks of a text are those of the alternatives of its tree
alternatives_marks : (e : Environment) (p : Pattern) (us : List CodePoint) → TokenRow e (tokens p) us [] →
    AreFrom e.mode (marks e.mode (values us)) 0 (before (alternatives_events (mirror_disjunction p.body).1) [])
alternatives_marks e p us row =
    subst (λ ts. AreMarksOfAll e.mode ts (marks e.mode (values us))) (tokens_are p) (row_marks e (tokens p) us row)

-- where two groups may have one name, and where none may
apart_by : (duplicate_names : Bool) (e : Environment) (p : Pattern) (us : List CodePoint) → TokenRow e (tokens p) us [] → TellsApart e.mode duplicate_names p us
apart_by true e p us row =
    let c = alternatives_marks e p us row in record {
      apart = apart_from e.mode (marks e.mode (values us)) (mirror_disjunction p.body).1 c;
      no_clash = no_clash_of e.mode (marks e.mode (values us)) (mirror_disjunction p.body).1 c;
    }
apart_by false e p us row =
    let ms = marks e.mode (values us) in
    let found = all_names e p us row in record {
      apart = λ none. subst AreDistinct found (are_distinct e.mode ms (λ a b name l h k.
          none a b (record { in_order = l; name = name; first = h; second = k; together = λ no. absurd (let never : ⊥ = cc no in never) })));
      no_clash = λ d a b c. none_twice e.mode ms (subst AreDistinct (sym found) d) a b c.name c.in_order c.first c.second;
    }

pub tells_apart : (mode : Mode) (rules : Rules) (p : Pattern) (us : List CodePoint) → IsSpelled mode rules p us → TellsApart mode rules.duplicate_names p us
tells_apart mode rules p us r = apart_by rules.duplicate_names (environment mode rules p) p us r.row
