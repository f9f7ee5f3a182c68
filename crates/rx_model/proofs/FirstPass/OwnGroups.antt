-- The first pass of a text finds the groups and the names of the tree that the text spells.
use Rattle.std.proofs.Common.{◌≡◌, ℕ, ◌+◌, Some, None, List, [], ◌∷◌, ◌++◌, append_assoc, refl, sym, ap, ap₂, ◌∙◌, subst, arith}
use Rattle.std.proofs.lemmas.List.{append-nil, map-append}
use Rattle.std.proofs.lemmas.List.Elements.{All-head, All-tail}
use Rattle.rx_base.specs.declared.span.Span.{Span}
use Rattle.rx_ast.specs.declared.term.Pattern.{Pattern}
use Rattle.rx_ast.specs.Tree as tree
use Rattle.rx_ast.specs.Tree.{Leaf, Node, Nodes, Alternatives, leaf, quantified, group, no_node, node, no_alternative, alternative, mirror_disjunction}
use Rattle.rx_units.specs.declared.code_point.CodePoint.{CodePoint}
use Rattle.rx_units.specs.Units.{values}
use Rattle.rx_model.specs.declared.mode.Mode.{Mode}
use Rattle.rx_model.specs.FirstPass.Cuts.{AreMarksOf, AreMarksOfAll, AreOthers, IsOpening, TellsGroups}
use Rattle.rx_model.specs.Inputs.Environment.{Environment, environment, environment_with, has_some}
use Rattle.rx_model.specs.Trees.Events.{within, node_events, nodes_events, alternatives_events, barred_events, tokens}
use Rattle.rx_model.specs.FirstPass.Marks as mark
use Rattle.rx_model.specs.FirstPass.Marks.{Mark, marks, count, listed, mark_count, mark_name}
use Rattle.rx_model.specs.Trees.Names.{once_after, opener_groups, opener_names, node_groups, nodes_groups, alternatives_groups, node_names, nodes_names, alternatives_names}
use Rattle.rx_model.specs.Refusals.Reached.{text_environment, text_groups, text_names}
use Rattle.rx_model.specs.Reading.Reading.{IsSpelled}
use Rattle.rx_model.specs.Reading.Rows.{TokenRow}
use Rattle.rx_model.specs.Trees.Token.{Token, Opener, boundary, character, dot, class_escape, property, class, indexed, named, opener, closer, bar, quantifier, capturing, opener_of, leaf_token}
use Rattle.rx_model.specs.declared.rules.Rules.{Rules}
use Rattle.rx_model.proofs.FirstPass.Cuts.{token_cut}
use Rattle.rx_model.proofs.Trees.Flat.{before, before-append, before_leaf, before_quantified, before_group, before_alternative, tokens_are}

-- the marks of a text are those of its tokens
pub row_marks : (e : Environment) (ts : List Token) (us : List CodePoint) → TokenRow e ts us [] → AreMarksOfAll e.mode ts (marks e.mode (values us))
row_marks e [] us r = ap (λ us. marks e.mode (values us)) r
row_marks e (t ∷ ts) us r =
    let c = token_cut e t r.0 r.1 r.3 in (
      c.cut,
      marks e.mode (values r.1),
      ap (λ us. marks e.mode (values us)) r.2 ∙ ap (marks e.mode) (map-append (λ (u : CodePoint). u.value) r.0 r.1) ∙ c.whole,
      c.are,
      row_marks e ts r.1 r.4,
    )

-- how many groups a token opens that capture, and their names
abbrev opened_groups : Opener → ℕ
opened_groups (capturing name) = 1
opened_groups q = 0

abbrev opened_names : Opener → List (List ℕ)
opened_names (capturing name) = listed name
opened_names q = []

abbrev token_groups : Token → ℕ
token_groups (boundary kind) = 0
token_groups (character kind value) = 0
token_groups dot = 0
token_groups (class_escape kind) = 0
token_groups (property negative strings name value) = 0
token_groups (class c) = 0
token_groups (indexed n) = 0
token_groups (named name) = 0
token_groups (opener o) = opened_groups o
token_groups q = 0

abbrev token_names : Token → List (List ℕ)
token_names (boundary kind) = []
token_names (character kind value) = []
token_names dot = []
token_names (class_escape kind) = []
token_names (property negative strings name value) = []
token_names (class c) = []
token_names (indexed n) = []
token_names (named name) = []
token_names (opener o) = opened_names o
token_names q = []

abbrev tokens_groups : List Token → ℕ
tokens_groups [] = 0
tokens_groups (t ∷ ts) = token_groups t + tokens_groups ts

abbrev tokens_names : List Token → List (List ℕ)
tokens_names [] = []
tokens_names (t ∷ ts) = token_names t ++ tokens_names ts

module _ (mode : Mode) where
  -- The marks open n groups that capture, of these names.
  record AreCounted (ms : List Mark) (n : ℕ) (found : List (List ℕ)) : Type 0 where
    count_is : count ms ≡ n
    names_are : mark.names mode ms ≡ found

  counted_append : (ms rest : List Mark) (n m : ℕ) (found more : List (List ℕ)) → AreCounted ms n found → AreCounted rest m more → AreCounted (ms ++ rest) (n + m) (found ++ more)
  counted_append ms rest n m found more c d = record {
    count_is = count_of ms ∙ ap₂ (λ n m. n + m) c.count_is d.count_is;
    names_are = names_of ms ∙ ap₂ (λ found more. found ++ more) c.names_are d.names_are;
  }
    where
      count_of : (ms : List Mark) → count (ms ++ rest) ≡ count ms + count rest
      count_of [] = omega arith
      count_of (m ∷ ms) = omega (arith, count_of ms)

      names_of : (ms : List Mark) → mark.names mode (ms ++ rest) ≡ mark.names mode ms ++ mark.names mode rest
      names_of [] = refl
      names_of (m ∷ ms) =
          ap (λ found. listed (mark_name mode m) ++ found) (names_of ms)
          ∙ sym (append_assoc (listed (mark_name mode m)) (mark.names mode ms) (mark.names mode rest))

  counted_front : (m : Mark) (ms : List Mark) (n : ℕ) (found : List (List ℕ)) → mark_count m ≡ n → listed (mark_name mode m) ≡ found → AreCounted ms 0 [] → AreCounted (m ∷ ms) n found
  counted_front m ms n found h k c = record {
    count_is = omega (arith, h, c.count_is);
    names_are = ap₂ (λ here more. here ++ more) k c.names_are ∙ append-nil found;
  }

  others_counted : (ms : List Mark) → AreOthers ms → AreCounted ms 0 []
  others_counted [] h = record { count_is = refl; names_are = refl }
  others_counted (m ∷ ms) h =
      let first : m ≡ mark.other = All-head (λ m. m ≡ mark.other) m ms h in
      counted_front m ms 0 [] (ap mark_count first) (ap (λ m. listed (mark_name mode m)) first) (others_counted ms (All-tail (λ m. m ≡ mark.other) m ms h))

  alone_counted : (m : Mark) (ms : List Mark) → ms ≡ m ∷ [] → AreCounted (m ∷ []) 0 [] → AreCounted ms 0 []
  alone_counted m ms e c = subst (λ ms. AreCounted ms 0 []) (sym e) c

  opening_counted : (o : Opener) (m : Mark) → IsOpening mode o m → (mark_count m ≡ opened_groups o) × (listed (mark_name mode m) ≡ opened_names o)
  opening_counted (capturing None) m h = (ap mark_count h, ap (λ m. listed (mark_name mode m)) h)
  opening_counted (capturing (Some name)) m h = (ap mark_count h.1, ap (λ m. listed (mark_name mode m)) h.1 ∙ ap listed h.2)
  opening_counted q m h = (ap mark_count h, ap (λ m. listed (mark_name mode m)) h)

  token_counted : (t : Token) (ms : List Mark) → AreMarksOf mode t ms → AreCounted ms (token_groups t) (token_names t)
  token_counted (boundary kind) ms h = others_counted ms h
  token_counted (character kind value) ms h = others_counted ms h
  token_counted dot ms h = others_counted ms h
  token_counted (class_escape kind) ms h = others_counted ms h
  token_counted (property negative strings name value) ms h = others_counted ms h
  token_counted (class c) ms h = others_counted ms h
  token_counted (indexed n) ms h = others_counted ms h
  token_counted (named name) ms h = others_counted ms h
  token_counted (opener o) ms h =
      let c = opening_counted o h.0 h.3 in
      subst (λ ms. AreCounted ms (opened_groups o) (opened_names o)) (sym h.2) (counted_front h.0 h.1 (opened_groups o) (opened_names o) c.0 c.1 (others_counted h.1 h.4))
  token_counted closer ms h = alone_counted mark.closer ms h (record { count_is = refl; names_are = refl })
  token_counted bar ms h = alone_counted mark.bar ms h (record { count_is = refl; names_are = refl })
  token_counted (quantifier min max greedy) ms h = others_counted ms h

  -- the marks of a row tell its groups and their names
  row_counted : (ts : List Token) (ms : List Mark) → AreMarksOfAll mode ts ms → AreCounted ms (tokens_groups ts) (tokens_names ts)
  row_counted [] ms h = record { count_is = ap count h; names_are = ap (mark.names mode) h }
  row_counted (t ∷ ts) ms h =
      subst (λ ms. AreCounted ms (tokens_groups (t ∷ ts)) (tokens_names (t ∷ ts))) (sym h.2)
      (counted_append h.0 h.1 (token_groups t) (tokens_groups ts) (token_names t) (tokens_names ts) (token_counted t h.0 h.3) (row_counted ts h.1 h.4))

-- These tokens have n groups and these names more than others.
record HasMore (more ts : List Token) (n : ℕ) (found : List (List ℕ)) : Type 0 where
  groups_more : tokens_groups more ≡ n + tokens_groups ts
  names_more : tokens_names more ≡ found ++ tokens_names ts

no_more : (ts : List Token) → HasMore ts ts 0 []
no_more ts = record { groups_more = omega arith; names_more = refl }

more_twice : (most more ts : List Token) (n m : ℕ) (found others : List (List ℕ)) → HasMore most more n found → HasMore more ts m others → HasMore most ts (n + m) (found ++ others)
more_twice most more ts n m found others h k = record {
  groups_more = omega (arith, h.groups_more, k.groups_more);
  names_more = h.names_more ∙ ap (λ names. found ++ names) k.names_more ∙ sym (append_assoc found others (tokens_names ts));
}

-- before a token that opens no group that captures, and after it
more_before : (t : Token) (more ts : List Token) (n : ℕ) (found : List (List ℕ)) → token_groups t ≡ 0 → token_names t ≡ [] → HasMore more (t ∷ ts) n found → HasMore more ts n found
more_before t more ts n found none unnamed h = record {
  groups_more = omega (arith, h.groups_more, none);
  names_more = h.names_more ∙ ap (λ names. found ++ (names ++ tokens_names ts)) unnamed;
}

more_after : (t : Token) (more ts : List Token) (n : ℕ) (found : List (List ℕ)) → token_groups t ≡ 0 → token_names t ≡ [] → HasMore more ts n found → HasMore (t ∷ more) ts n found
more_after t more ts n found none unnamed h = record {
  groups_more = omega (arith, h.groups_more, none);
  names_more = ap (λ names. names ++ tokens_names more) unnamed ∙ h.names_more;
}

opener_more : (o : tree.Opener) (ts : List Token) → HasMore (opener (opener_of o) ∷ ts) ts (opener_groups o) (opener_names o)
opener_more (tree.capturing None) ts = record { groups_more = refl; names_more = refl }
opener_more (tree.capturing (Some name)) ts = record { groups_more = refl; names_more = refl }
opener_more (tree.ignoring modifiers) ts = record { groups_more = refl; names_more = refl }
opener_more (tree.looking kind) ts = record { groups_more = refl; names_more = refl }

leaf_opens_none : (l : Leaf) → (token_groups (leaf_token l) ≡ 0) × (token_names (leaf_token l) ≡ [])
leaf_opens_none (tree.boundary b) = (refl, refl)
leaf_opens_none (tree.character c) = (refl, refl)
leaf_opens_none (tree.dot d) = (refl, refl)
leaf_opens_none (tree.class_escape e) = (refl, refl)
leaf_opens_none (tree.property p) = (refl, refl)
leaf_opens_none (tree.class c) = (refl, refl)
leaf_opens_none (tree.indexed r) = (refl, refl)
leaf_opens_none (tree.named r) = (refl, refl)

-- an alternative and those after it
alternative_more : (s : Span) (ns : Nodes) (all : Alternatives) (ts : List Token) →
    HasMore (before (nodes_events ns) (before (barred_events all) ts)) (before (barred_events all) ts) (nodes_groups ns) (nodes_names ns) →
    HasMore (before (barred_events all) ts) ts (alternatives_groups all) (alternatives_names all) →
    HasMore (before (within s (nodes_events ns) ++ barred_events all) ts) ts (nodes_groups ns + alternatives_groups all) (nodes_names ns ++ alternatives_names all)
alternative_more s ns all ts h k =
    subst (λ more. HasMore more ts (nodes_groups ns + alternatives_groups all) (nodes_names ns ++ alternatives_names all)) (sym (before_alternative s (nodes_events ns) (barred_events all) ts))
    (more_twice (before (nodes_events ns) (before (barred_events all) ts)) (before (barred_events all) ts) ts (nodes_groups ns) (alternatives_groups all) (nodes_names ns) (alternatives_names all) h k)

-- the tokens of a tree have its groups and names
mutual
  node_more : (n : Node) (ts : List Token) → HasMore (before (node_events n) ts) ts (node_groups n) (node_names n)
  node_more (leaf l) ts =
      let none = leaf_opens_none l in
      subst (λ more. HasMore more ts 0 []) (sym (before_leaf l _ ts)) (more_after (leaf_token l) ts ts 0 [] none.0 none.1 (no_more ts))
  node_more (quantified s min max greedy n) ts =
      let t = quantifier min max greedy in
      subst (λ more. HasMore more ts (node_groups n) (node_names n)) (sym (before_quantified s (node_events n) t ts))
      (more_before t (before (node_events n) (t ∷ ts)) ts (node_groups n) (node_names n) refl refl (node_more n (t ∷ ts)))
  node_more (group s o d inner) ts =
      let body = before (alternatives_events inner) (closer ∷ ts) in
      subst (λ more. HasMore more ts (node_groups (group s o d inner)) (node_names (group s o d inner))) (sym (before_group s d o (alternatives_events inner) ts))
      (more_twice (opener (opener_of o) ∷ body) body ts (opener_groups o) (alternatives_groups inner) (opener_names o) (alternatives_names inner) (opener_more o body)
      (more_before closer body ts (alternatives_groups inner) (alternatives_names inner) refl refl (alternatives_more inner (closer ∷ ts))))

  nodes_more : (ns : Nodes) (ts : List Token) → HasMore (before (nodes_events ns) ts) ts (nodes_groups ns) (nodes_names ns)
  nodes_more no_node ts = no_more ts
  nodes_more (node n ns) ts =
      subst (λ more. HasMore more ts (nodes_groups (node n ns)) (nodes_names (node n ns))) (sym (before-append (node_events n) (nodes_events ns) ts))
      (more_twice (before (node_events n) (before (nodes_events ns) ts)) (before (nodes_events ns) ts) ts (node_groups n) (nodes_groups ns) (node_names n) (nodes_names ns)
      (node_more n (before (nodes_events ns) ts)) (nodes_more ns ts))

  alternatives_more : (all : Alternatives) (ts : List Token) → HasMore (before (alternatives_events all) ts) ts (alternatives_groups all) (alternatives_names all)
  alternatives_more no_alternative ts = no_more ts
  alternatives_more (alternative s ns all) ts = alternative_more s ns all ts (nodes_more ns (before (barred_events all) ts)) (barred_more all ts)

  barred_more : (all : Alternatives) (ts : List Token) → HasMore (before (barred_events all) ts) ts (alternatives_groups all) (alternatives_names all)
  barred_more no_alternative ts = no_more ts
  barred_more (alternative s ns all) ts =
      more_after bar (before (within s (nodes_events ns) ++ barred_events all) ts) ts (nodes_groups ns + alternatives_groups all) (nodes_names ns ++ alternatives_names all) refl refl
      (alternative_more s ns all ts (nodes_more ns (before (barred_events all) ts)) (barred_more all ts))

-- all the names that the marks open, in order
pub all_names : (e : Environment) (p : Pattern) (us : List CodePoint) → TokenRow e (tokens p) us [] → mark.names e.mode (marks e.mode (values us)) ≡ alternatives_names (mirror_disjunction p.body).1
all_names e p us row =
    let all = (mirror_disjunction p.body).1 in
    let marked = row_counted e.mode (tokens p) (marks e.mode (values us)) (row_marks e (tokens p) us row) in
    let more = subst (λ ts. HasMore ts [] (alternatives_groups all) (alternatives_names all)) (sym (tokens_are p)) (alternatives_more all []) in
    marked.names_are ∙ more.names_more ∙ append-nil (alternatives_names all)

-- whatever the environment of the row
tells_by : (e : Environment) (p : Pattern) (us : List CodePoint) → TokenRow e (tokens p) us [] → TellsGroups e.mode p us
unfolding text_groups text_names
tells_by e p us row =
    let all = (mirror_disjunction p.body).1 in
    let marked = row_counted e.mode (tokens p) (marks e.mode (values us)) (row_marks e (tokens p) us row) in
    let more = subst (λ ts. HasMore ts [] (alternatives_groups all) (alternatives_names all)) (sym (tokens_are p)) (alternatives_more all []) in
    record {
      groups_are = omega (arith, marked.count_is, more.groups_more);
      names_are = ap (once_after []) (all_names e p us row);
    }

pub tells_groups : (mode : Mode) (rules : Rules) (p : Pattern) (us : List CodePoint) → IsSpelled mode rules p us → TellsGroups mode p us
tells_groups mode rules p us s = tells_by (environment mode rules p) p us s.row

-- so the environment of a text is that of the tree whose tokens it spells
pub environment_by : (rules : Rules) (e : Environment) (p : Pattern) (us : List CodePoint) → TokenRow e (tokens p) us [] → text_environment e.mode rules us ≡ environment e.mode rules p
environment_by rules e p us row =
    let t = tells_by e p us row in
    ap₂ (λ n found. environment_with e.mode rules.buffer_boundaries n (has_some found)) t.groups_are t.names_are

pub own_environment : (mode : Mode) (rules : Rules) (p : Pattern) (us : List CodePoint) → IsSpelled mode rules p us → text_environment mode rules us ≡ environment mode rules p
own_environment mode rules p us s = environment_by rules (environment mode rules p) p us s.row
