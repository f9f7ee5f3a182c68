-- What the loop of the linter has still to list.
use Rattle.std.proofs.Common.{◌≡◌, refl, ap, sym, ◌∙◌, subst, ℕ, ◌<◌, Option, Some, None, List, [], ◌∷◌, ◌++◌, append_assoc, append-nil, map, reverse, Bor}
use Rattle.std.specs.Option.{MatchOption, IsSome}
use Rattle.std.proofs.lemmas.List.{map-append, reverse-append, same_from_push}
use Rattle.rx_ast.specs.Kinds.{Kind, children, order, pattern}
use Rattle.rx_ast.specs.MirrorKinds.{mirror_kind}
use Rattle.rx_ast.specs.Tree.{Whole, mirror}
use Rattle.rx_ast.specs.declared.ast_kind.RegExpAstKind.{RegExpAstKind}
use Rattle.rx_ast.specs.declared.term.Pattern.{Pattern}
use Rattle.rx_visit.specs.Siblings.{in_order}
use Rattle.rx_visit.specs.declared.siblings.Siblings.{Siblings}
use Rattle.rx_visit.specs.declared.siblings.Siblings.TheVariants as are
use Rattle.rx_lint.proofs.SiblingsToCome.{to_come, to_come-first, to_come-past, to_come-next, turns, fewer-past, fewer-next}
use Rattle.rx_lint.specs.declared.earlier.Earlier.{Earlier}
use Rattle.rx_lint.specs.declared.earlier.Earlier.TheVariants.{Unasked}
use Rattle.rx_lint.specs.declared.earlier.Mark.{Mark}
use Rattle.rx_lint.specs.declared.finding.Finding.{Finding}
use Rattle.rx_lint.specs.declared.linting.Step.{Step}
use Rattle.rx_lint.specs.Earlier.{AreEarlier, IsMark}
use Rattle.rx_lint.specs.Findings.{findings, findings_at}
use Rattle.rx_lint.specs.NodeFindings.{findings_by}
use Rattle.rx_lint.specs.Numbers.{numbers}
use Rattle.rx_lint.specs.Rows.{AreNumbered, kind_of, rows_of}
use Rattle.rx_lint.specs.declared.numbers.Beginning.{Beginning}
use Rattle.rx_lint.proofs.PlaceFindings.{findings_of, findings_cut, found_is}
use Rattle.rx_lint.proofs.WholeRows.{rows_of_order}

-- A step waits to list findings, with which more are to come.
pub record Waits (p : Whole) (s : Step) (more rest : List Finding) : Type 0 where
  pub parent : Option Kind
  pub before : List Kind
  pub earlier : AreEarlier s.earlier parent before (in_order s.siblings)
  pub found : more ≡ findings_of p parent before (in_order s.siblings) ++ rest

-- what all steps wait to list, the first of them first
abbrev pub AreToCome : Whole → List Step → List Finding → Type 0
AreToCome p [] more = more ≡ []
AreToCome p (s ∷ ss) more = (rest : List Finding) × (Waits p s more rest × AreToCome p ss rest)

abbrev pub siblings_of : List Step → List Siblings
siblings_of left = map (λ (s : Step). s.siblings) left

abbrev now_of : List (Bor (List ℕ)) → List (List ℕ)
now_of rows = map (λ (row : Bor (List ℕ)). row.now) rows

-- The findings are those that are listed and those that are to come: the last step comes first. The rows that are left are those of the nodes to come.
pub record IsListed (p : Whole) (listed : List Finding) (left : List Step) (rows : List (Bor (List ℕ))) : Type 0 where
  pub rest : List Finding
  pub whole : findings p ≡ listed ++ rest
  pub waiting : AreToCome p (reverse left) rest
  pub rows_are : map (λ (row : Bor (List ℕ)). row.now) rows ≡ reverse (map numbers (to_come (siblings_of left)))

last_first : (left : List Step) (s : Step) → reverse (left ++ (s ∷ [])) ≡ s ∷ reverse left
last_first left s = reverse-append left (s ∷ [])

siblings_pushed : (before left : List Step) (s : Step) → before ≡ left ++ (s ∷ []) → siblings_of before ≡ siblings_of left ++ (s.siblings ∷ [])
siblings_pushed before left s is = ap siblings_of is ∙ map-append (λ (s : Step). s.siblings) left (s ∷ [])

popped : (p : Whole) (before left : List Step) (s : Step) (more : List Finding) → before ≡ left ++ (s ∷ []) → AreToCome p (reverse before) more → AreToCome p (s ∷ reverse left) more
popped p before left s more is waits = subst (λ ss. AreToCome p ss more) (ap reverse is ∙ last_first left s) waits

-- the step at the beginning
pub listed_first : (pattern' : Pattern) (none left : List Step) (listed : List Finding) (rows : List (Bor (List ℕ))) (node : RegExpAstKind) → none ≡ [] → left ≡ none ++ (record { siblings = are.Node node; earlier = Unasked } ∷ []) → mirror_kind node ≡ pattern (mirror pattern') → listed ≡ [] →
    map (λ (row : Bor (List ℕ)). row.now) rows ≡ reverse (map numbers (order (pattern (mirror pattern')))) → IsListed (mirror pattern') listed left rows
listed_first pattern' none left listed rows node empty pushed root fresh rows_are =
    let p = mirror pattern' in
    let s : Step = record { siblings = are.Node node; earlier = Unasked } in
    let one : left ≡ s ∷ [] = pushed ∙ ap (λ ss. ss ++ (s ∷ [])) empty in
    let nodes : to_come (siblings_of left) ≡ order (pattern p) = to_come-first (siblings_of none) (siblings_of left) node (ap siblings_of empty) (siblings_pushed left none s pushed) ∙ ap order root in
    let waits : Waits p s (findings p) [] = record {
      parent = None;
      before = [];
      earlier = subst (λ k. AreEarlier Unasked None [] (k ∷ [])) (sym root) (record { item = refl; many = refl; equal = refl }, tt);
      found = sym (append-nil (findings p)) ∙ ap (λ k. findings_of p None [] (k ∷ []) ++ []) (sym root);
    } in
    record {
      rest = findings p;
      whole = ap (λ fs. fs ++ findings p) (sym fresh);
      waiting = subst (λ ss. AreToCome p (reverse ss) (findings p)) (sym one) ([], (waits, refl));
      rows_are = rows_are ∙ ap (λ ks. reverse (map numbers ks)) (sym nodes);
    }

-- no node is left of a step
pub listed_past : {p : Whole} {listed : List Finding} {rows : List (Bor (List ℕ))} (before left : List Step) (s : Step) → before ≡ left ++ (s ∷ []) → in_order s.siblings ≡ [] → IsListed p listed before rows → IsListed p listed left rows
listed_past {p} {listed} before left s is none so_far =
    let w = popped p before left s so_far.rest is so_far.waiting in
    let it = w.1.0 in
    let same : so_far.rest ≡ w.0 = it.found ∙ ap (λ ks. findings_of p it.parent it.before ks ++ w.0) none in
    record {
      rest = w.0;
      whole = so_far.whole ∙ ap (λ fs. listed ++ fs) same;
      waiting = w.1.1;
      rows_are = so_far.rows_are ∙ ap (λ ks. reverse (map numbers ks)) (to_come-past (siblings_of before) (siblings_of left) s.siblings (siblings_pushed before left s is) none);
    }

-- the row of the first node to come
pub rows_cut : {p : Whole} {listed : List Finding} {rows : List (Bor (List ℕ))} (before left : List Step) (s : Step) (others within : Siblings) (k : Kind) → before ≡ left ++ (s ∷ []) → in_order s.siblings ≡ k ∷ in_order others → in_order within ≡ children k → IsListed p listed before rows →
    map (λ (row : Bor (List ℕ)). row.now) rows ≡ reverse (map numbers (to_come ((siblings_of left ++ (others ∷ [])) ++ (within ∷ [])))) ++ (numbers k ∷ [])
rows_cut before left s others within k is cut in_it so_far =
    so_far.rows_are ∙ ap (λ ks. reverse (map numbers ks)) (to_come-next (siblings_of before) (siblings_of left) (siblings_of left ++ (others ∷ [])) ((siblings_of left ++ (others ∷ [])) ++ (within ∷ [])) s.siblings others within k (siblings_pushed before left s is) cut refl refl in_it)
    ∙ reverse-append (numbers k ∷ []) (map numbers (to_come ((siblings_of left ++ (others ∷ [])) ++ (within ∷ []))))

none_pushed : {X : Type 0} (xs : List X) (x : X) → [] ≡ xs ++ (x ∷ []) → ⊥
none_pushed [] x e = cc
none_pushed (y ∷ xs) x e = cc

pub some_row : (rows fewer : List (Bor (List ℕ))) (ns : List (List ℕ)) (n : List ℕ) (row : Option (Bor (List ℕ))) → map (λ (row : Bor (List ℕ)). row.now) rows ≡ ns ++ (n ∷ []) → MatchOption row ((rows ≡ []) × (fewer ≡ [])) (λ last. rows ≡ fewer ++ (last ∷ [])) → IsSome row
some_row rows fewer ns n (Some row) are is = refl
some_row rows fewer ns n None are is = absurd (none_pushed ns n (sym (ap now_of is.0) ∙ are))

-- a node is listed, with which those in it and those after it are to come
pub listed_next : {p : Whole} {listed grown : List Finding} {rows fewer : List (Bor (List ℕ))} (before left one both : List Step) (s : Step) (others within : Siblings) (later start : Earlier) (node : RegExpAstKind) (mark : Mark) (row : Bor (List ℕ)) →
    before ≡ left ++ (s ∷ []) → in_order s.siblings ≡ mirror_kind node ∷ in_order others → rows ≡ fewer ++ (row ∷ []) →
    ((parent : Option Kind) (before after : List Kind) → AreEarlier s.earlier parent before (mirror_kind node ∷ after) → row.now ≡ numbers (mirror_kind node) → IsMark mark parent before (mirror_kind node) × AreEarlier later parent (before ++ (mirror_kind node ∷ [])) after) →
    grown ≡ listed ++ findings_by p mark (mirror_kind node) → one ≡ left ++ (record { siblings = others; earlier = later } ∷ []) → both ≡ one ++ (record { siblings = within; earlier = start } ∷ []) →
    in_order within ≡ children (mirror_kind node) → AreEarlier start (Some (mirror_kind node)) [] (children (mirror_kind node)) → IsListed p listed before rows → IsListed p grown both fewer
listed_next {p} {listed} {grown} {rows} {fewer} before left one both s others within later start node mark row is cut taken adds grows first second in_it begins so_far =
    let k = mirror_kind node in
    let w = popped p before left s so_far.rest is so_far.waiting in
    let it = w.1.0 in
    let nodes = to_come ((siblings_of left ++ (others ∷ [])) ++ (within ∷ [])) in
    let cut_rows = same_from_push (now_of fewer) (reverse (map numbers nodes)) row.now (numbers k) (sym (ap now_of taken ∙ map-append (λ (row : Bor (List ℕ)). row.now) fewer (row ∷ [])) ∙ rows_cut before left s others within k is cut in_it so_far) in
    let added = adds it.parent it.before (in_order others) (subst (AreEarlier s.earlier it.parent it.before) cut it.earlier) cut_rows.1 in
    let after = findings_of p it.parent (it.before ++ (k ∷ [])) (in_order others) ++ w.0 in
    let inner = findings_of p (Some k) [] (children k) in
    let here = findings_at p (record { node = k; parent = it.parent; before = it.before }) in
    let split : so_far.rest ≡ here ++ (inner ++ after) =
    it.found ∙ ap (λ ks. findings_of p it.parent it.before ks ++ w.0) cut ∙ ap (λ fs. fs ++ w.0) (findings_cut p it.parent it.before k (in_order others)) ∙ append_assoc here _ w.0 ∙ ap (λ fs. here ++ fs) (append_assoc inner _ w.0) in
    let of_children : Waits p (record { siblings = within; earlier = start }) (inner ++ after) after = record {
      parent = Some k;
      before = [];
      earlier = subst (AreEarlier start (Some k) []) (sym in_it) begins;
      found = ap (λ ks. findings_of p (Some k) [] ks ++ after) (sym in_it);
    } in
    let of_others : Waits p (record { siblings = others; earlier = later }) after w.0 = record { parent = it.parent; before = it.before ++ (k ∷ []); earlier = added.1; found = refl } in
    let turned : reverse both ≡ record { siblings = within; earlier = start } ∷ (record { siblings = others; earlier = later } ∷ reverse left) =
    ap reverse second ∙ last_first one _ ∙ ap (λ ss. record { siblings = within; earlier = start } ∷ ss) (ap reverse first ∙ last_first left _) in
    let pushed : siblings_of both ≡ (siblings_of left ++ (others ∷ [])) ++ (within ∷ []) = siblings_pushed both one _ second ∙ ap (λ ss. ss ++ (within ∷ [])) (siblings_pushed one left _ first) in
    record {
      rest = inner ++ after;
      whole = so_far.whole ∙ ap (λ fs. listed ++ fs) split ∙ sym (append_assoc listed here (inner ++ after)) ∙ ap (λ fs. (listed ++ fs) ++ (inner ++ after)) (sym (found_is p mark it.parent it.before k added.0)) ∙ ap (λ fs. fs ++ (inner ++ after)) (sym grows);
      waiting = subst (λ ss. AreToCome p ss (inner ++ after)) (sym turned) (after, (of_children, (w.0, (of_others, w.1.1))));
      rows_are = cut_rows.0 ∙ ap (λ ss. reverse (map numbers (to_come ss))) (sym pushed);
    }

-- nothing is left
pub listed_all : {p : Whole} {listed : List Finding} {left : List Step} {rows : List (Bor (List ℕ))} → left ≡ [] → IsListed p listed left rows → listed ≡ findings p
listed_all {p} {listed} {left} none so_far =
    let nothing : so_far.rest ≡ [] = subst (λ ss. AreToCome p (reverse ss) so_far.rest) none so_far.waiting in
    sym (so_far.whole ∙ ap (λ fs. listed ++ fs) nothing ∙ append-nil listed)

-- the steps become fewer
pub fewer_past : (before left : List Step) (s : Step) → before ≡ left ++ (s ∷ []) → in_order s.siblings ≡ [] → turns (siblings_of left) < turns (siblings_of before)
fewer_past before left s is none = fewer-past (siblings_of before) (siblings_of left) s.siblings (siblings_pushed before left s is) none

pub fewer_next : (before left one both : List Step) (s t u : Step) (k : Kind) → before ≡ left ++ (s ∷ []) → in_order s.siblings ≡ k ∷ in_order t.siblings → one ≡ left ++ (t ∷ []) → both ≡ one ++ (u ∷ []) → in_order u.siblings ≡ children k → turns (siblings_of both) < turns (siblings_of before)
fewer_next before left one both s t u k is cut first second in_it =
    fewer-next (siblings_of before) (siblings_of left) (siblings_of one) (siblings_of both) s.siblings t.siblings u.siblings k (siblings_pushed before left s is) cut (siblings_pushed one left t first) (siblings_pushed both one u second) in_it

-- the rows of all nodes of a pattern
pub all_rows : (rows : List (Bor (List ℕ))) (p : Whole) (bs : List Beginning) → map kind_of bs ≡ order (pattern p) → map (λ (row : Bor (List ℕ)). row.now) rows ≡ reverse (rows_of (map kind_of bs)) → map (λ (row : Bor (List ℕ)). row.now) rows ≡ reverse (map numbers (order (pattern p)))
all_rows rows p bs nodes are = are ∙ ap (λ ks. reverse (rows_of ks)) nodes ∙ ap reverse (rows_of_order (pattern p))

-- the nodes are those of the beginnings
pub numbered_by_itself : {ks : List Kind} {bs : List Beginning} {ns : List ℕ} → AreNumbered ks bs ns → AreNumbered (map kind_of bs) bs ns
numbered_by_itself {ks} {bs} {ns} numbered = subst (λ ks. AreNumbered ks bs ns) (sym numbered.nodes) numbered
