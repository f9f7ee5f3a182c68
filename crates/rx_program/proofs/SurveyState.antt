-- A tree that is looked at, over plain values.
use Rattle.std.proofs.Common.{◌≡◌, refl, ap, sym, ◌∙◌, subst, ℕ, ◌+◌, ◌<◌, Option, Some, None, List, [], ◌∷◌, ◌++◌, append_assoc, append-nil, reverse, arith}
use Rattle.rx_base.specs.declared.span.Span.{Span}
use Rattle.rx_ast.specs.Kinds.{order, member_order, members_order, class_order, node_order, nodes_order, alternatives_order, character}
use Rattle.rx_ast.specs.ClassTree as in_class
use Rattle.rx_ast.specs.ClassTree.{Member, Members, Class, no_member, member}
use Rattle.rx_ast.specs.Tree as tree
use Rattle.rx_ast.specs.Tree.{Opener, Node, Nodes, Alternatives, Whole, leaf, quantified, group, no_node, node, no_alternative, alternative}
use Rattle.rx_program.specs.declared.survey.Rest.{Rest}
use Rattle.rx_program.specs.declared.survey.Surveyor.{Surveyor}
use Rattle.rx_trace.specs.Groups.{Names, names_in_each}
use Rattle.rx_trace.specs.Supported.{unsupported_span, unsupported_in, or_later, first_unsupported}
use Rattle.rx_program.specs.SurveyState.{unsupported_member, unsupported_members, unsupported_class, unsupported_opener, unsupported_node, unsupported_nodes, unsupported_each, unsupported_rest, unsupported_rests, names_rest, names_rests, looks, all_looks, rests_of, with_rest, LookedAt}
use Rattle.rx_trace.proofs.Lists.{reverse-last}
use Rattle.rx_trace.proofs.Unsupported.{or_none, or_assoc, first-append}

rests_with : (s : Surveyor) (r : Rest) → rests_of (with_rest s r) ≡ r ∷ rests_of s
rests_with s r = reverse-last (s.rests ++ (r ∷ [])) s.rests r refl

-- Something that has no names, and in which all is supported, needs no further look.
pub looked_none : (s : Surveyor) (refused : Option Span) (names : Names) (most : ℕ) → refused ≡ None → names ≡ [] → 0 < most → LookedAt s refused names most s None
looked_none s refused names most none nameless some = (ap (λ u. or_later u (unsupported_rests (rests_of s))) none, ap (λ ns. s.names ++ (ns ++ names_rests (rests_of s))) nameless, omega arith)

-- what is looked at is one thing more to look at, which is left for later
pub looked_one : (s after : Surveyor) (refused : Option Span) (names : Names) (most : ℕ) (r : Rest) → after ≡ with_rest s r → refused ≡ unsupported_rest r → names ≡ names_rest r → looks r < most → LookedAt s refused names most after None
looked_one s after refused names most r pushed refuses named fewer =
    subst (λ y. LookedAt s refused names most y None) (sym pushed)
    (let e = ap all_looks (rests_with s r) in (
      ap (λ u. or_later u (unsupported_rests (rests_of s))) refuses ∙ sym (ap unsupported_rests (rests_with s r)),
      ap (λ ns. s.names ++ (ns ++ names_rests (rests_of s))) named ∙ sym (ap (λ rs. s.names ++ names_rests rs) (rests_with s r)),
      omega arith,
    ))

-- what is looked at is two things more to look at, of which the second is looked at first
pub looked_two : (s after : Surveyor) (refused : Option Span) (names : Names) (most : ℕ) (r q : Rest) → after ≡ with_rest (with_rest s r) q → refused ≡ or_later (unsupported_rest q) (unsupported_rest r) → names ≡ names_rest q ++ names_rest r
    → looks q + looks r < most → LookedAt s refused names most after None
looked_two s after refused names most r q pushed refuses named fewer =
    subst (λ y. LookedAt s refused names most y None) (sym pushed)
    (let all : rests_of (with_rest (with_rest s r) q) ≡ q ∷ r ∷ rests_of s = rests_with (with_rest s r) q ∙ ap (λ rs. q ∷ rs) (rests_with s r) in
    let e = ap all_looks all in (
      ap (λ u. or_later u (unsupported_rests (rests_of s))) refuses ∙ or_assoc (unsupported_rest q) (unsupported_rest r) (unsupported_rests (rests_of s)) ∙ sym (ap unsupported_rests all),
      ap (λ ns. s.names ++ (ns ++ names_rests (rests_of s))) named ∙ ap (λ ns. s.names ++ ns) (append_assoc (names_rest q) (names_rest r) (names_rests (rests_of s))) ∙ sym (ap (λ rs. s.names ++ names_rests rs) all),
      omega arith,
    ))

-- the same for equal spans, names and numbers
pub looked_same : (s after : Surveyor) (refused refused' : Option Span) (names names' : Names) (most most' : ℕ) (it : Option Span) → refused ≡ refused' → names ≡ names' → most ≡ most' → LookedAt s refused' names' most' after it → LookedAt s refused names most after it
looked_same s after refused refused' names names' most most' it u n m looked =
    subst (λ x. LookedAt s x names most after it) (sym u) (subst (λ x. LookedAt s refused' x most after it) (sym n) (subst (λ x. LookedAt s refused' names' x after it) (sym m) looked))

-- a group's name comes before those in it
pub looked_named : (s d after : Surveyor) (refused : Option Span) (name : Option (List ℕ)) (names : Names) (most : ℕ) (it : Option Span) → d ≡ record s { names = s.names ++ (name ∷ []) } → LookedAt d refused names most after it → LookedAt s refused (name ∷ names) most after it
looked_named s d after refused name names most None is looked =
    let l : LookedAt (record s { names = s.names ++ (name ∷ []) }) refused names most after None = subst (λ y. LookedAt y refused names most after None) is looked in
    (l.0, sym (append_assoc s.names (name ∷ []) (names ++ names_rests (rests_of s))) ∙ l.1, l.2)
looked_named s d after refused name names most (Some span) is looked = looked

mutual
  member-first : (m : Member) → unsupported_member m ≡ first_unsupported (member_order m)
  member-first (in_class.range r) = refl
  member-first (in_class.escape e) = refl
  member-first (in_class.property p) = refl
  member-first (in_class.character c) = refl
  member-first (in_class.nested c) = class-first c
  member-first (in_class.strings d) = refl

  members-first : (ms : Members) → unsupported_members ms ≡ first_unsupported (members_order ms)
  members-first no_member = refl
  members-first (member m ms) =
      ap (λ u. or_later u (unsupported_members ms)) (member-first m) ∙ ap (or_later (first_unsupported (member_order m))) (members-first ms) ∙ sym (first-append (member_order m) (members_order ms))

  class-first : (c : Class) → unsupported_class c ≡ first_unsupported (class_order c)
  class-first (in_class.class s negative may_have_strings kind ms) = members-first ms

opener-first : (s : Span) (o : Opener) (d : Span) (more : Alternatives) → unsupported_opener o ≡ unsupported_span (Rattle.rx_ast.specs.Kinds.group_as_kind s o (d, more))
opener-first s (tree.capturing name) d more = refl
opener-first s (tree.ignoring None) d more = refl
opener-first s (tree.ignoring (Some m)) d more = refl
opener-first s (tree.looking kind) d more = refl

mutual
  node-first : (n : Node) → unsupported_node n ≡ first_unsupported (node_order n)
  node-first (leaf (tree.boundary b)) = refl
  node-first (leaf (tree.character c)) = refl
  node-first (leaf (tree.dot d)) = refl
  node-first (leaf (tree.class_escape e)) = refl
  node-first (leaf (tree.property p)) = refl
  node-first (leaf (tree.class c)) = class-first c
  node-first (leaf (tree.indexed r)) = refl
  node-first (leaf (tree.named r)) = refl
  node-first (quantified s min max greedy n) = node-first n
  node-first (group s o d more) = ap (λ u. or_later u (unsupported_each more)) (opener-first s o d more) ∙ ap (or_later (unsupported_span (Rattle.rx_ast.specs.Kinds.group_as_kind s o (d, more)))) (each-first more)

  nodes-first : (ns : Nodes) → unsupported_nodes ns ≡ first_unsupported (nodes_order ns)
  nodes-first no_node = refl
  nodes-first (node n ns) = ap (λ u. or_later u (unsupported_nodes ns)) (node-first n) ∙ ap (or_later (first_unsupported (node_order n))) (nodes-first ns) ∙ sym (first-append (node_order n) (nodes_order ns))

  each-first : (more : Alternatives) → unsupported_each more ≡ first_unsupported (alternatives_order more)
  each-first no_alternative = refl
  each-first (alternative s ns more) =
      ap (λ u. or_later u (unsupported_each more)) (nodes-first ns) ∙ ap (or_later (first_unsupported (nodes_order ns))) (each-first more) ∙ sym (first-append (nodes_order ns) (alternatives_order more))

pub unsupported_is : (p : Whole) → unsupported_in p ≡ unsupported_each p.1.1
unfolding order
unsupported_is p = sym (each-first p.1.1)

-- While a tree is looked at: what was found and what is left make up the tree.
pub record Surveys (s : Surveyor) (more : Alternatives) : Type 0 where
  pub refused : unsupported_each more ≡ unsupported_rests (rests_of s)
  pub names : names_in_each more ≡ s.names ++ names_rests (rests_of s)

pub surveyed : (s : Surveyor) (more : Alternatives) → s.rests ≡ [] → Surveys s more → (unsupported_each more ≡ None) × (s.names ≡ names_in_each more)
surveyed s more none it =
    (it.refused ∙ ap (λ rs. unsupported_rests (reverse rs)) none, sym (it.names ∙ ap (λ rs. s.names ++ names_rests (reverse rs)) none ∙ append-nil s.names))

pub surveys_first : (s : Surveyor) (more : Alternatives) (r : Rest) → s.names ≡ [] → s.rests ≡ [] ++ (r ∷ []) → {ms : Alternatives} → (unsupported_rest r ≡ unsupported_each ms) → (names_rest r ≡ names_in_each ms) → ms ≡ more → Surveys s more
surveys_first s more r nameless only {ms} refuses named same =
    let all : rests_of s ≡ r ∷ [] = ap reverse only in
    record {
      refused = sym (ap unsupported_rests all ∙ or_none (unsupported_rest r) ∙ refuses ∙ ap unsupported_each same);
      names = sym (ap (λ rs. s.names ++ names_rests rs) all ∙ ap (λ ns. ns ++ (names_rest r ++ [])) nameless ∙ append-nil (names_rest r) ∙ named ∙ ap names_in_each same);
    }
