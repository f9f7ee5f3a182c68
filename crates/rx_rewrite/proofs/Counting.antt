-- The groups among the nodes of a tree, one node after the other.
use Rattle.std.proofs.Common.{◌≡◌, ap, sym, ◌∙◌, subst, ℕ, suc, ◌+◌, ◌<◌, ◌^◌, Ok, List, [], ◌∷◌, ◌++◌, append-nil, length, length-append, map, take, drop, get_or, add-one, arith}
use Rattle.std.proofs.Math.Seq.{drop-cons, take-suc}
use Rattle.std.proofs.lemmas.List.{map-append, take-append-drop}
use Rattle.std.proofs.lemmas.Grind.{flat_map-append}
use Rattle.std.specs.List.{flat_map}
use Rattle.rx_ast.specs.declared.ast_kind.RegExpAstKind.{RegExpAstKind}
use Rattle.rx_ast.specs.Kinds.{Kind}
use Rattle.rx_ast.specs.MirrorKinds.{mirror_kind}
use Rattle.rx_rewrite.specs.declared.numbers.GroupNumbers.{GroupNumbers}
use Rattle.rx_rewrite.specs.Answers.{NamedGroup, named_group, second_use}
use Rattle.rx_rewrite.specs.NamedGroups.{Numbers, Tells, group_name, group_names}
use Rattle.rx_rewrite.proofs.Orders.{names-append}

abbrev pub named : List Kind → List NamedGroup
named ks = flat_map named_group ks

-- So far: the numbers have the groups of these nodes, and no name stood twice.
pub record IsToldTo (before rest all : List Kind) (numbers : GroupNumbers) : Type 0 where
  pub told : Tells (group_names before) (named before) numbers
  pub apart : second_use (named before) (named rest) ≡ second_use [] (named all)

names_one : (before : List Kind) (k : Kind) → group_names before ++ group_name k ≡ group_names (before ++ (k ∷ []))
names_one before k = ap (λ ns. group_names before ++ ns) (sym (append-nil (group_name k))) ∙ sym (names-append before (k ∷ []))

named_one : (before : List Kind) (k : Kind) → named before ++ named_group k ≡ named (before ++ (k ∷ []))
named_one before k = ap (λ gs. named before ++ gs) (sym (append-nil (named_group k))) ∙ sym (flat_map-append named_group before (k ∷ []))

pub told_next : {A : Type 0} (before rest all : List Kind) (k : Kind) (old new : GroupNumbers) (it : A) → IsToldTo before (k ∷ rest) all old → Numbers old (group_name k) (named_group k) new (Ok it) → IsToldTo (before ++ (k ∷ [])) rest all new
told_next before rest all k old new it so_far numbers =
    let n = numbers (group_names before) (named before) so_far.told in
    record {
      told = subst (λ ns. Tells ns (named (before ++ (k ∷ []))) new) (names_one before k) (subst (λ gs. Tells (group_names before ++ group_name k) gs new) (named_one before k) n.0);
      apart = ap (λ gs. second_use gs (named rest)) (sym (named_one before k)) ∙ sym (n.1 (named rest)) ∙ so_far.apart;
    }

pub told_fits : (before rest all : List Kind) (k : Kind) (numbers : GroupNumbers) → before ++ (k ∷ rest) ≡ all → IsToldTo before (k ∷ rest) all numbers → length (group_names all) < 2 ^ 32 → numbers.count + length (group_name k) < 2 ^ 32
told_fits before rest all k numbers is so_far few =
    let count = so_far.told.count in
    let whole = ap length (names-append before (k ∷ rest)) in
    let parts = length-append (group_names before) (group_names (k ∷ rest)) in
    let more = length-append (group_name k) (group_names rest) in
    let same = ap (λ ks. length (group_names ks)) is in
    omega arith

-- the nodes before an index, and those from it on
pub taken_next : (nodes : List RegExpAstKind) (i : ℕ) (node : RegExpAstKind) → i < length nodes → node ≡ get_or nodes i node → map mirror_kind (take i nodes) ++ (mirror_kind node ∷ []) ≡ map mirror_kind (take (i + 1) nodes)
taken_next nodes i node within is =
    sym (ap (λ j. map mirror_kind (take j nodes)) (add-one i) ∙ ap (map mirror_kind) (take-suc nodes i node within) ∙ map-append mirror_kind (take i nodes) (get_or nodes i node ∷ [])
    ∙ ap (λ n. map mirror_kind (take i nodes) ++ (mirror_kind n ∷ [])) (sym is))

pub dropped_next : (nodes : List RegExpAstKind) (i : ℕ) (node : RegExpAstKind) → i < length nodes → node ≡ get_or nodes i node → map mirror_kind (drop i nodes) ≡ mirror_kind node ∷ map mirror_kind (drop (i + 1) nodes)
dropped_next nodes i node within is =
    ap (map mirror_kind) (drop-cons nodes i node within) ∙ ap (λ n. mirror_kind n ∷ map mirror_kind (drop (suc i) nodes)) (sym is) ∙ ap (λ j. mirror_kind node ∷ map mirror_kind (drop j nodes)) (sym (add-one i))

-- one node more
pub told_on : {A : Type 0} (nodes : List RegExpAstKind) (i : ℕ) (node : RegExpAstKind) (old new : GroupNumbers) (it : A) → i < length nodes → node ≡ get_or nodes i node
    → IsToldTo (map mirror_kind (take i nodes)) (map mirror_kind (drop i nodes)) (map mirror_kind nodes) old → Numbers old (group_name (mirror_kind node)) (named_group (mirror_kind node)) new (Ok it)
    → IsToldTo (map mirror_kind (take (i + 1) nodes)) (map mirror_kind (drop (i + 1) nodes)) (map mirror_kind nodes) new
told_on nodes i node old new it within is so_far numbers =
    let rest = map mirror_kind (drop (i + 1) nodes) in
    let here : IsToldTo (map mirror_kind (take i nodes)) (mirror_kind node ∷ rest) (map mirror_kind nodes) old =
    subst (λ ks. IsToldTo (map mirror_kind (take i nodes)) ks (map mirror_kind nodes) old) (dropped_next nodes i node within is) so_far in
    subst (λ ks. IsToldTo ks rest (map mirror_kind nodes) new) (taken_next nodes i node within is) (told_next (map mirror_kind (take i nodes)) rest (map mirror_kind nodes) (mirror_kind node) old new it here numbers)

pub told_room : (nodes : List RegExpAstKind) (i : ℕ) (node : RegExpAstKind) (numbers : GroupNumbers) → i < length nodes → node ≡ get_or nodes i node
    → IsToldTo (map mirror_kind (take i nodes)) (map mirror_kind (drop i nodes)) (map mirror_kind nodes) numbers → length (group_names (map mirror_kind nodes)) < 2 ^ 32 → numbers.count + length (group_name (mirror_kind node)) < 2 ^ 32
told_room nodes i node numbers within is so_far few =
    let rest = map mirror_kind (drop (i + 1) nodes) in
    let next = dropped_next nodes i node within is in
    told_fits (map mirror_kind (take i nodes)) rest (map mirror_kind nodes) (mirror_kind node) numbers
    (ap (λ ks. map mirror_kind (take i nodes) ++ ks) (sym next) ∙ sym (map-append mirror_kind (take i nodes) (drop i nodes)) ∙ ap (map mirror_kind) (take-append-drop i nodes))
    (subst (λ ks. IsToldTo (map mirror_kind (take i nodes)) ks (map mirror_kind nodes) numbers) next so_far) few
