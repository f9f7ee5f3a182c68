-- The nodes still to come of sibling nodes that wait on a stack; each turn of the loop over them leaves fewer.
use Rattle.std.proofs.Common.{◌≡◌, refl, ap, sym, ◌∙◌, ℕ, ◌+◌, ◌*◌, ◌<◌, arith, List, [], ◌∷◌, ◌++◌, append-nil, append_assoc, length, reverse}
use Rattle.std.specs.List.{flat_map}
use Rattle.std.proofs.lemmas.List.{length-append, reverse-append}
use Rattle.rx_ast.specs.Kinds.{Kind, children, order}
use Rattle.rx_ast.specs.MirrorKinds.{mirror_kind}
use Rattle.rx_ast.specs.declared.ast_kind.RegExpAstKind.{RegExpAstKind}
use Rattle.rx_ast.proofs.Orders.{order_is}
use Rattle.rx_visit.specs.Siblings.{in_order}
use Rattle.rx_visit.specs.declared.siblings.Siblings.{Siblings}
use Rattle.rx_visit.specs.declared.siblings.Siblings.TheVariants as are

-- the last siblings first, each node with all that stand in it
unfoldable pub to_come : List Siblings → List Kind
to_come left = flat_map (λ s. flat_map order (in_order s)) (reverse left)

none_to_come : to_come [] ≡ []
unfolding to_come
none_to_come = refl

to_come-last : (left : List Siblings) (s : Siblings) → to_come (left ++ (s ∷ [])) ≡ flat_map order (in_order s) ++ to_come left
unfolding to_come
to_come-last left s = rw (reverse-append left (s ∷ [])) refl

pub to_come-first : (none left : List Siblings) (node : RegExpAstKind) → none ≡ [] → left ≡ none ++ (are.Node node ∷ []) → to_come left ≡ order (mirror_kind node)
to_come-first none left node empty pushed =
    ap to_come pushed ∙ to_come-last none (are.Node node) ∙ ap (λ ks. (order (mirror_kind node) ++ []) ++ ks) (ap to_come empty ∙ none_to_come) ∙ append-nil _ ∙ append-nil _

-- no siblings are left of the last ones
pub to_come-past : (before left : List Siblings) (s : Siblings) → before ≡ left ++ (s ∷ []) → in_order s ≡ [] → to_come before ≡ to_come left
to_come-past before left s popped none = ap to_come popped ∙ to_come-last left s ∙ ap (λ ks. flat_map order ks ++ to_come left) none

-- the first of the last siblings is listed
pub to_come-next : (before left one both : List Siblings) (s following within : Siblings) (k : Kind) →
    before ≡ left ++ (s ∷ []) → in_order s ≡ k ∷ in_order following → one ≡ left ++ (following ∷ []) → both ≡ one ++ (within ∷ []) → in_order within ≡ children k →
    to_come before ≡ k ∷ to_come both
to_come-next before left one both s following within k popped cut pushed entered in_it =
    let now : to_come before ≡ (order k ++ flat_map order (in_order following)) ++ to_come left =
    ap to_come popped ∙ to_come-last left s ∙ ap (λ ks. flat_map order ks ++ to_come left) cut in
    let later : to_come both ≡ flat_map order (children k) ++ (flat_map order (in_order following) ++ to_come left) =
    ap to_come entered ∙ to_come-last one within ∙ ap (λ ks. flat_map order ks ++ to_come one) in_it ∙ ap (λ ks. flat_map order (children k) ++ ks) (ap to_come pushed ∙ to_come-last left following) in
    now ∙ append_assoc (order k) (flat_map order (in_order following)) (to_come left) ∙ ap (λ ks. ks ++ (flat_map order (in_order following) ++ to_come left)) (order_is k) ∙ ap (λ ks. k ∷ ks) (sym later)

-- a number that falls with each turn
abbrev pub turns : List Siblings → ℕ
turns left = 2 * length (to_come left) + length left

pub fewer-past : (before left : List Siblings) (s : Siblings) → before ≡ left ++ (s ∷ []) → in_order s ≡ [] → turns left < turns before
fewer-past before left s popped none =
    let same = ap length (to_come-past before left s popped none) in
    let shorter = ap length popped ∙ length-append left (s ∷ []) in
    omega arith

pub fewer-next : (before left one both : List Siblings) (s following within : Siblings) (k : Kind) →
    before ≡ left ++ (s ∷ []) → in_order s ≡ k ∷ in_order following → one ≡ left ++ (following ∷ []) → both ≡ one ++ (within ∷ []) → in_order within ≡ children k →
    turns both < turns before
fewer-next before left one both s following within k popped cut pushed entered in_it =
    let listed = ap length (to_come-next before left one both s following within k popped cut pushed entered in_it) in
    let a = ap length popped ∙ length-append left (s ∷ []) in
    let b = ap length pushed ∙ length-append left (following ∷ []) in
    let c = ap length entered ∙ length-append one (within ∷ []) in
    omega arith
