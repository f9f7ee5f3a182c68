-- The owner of an offset is the deepest node that holds it, and there is one such node.
use Rattle.std.proofs.Common.{◌≡◌, refl, ap, sym, subst, ℕ, ◌+◌, ◌≤◌, ◌<◌, true, arith}
use Rattle.std.proofs.lemmas.Bool.Decides.{nat_tests}
use Rattle.rx_paint.specs.declared.token.Token.{Token}
use Rattle.rx_ast.specs.Forest.{Forest, nothing, tree, IsNested, Path, here, inside, onward, LeadsTo}
use Rattle.rx_paint.specs.Owners.{token_span, holds, Owns}
use Rattle.rx_paint.proofs.Edges.{low_to_high}

-- what holds of a node that holds an offset, in nested nodes
deep : (path : Path) (f : Forest Token) (top depth : ℕ) (t : Token) → LeadsTo path top depth t f → top ≤ depth
deep path nothing top depth t at = absurd at
deep here (tree m inner after) top depth t at = let e = at.0 in omega arith
deep (inside path) (tree m inner after) top depth t at = let d = deep path inner (top + 1) depth t at in omega arith
deep (onward path) (tree m inner after) top depth t at = deep path after top depth t at

low_of : (path : Path) (f : Forest Token) (top depth low high offset : ℕ) (t : Token) → IsNested token_span low high f → LeadsTo path top depth t f → holds offset t ≡ true → low ≤ offset
low_of path nothing top depth low high offset t n at h = absurd at
low_of here (tree m inner after) top depth low high offset t n at h =
    let e = ap token_span at.1 in
    let a = n.0 in
    grind (arith, nat_tests)
low_of (inside path) (tree m inner after) top depth low high offset t n at h =
    let a = n.0 in
    let b = low_of path inner (top + 1) depth _ _ offset t n.1 at h in
    omega arith
low_of (onward path) (tree m inner after) top depth low high offset t n at h =
    let a = n.0 in
    let w = low_to_high inner _ _ n.1 in
    let b = low_of path after top depth _ high offset t n.2 at h in
    omega arith

high_of : (path : Path) (f : Forest Token) (top depth low high offset : ℕ) (t : Token) → IsNested token_span low high f → LeadsTo path top depth t f → holds offset t ≡ true → offset < high
high_of path nothing top depth low high offset t n at h = absurd at
high_of here (tree m inner after) top depth low high offset t n at h =
    let w = low_to_high after _ _ n.2 in
    let b : offset < m.span.end = subst (λ (u : Token). offset < u.span.end) at.1 (grind (arith, nat_tests)) in
    omega arith
high_of (inside path) (tree m inner after) top depth low high offset t n at h =
    let w = low_to_high after _ _ n.2 in
    let b = high_of path inner (top + 1) depth _ _ offset t n.1 at h in
    omega arith
high_of (onward path) (tree m inner after) top depth low high offset t n at h = high_of path after top depth _ high offset t n.2 at h

-- Two nodes of one depth that hold one offset are one.
same_depth : (p q : Path) (f : Forest Token) (top depth low high offset : ℕ) (t u : Token) → IsNested token_span low high f → LeadsTo p top depth t f → LeadsTo q top depth u f → holds offset t ≡ true → holds offset u ≡ true → p ≡ q
same_depth p q nothing top depth low high offset t u n a b h k = absurd a
same_depth here here (tree m inner after) top depth low high offset t u n a b h k = refl
same_depth here (inside q) (tree m inner after) top depth low high offset t u n a b h k =
    let e = a.0 in
    let d = deep q inner (top + 1) depth u b in
    absurd (omega arith)
same_depth here (onward q) (tree m inner after) top depth low high offset t u n a b h k =
    let e = high_of here (tree m inner nothing) top depth low m.span.end offset t (n.0, n.1, omega arith) a h in
    let d = low_of q after top depth _ high offset u n.2 b k in
    absurd (omega arith)
same_depth (inside p) here (tree m inner after) top depth low high offset t u n a b h k =
    let e = b.0 in
    let d = deep p inner (top + 1) depth t a in
    absurd (omega arith)
same_depth (inside p) (inside q) (tree m inner after) top depth low high offset t u n a b h k = ap inside (same_depth p q inner (top + 1) depth _ _ offset t u n.1 a b h k)
same_depth (inside p) (onward q) (tree m inner after) top depth low high offset t u n a b h k =
    let e = high_of p inner (top + 1) depth _ _ offset t n.1 a h in
    let d = low_of q after top depth _ high offset u n.2 b k in
    absurd (omega arith)
same_depth (onward p) here (tree m inner after) top depth low high offset t u n a b h k =
    let e = high_of here (tree m inner nothing) top depth low m.span.end offset u (n.0, n.1, omega arith) b k in
    let d = low_of p after top depth _ high offset t n.2 a h in
    absurd (omega arith)
same_depth (onward p) (inside q) (tree m inner after) top depth low high offset t u n a b h k =
    let e = high_of q inner (top + 1) depth _ _ offset u n.1 b k in
    let d = low_of p after top depth _ high offset t n.2 a h in
    absurd (omega arith)
same_depth (onward p) (onward q) (tree m inner after) top depth low high offset t u n a b h k = ap onward (same_depth p q after top depth _ high offset t u n.2 a b h k)

-- Owners with one span and one kind are one node.
pub one_owner : (f : Forest Token) (low high b c : ℕ) (p q : Path) (d e : ℕ) (t u : Token) → IsNested token_span low high f → Owns f b p d t → Owns f c q e u → t ≡ u → p ≡ q
one_owner f low high b c p q d e t u n first second same =
    let held : holds b u ≡ true = subst (λ (x : Token). holds b x ≡ true) same first.holds_it in
    let held_too : holds c t ≡ true = subst (λ (x : Token). holds c x ≡ true) (sym same) second.holds_it in
    let above = first.deepest q e u second.stands held in
    let below = second.deepest p d t first.stands held_too in
    let level : d ≡ e = omega arith in
    same_depth p q f 0 e low high b t u n (subst (λ k. LeadsTo p 0 k t f) level first.stands) second.stands first.holds_it held
