-- Nested, told of each node and its children.
use Rattle.std.proofs.Common.{◌≡◌, refl, ℕ, ◌≤◌, arith, ◌↔◌, List, [], ◌∷◌}
use Rattle.rx_base.specs.declared.span.Span.{Span}
use Rattle.rx_ast.specs.Forest.{Forest, nothing, tree, IsNested, roots, BeginFrom, AreApart, AreWithin, IsParent, AreParents}

module _ {L : Type 0} (span : L → Span) where
  rising : (f : Forest L) (low high : ℕ) → IsNested span low high f → low ≤ high
  rising nothing low high n = n
  rising (tree l inner after) low high n =
      let a = rising inner _ _ n.1 in
      let b = rising after _ _ n.2 in
      omega arith

  -- within a span, then within a longer one
  longer : (ls : List L) (short long : Span) → long.start ≤ short.start → short.end ≤ long.end → AreWithin span short ls → AreWithin span long ls
  longer [] short long start end within = tt
  longer (l ∷ ls) short long start end within =
      let a = within.0 in
      let b = within.1 in
      (omega arith, omega arith, longer ls short long start end within.2)

  within : (f : Forest L) (low high : ℕ) → IsNested span low high f → AreWithin span (record { start = low; end = high }) (roots f)
  within nothing low high n = tt
  within (tree l inner after) low high n =
      let a = rising inner _ _ n.1 in
      let b = rising after _ _ n.2 in
      let c = n.0 in
      (c, b, longer (roots after) (record { start = (span l).end; end = high }) (record { start = low; end = high }) (omega arith) (omega arith) (within after _ high n.2))

  begin : (f : Forest L) (low high : ℕ) → IsNested span low high f → BeginFrom span low (roots f)
  begin nothing low high n = tt
  begin (tree l inner after) low high n = n.0

  apart : (f : Forest L) (low high : ℕ) → IsNested span low high f → AreApart span (roots f)
  apart nothing low high n = tt
  apart (tree l inner after) low high n = (begin after _ high n.2, apart after _ high n.2)

  parent : (l : L) (f : Forest L) → IsNested span (span l).start (span l).end f → IsParent span l (roots f)
  parent l f n = record { forward = rising f _ _ n; within = within f _ _ n; apart = apart f _ _ n }

  parents : (f : Forest L) (low high : ℕ) → IsNested span low high f → AreParents span f
  parents nothing low high n = tt
  parents (tree l inner after) low high n = (parent l inner n.1, parents inner _ _ n.1, parents after _ high n.2)

  first : (f : Forest L) (around : Span) → AreWithin span around (roots f) → BeginFrom span around.start (roots f)
  first nothing around within = tt
  first (tree l inner after) around within = within.0

  nests : (f : Forest L) (low high : ℕ) (around : Span) → low ≤ high → around.end ≡ high → BeginFrom span low (roots f) → AreWithin span around (roots f) → AreApart span (roots f) → AreParents span f → IsNested span low high f
  nests nothing low high around le end from within apart parents = le
  nests (tree l inner after) low high around le end from within apart parents =
      let p = parents.0 in
      let last = within.1 in (
        from,
        nests inner (span l).start (span l).end (span l) p.forward refl (first inner (span l) p.within) p.within p.apart parents.1,
        nests after (span l).end high around (omega arith) end apart.0 within.2 apart.1 parents.2,
      )

  -- A node with the nodes in it is nested exactly where each node is well placed among its siblings and in its parent.
  pub siblings : (root : L) (f : Forest L) → IsNested span (span root).start (span root).end f ↔ AreParents span (tree root f nothing)
  siblings root f = (
    λ n. (parent root f n, parents f _ _ n, tt),
    λ p. let r = p.0 in nests f (span root).start (span root).end (span root) r.forward refl (first f (span root) r.within) r.within r.apart p.1,
  )
