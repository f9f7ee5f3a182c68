-- What the visitors that look for nodes know after a walk.
use Rattle.std.proofs.Common.{◌≡◌, refl, ap, sym, ◌∙◌, subst, ℕ, ◌+◌, ◌<◌, ◌≤◌, Bool, true, false, not, ◌&&◌, ◌||◌, nat_lt, List, [], ◌∷◌, ◌++◌, ◌⊎◌, inl, inr, arith}
use Rattle.std.proofs.lemmas.Bool.Decides.{nat_tests}
use Rattle.std.specs.Prelude.{if◌then◌else◌}
use Rattle.std.specs.List.{list_any, flat_map}
use Rattle.std.proofs.Math.Bool.{or_assoc, or-false}
use Rattle.std.proofs.lemmas.Bool.{false≢true}
use Rattle.std.proofs.lemmas.List.Folds.{list_any-append}
use Rattle.rx_ast.specs.Kinds.{Kind, pattern, children, order}
use Rattle.rx_ast.specs.Tree.{mirror}
use Rattle.rx_ast.proofs.Orders.{order_is}
use Rattle.rx_visit.specs.declared.buffers.BufferFinder.{BufferFinder}
use Rattle.rx_visit.specs.declared.patterns.Finder.{Finder}
use Rattle.rx_visit.specs.declared.patterns.NameCounter.{NameCounter}
use Rattle.rx_visit.specs.Finders.{Finds, FindsBuffers, Counts}
use Rattle.rx_visit.specs.Buffers.{has_buffer_boundaries, is_buffer_boundary}
use Rattle.rx_visit.specs.Patterns.{is_named, count_named, is_refused}
use Rattle.rx_visit.specs.Visits.{Visited, VisitedAll, descend, pass, none, next}

-- to leave a node changes nothing
abbrev pub Stays : {V : Type 0} → V → Kind → V → Type 0
Stays v k w = w ≡ v

-- What a visitor does that looks for a node of which a test holds: the tests stay, and one is found where one was found or this is one.
record Looks {V : Type 0} (found : V → Bool) (tests : V → Kind → Bool) (v : V) (k : Kind) (answer : Bool) (w : V) : Type 0 where
  same : tests w ≡ tests v
  finds : found w ≡ (found v || tests v k)
  answers : answer ≡ not (found w)

found_already : (f t : Bool) (more : Bool) (m : Bool) → m ≡ (f || t) → false ≡ not m → m ≡ (f || (t || more))
found_already true t more m is stop = is
found_already false true more m is stop = is
found_already false false more m is stop = absurd (false≢true (stop ∙ ap not is))

module _ {V : Type 0} (entered : V → Kind → Bool → V → Type 0) (found : V → Bool) (tests : V → Kind → Bool)
    (looks : (v : V) (k : Kind) (answer : Bool) (w : V) → entered v k answer w → Looks found tests v k answer w) where
  -- The test holds of one of the nodes, or one was found before.
  abbrev Found : V → List Kind → V → Type 0
  Found v ks w = (tests w ≡ tests v) × (found w ≡ (found v || list_any (tests v) ks))

  found_one : (v : V) (k : Kind) (answer : Bool) (w : V) → entered v k answer w → Found v (k ∷ []) w
  found_one v k answer w enters =
      let l = looks v k answer w enters in (l.same, l.finds ∙ ap (λ z. found v || z) (sym (or-false (tests v k))))

  found_next : (v m w : V) (ks more : List Kind) → Found v ks m → Found m more w → Found v (ks ++ more) w
  found_next v m w ks more a b = (
    b.0 ∙ a.0,
    b.1 ∙ ap (λ t. found m || list_any t more) a.0 ∙ ap (λ f. f || list_any (tests v) more) a.1 ∙ or_assoc (found v) (list_any (tests v) ks) (list_any (tests v) more)
        ∙ ap (λ z. found v || z) (sym (list_any-append (tests v) ks more)),
  )

  mutual
    looking_visit : (v : V) (k : Kind) (w : V) → Visited entered Stays v k w → Found v (order k) w
    looking_visit v k w (descend _ _ m n _ enters visits leaves) =
        subst (λ s. Found v (order k) s) (sym leaves)
        (subst (λ ks. Found v ks n) (sym (order_is k)) (found_next v m n (k ∷ []) (flat_map order (children k)) (found_one v k true m enters) (looking_visits m (children k) n visits)))
    looking_visit v k w (pass _ _ m _ enters leaves) =
        let l = looks v k false m enters in
        subst (λ s. Found v (order k) s) (sym leaves) (subst (λ ks. Found v ks m) (sym (order_is k)) (l.same, found_already (found v) (tests v k) _ (found m) l.finds l.answers))

    looking_visits : (v : V) (ks : List Kind) (w : V) → VisitedAll entered Stays v ks w → Found v (flat_map order ks) w
    looking_visits v _ _ (none _) = (refl, sym (or-false (found v)))
    looking_visits v _ w (next _ k m ks _ first others) = found_next v m w (order k) (flat_map order ks) (looking_visit v k m first) (looking_visits m ks w others)

  visit_finds : (v : V) (k : Kind) (w : V) → Visited entered Stays v k w → found w ≡ (found v || list_any (tests v) (order k))
  visit_finds v k w visit = (looking_visit v k w visit).1

abbrev tests : Finder → Kind → Bool
tests v = is_refused v.unsupported.now (order (pattern (mirror v.pattern.now)))

pub finder_visit : (v : Finder) (k : Kind) (w : Finder) → Visited Finds Stays v k w → w.found ≡ (v.found || list_any (tests v) (order k))
finder_visit = visit_finds Finds (λ v. v.found) tests (λ v k answer w f. record {
  same = ap (λ p. is_refused w.unsupported.now (order (pattern (mirror p.now)))) f.pattern_kept ∙ ap (λ u. is_refused u.now (order (pattern (mirror v.pattern.now)))) f.unsupported_kept;
  finds = f.found;
  answers = f.answered;
})

pub buffers_visit : (v : BufferFinder) (k : Kind) (w : BufferFinder) → Visited FindsBuffers Stays v k w → w.found ≡ (v.found || has_buffer_boundaries (order k))
buffers_visit = visit_finds FindsBuffers (λ v. v.found) (λ v. is_buffer_boundary) (λ v k answer w f. record { same = refl; finds = f.found; answers = f.answered })

-- So many of the nodes are groups of the name as the count rose by; or the count is two at least, and so would it be.
abbrev Reached : ℕ → ℕ → ℕ → Type 0
Reached v n w = (w ≡ v + n) ⊎ ((2 ≤ w) × (2 ≤ v + n))

abbrev pub Counted : NameCounter → List Kind → NameCounter → Type 0
Counted v ks w = (w.name ≡ v.name) × Reached v.count (count_named v.name.now ks) w.count

reached_next : (v m w a b : ℕ) → Reached v a m → Reached m b w → Reached v (a + b) w
reached_next v m w a b (inl e) (inl f) = inl (omega (arith, e, f))
reached_next v m w a b (inl e) (inr f) = inr (f.0, omega (arith, e, f.1))
reached_next v m w a b (inr e) (inl f) = inr (omega (arith, e.0, f), omega (arith, e.1))
reached_next v m w a b (inr e) (inr f) = inr (f.0, omega (arith, e.1))

reached_stop : (v m a b : ℕ) → 2 ≤ m → Reached v a m → Reached v (a + b) m
reached_stop v m a b two (inl e) = inr (two, omega (arith, e, two))
reached_stop v m a b two (inr e) = inr (two, omega (arith, e.1))

reached_one : (v w : ℕ) (small hit : Bool) → nat_lt v 2 ≡ small → w ≡ (if small && hit then v + 1 else v) → Reached v ((if hit then 1 else 0) + 0) w
reached_one v w true true is e = inl (omega (arith, e))
reached_one v w true false is e = inl (omega (arith, e))
reached_one v w false true is e = let large : 2 ≤ v = grind (arith, nat_tests) in inr (omega (arith, e, large), omega (arith, large))
reached_one v w false false is e = inl (omega (arith, e))

pub count_both : (name : List ℕ) (ks more : List Kind) → count_named name (ks ++ more) ≡ count_named name ks + count_named name more
count_both name [] more = omega arith
count_both name (k ∷ ks) more = let rest = count_both name ks more in omega (arith, rest)

counted_one : (v : NameCounter) (k : Kind) (b : Bool) (w : NameCounter) → Counts v k b w → Counted v (k ∷ []) w
counted_one v k b w c = (c.name_kept, reached_one v.count w.count (nat_lt v.count 2) (is_named v.name.now k) refl c.counted)

counted_next : (v m w : NameCounter) (ks more : List Kind) → Counted v ks m → Counted m more w → Counted v (ks ++ more) w
counted_next v m w ks more a b = (
  b.0 ∙ a.0,
  subst (λ n. Reached v.count n w.count) (sym (count_both v.name.now ks more))
      (reached_next v.count m.count w.count _ _ a.1 (subst (λ name. Reached m.count (count_named name.now more) w.count) a.0 b.1)),
)

large_of : (n : ℕ) → false ≡ nat_lt n 2 → 2 ≤ n
large_of n e = grind (arith, nat_tests)

counted_stop : (v : NameCounter) (k : Kind) (m : NameCounter) (more : List Kind) → Counts v k false m → Counted v (k ∷ more) m
counted_stop v k m more c =
    let one = counted_one v k false m c in
    (one.0, subst (λ n. Reached v.count n m.count) (sym (count_both v.name.now (k ∷ []) more)) (reached_stop v.count m.count _ (count_named v.name.now more) (large_of m.count c.answered) one.1))

mutual
  pub counter_visit : (v : NameCounter) (k : Kind) (w : NameCounter) → Visited Counts Stays v k w → Counted v (order k) w
  counter_visit v k w (descend _ _ m n _ enters visits leaves) =
      subst (λ s. Counted v (order k) s) (sym leaves) (subst (λ ks. Counted v ks n) (sym (order_is k)) (counted_next v m n (k ∷ []) (flat_map order (children k)) (counted_one v k true m enters) (counter_visits m (children k) n visits)))
  counter_visit v k w (pass _ _ m _ enters leaves) =
      subst (λ s. Counted v (order k) s) (sym leaves) (subst (λ ks. Counted v ks m) (sym (order_is k)) (counted_stop v k m _ enters))

  counter_visits : (v : NameCounter) (ks : List Kind) (w : NameCounter) → VisitedAll Counts Stays v ks w → Counted v (flat_map order ks) w
  counter_visits v _ _ (none _) = (refl, inl (omega arith))
  counter_visits v _ w (next _ k m ks _ first others) = counted_next v m w (order k) (flat_map order ks) (counter_visit v k m first) (counter_visits m ks w others)

pub twice_of : (n w : ℕ) → Reached 0 n w → nat_lt 1 w ≡ nat_lt 1 n
twice_of n w (inl e) = ap (nat_lt 1) (omega (arith, e))
twice_of n w (inr e) = let a : 1 < w = omega (arith, e.0) in let b : 1 < n = omega (arith, e.1) in grind (arith, nat_tests)
