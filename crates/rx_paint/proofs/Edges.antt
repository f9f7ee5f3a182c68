-- Who owns each offset is told by the edges in order.
use Rattle.std.proofs.Common.{◌≡◌, refl, ap, append-nil, sym, ◌∙◌, ℕ, zero, suc, ◌+◌, ◌-◌, ◌≤◌, ◌<◌, Bool, true, false, nat_lt, arith, Option, Some, None, List, [], ◌∷◌, ◌++◌, append_assoc, replicate}
use Rattle.std.specs.Prelude.{if◌then◌else◌}
use Rattle.std.proofs.lemmas.Bool.Decides.{nat_tests}
use Rattle.rx_paint.specs.declared.token.Token.{Token}
use Rattle.rx_ast.specs.Forest.{Forest, nothing, tree, IsNested}
use Rattle.rx_paint.specs.Owners.{token_span, DeepNode, deep_nodes, holds, deeper, deepest, token_or}
use Rattle.rx_paint.specs.Runs.{each_from}
use Rattle.rx_paint.specs.Edges.{Edge, edges}

-- the owners that edges tell
abbrev pub owners_of_edges : ℕ → Token → List Edge → List Token
owners_of_edges place own [] = []
owners_of_edges place own (e ∷ es) = replicate (e.0 - place) own ++ owners_of_edges e.0 e.1 es

pub low_to_high : (f : Forest Token) (low high : ℕ) → IsNested token_span low high f → low ≤ high
low_to_high nothing low high n = n
low_to_high (tree t inner after) low high n =
    let a = low_to_high inner _ _ n.1 in
    let b = low_to_high after _ _ n.2 in
    omega arith

each_from-+ : {X : Type 0} (g : ℕ → X) (at n m : ℕ) → each_from g at (n + m) ≡ each_from g at n ++ each_from g (at + n) m
each_from-+ g at zero m = ap (λ k. each_from g at k) (let e : zero + m ≡ m = omega arith in e) ∙ ap (λ k. each_from g k m) (let e : at ≡ at + zero = omega arith in e)
each_from-+ g at (suc n) m =
    let e : suc n + m ≡ suc (n + m) = omega arith in
    let k : at + 1 + n ≡ at + suc n = omega arith in
    ap (λ k. each_from g at k) e ∙ ap (λ xs. g at ∷ xs) (each_from-+ g (at + 1) n m ∙ ap (λ j. each_from g (at + 1) n ++ each_from g j m) k)

each_from_cut : {X : Type 0} (g : ℕ → X) (low mid high : ℕ) → low ≤ mid → mid ≤ high → each_from g low (high - low) ≡ each_from g low (mid - low) ++ each_from g mid (high - mid)
each_from_cut g low mid high a b =
    let e : high - low ≡ (mid - low) + (high - mid) = omega arith in
    let k : low + (mid - low) ≡ mid = omega arith in
    ap (λ n. each_from g low n) e ∙ each_from-+ g low (mid - low) (high - mid) ∙ ap (λ j. each_from g low (mid - low) ++ each_from g j (high - mid)) k

each_from_alike : {X : Type 0} (g h : ℕ → X) (at n : ℕ) → ((b : ℕ) → at ≤ b → b < at + n → g b ≡ h b) → each_from g at n ≡ each_from h at n
each_from_alike g h at zero same = refl
each_from_alike g h at (suc n) same =
    let here : g at ≡ h at = same at (omega arith) (omega arith) in
    ap (λ x. x ∷ each_from g (at + 1) n) here ∙ ap (λ xs. h at ∷ xs) (each_from_alike g h (at + 1) n (λ b l u. same b (omega arith) (omega arith)))

each_from_constant : {X : Type 0} (c : X) (at n : ℕ) → each_from (λ b. c) at n ≡ replicate n c
each_from_constant c at zero = refl
each_from_constant c at (suc n) = ap (λ xs. c ∷ xs) (each_from_constant c (at + 1) n)

not_held : (h : Bool) (x : DeepNode) (o : Option DeepNode) → (if h then deeper x o else o) ≡ None → (h ≡ false) × (o ≡ None)
not_held true x None none = cc
not_held true x (Some m) none = elim (nat_lt x.0 m.0) as (λ b. (if b then Some m else Some x) ≡ None → (true ≡ false) × (Some m ≡ None)) [ true ↦ λ h. (cc, h) | false ↦ λ h. (cc, cc) ] none
not_held false x o none = (refl, none)

past_left : (b : ℕ) (xs ys : List DeepNode) → deepest b xs ≡ None → deepest b (xs ++ ys) ≡ deepest b ys
past_left b [] ys none = refl
past_left b (x ∷ xs) ys none =
    let out = not_held (holds b x.1) x (deepest b xs) none in
    ap (λ h. if h then deeper x (deepest b (xs ++ ys)) else deepest b (xs ++ ys)) out.0 ∙ past_left b xs ys out.1

past_right : (b : ℕ) (xs ys : List DeepNode) → deepest b ys ≡ None → deepest b (xs ++ ys) ≡ deepest b xs
past_right b [] ys none = none
past_right b (x ∷ xs) ys none = ap (λ o. if holds b x.1 then deeper x o else o) (past_right b xs ys none)

none_below : (f : Forest Token) (d low high b : ℕ) → IsNested token_span low high f → b < low → deepest b (deep_nodes d f) ≡ None
none_below nothing d low high b n lt = refl
none_below (tree t inner after) d low high b n lt =
    let w = low_to_high inner _ _ n.1 in
    let rest = deep_nodes (d + 1) inner ++ deep_nodes d after in
    let out : holds b t ≡ false = grind (arith, nat_tests) in
    ap (λ h. if h then deeper (d, t) (deepest b rest) else deepest b rest) out ∙ past_left b _ _ (none_below inner (d + 1) _ _ b n.1 (omega arith)) ∙ none_below after d _ _ b n.2 (omega arith)

none_above : (f : Forest Token) (d low high b : ℕ) → IsNested token_span low high f → high ≤ b → deepest b (deep_nodes d f) ≡ None
none_above nothing d low high b n le = refl
none_above (tree t inner after) d low high b n le =
    let w = low_to_high after _ _ n.2 in
    let rest = deep_nodes (d + 1) inner ++ deep_nodes d after in
    let out : holds b t ≡ false = grind (arith, nat_tests) in
    ap (λ h. if h then deeper (d, t) (deepest b rest) else deepest b rest) out ∙ past_left b _ _ (none_above inner (d + 1) _ _ b n.1 (omega arith)) ∙ none_above after d _ _ b n.2 le

abbrev AreDeep : ℕ → List DeepNode → Type 0
AreDeep d [] = Unit {0}
AreDeep d (l ∷ ls) = (d ≤ l.0) × AreDeep d ls

abbrev IsDeep : ℕ → Option DeepNode → Type 0
IsDeep d None = Unit {0}
IsDeep d (Some l) = d ≤ l.0

deep_both : (d : ℕ) (xs ys : List DeepNode) → AreDeep d xs → AreDeep d ys → AreDeep d (xs ++ ys)
deep_both d [] ys a b = b
deep_both d (x ∷ xs) ys a b = (a.0, deep_both d xs ys a.1 b)

deep_layers : (f : Forest Token) (d e : ℕ) → e ≤ d → AreDeep e (deep_nodes d f)
deep_layers nothing d e le = tt
deep_layers (tree t inner after) d e le = (le, deep_both e _ _ (deep_layers inner (d + 1) e (omega arith)) (deep_layers after d e le))

deep_of : (d : ℕ) (h : Bool) (l : DeepNode) (o : Option DeepNode) → d ≤ l.0 → IsDeep d o → IsDeep d (if h then deeper l o else o)
deep_of d true l None a b = a
deep_of d true l (Some m) a b = elim (nat_lt l.0 m.0) as (λ c. IsDeep d (if c then Some m else Some l)) [ true ↦ b | false ↦ a ]
deep_of d false l o a b = b

deep_found : (b d : ℕ) (ls : List DeepNode) → AreDeep d ls → IsDeep d (deepest b ls)
deep_found b d [] deep = tt
deep_found b d (l ∷ ls) deep = deep_of d (holds b l.1) l (deepest b ls) deep.0 (deep_found b d ls deep.1)

owner_within : (d : ℕ) (t parent : Token) (o : Option DeepNode) → IsDeep (d + 1) o → token_or parent (deeper (d, t) o) ≡ token_or t o
owner_within d t parent None deep = refl
owner_within d t parent (Some m) deep =
    let lt : nat_lt d m.0 ≡ true = grind (arith, nat_tests) in
    ap (λ b. token_or parent (if b then Some m else Some (d, t))) lt

pub owners_of_both : (es : List Edge) (place : ℕ) (own x y : Token) (o : ℕ) (rest : List Edge) → owners_of_edges place own (es ++ ((o, x) ∷ rest)) ≡ owners_of_edges place own (es ++ ((o, y) ∷ [])) ++ owners_of_edges o x rest
owners_of_both [] place own x y o rest = ap (λ xs. xs ++ owners_of_edges o x rest) (sym (append-nil (replicate (o - place) own)))
owners_of_both (e ∷ es) place own x y o rest = ap (λ xs. replicate (e.0 - place) own ++ xs) (owners_of_both es e.0 e.1 x y o rest) ∙ sym (append_assoc (replicate (e.0 - place) own) (owners_of_edges e.0 e.1 (es ++ ((o, y) ∷ []))) (owners_of_edges o x rest))

-- the owner that a node and what stands in it and after it tell
before_the_node : (t : Token) (inner after : Forest Token) (d high b : ℕ) (parent : Token) → IsNested token_span t.span.start high (tree t inner after) → b < t.span.start → token_or parent (deepest b (deep_nodes d (tree t inner after))) ≡ parent
before_the_node t inner after d high b parent n lt = ap (token_or parent) (none_below (tree t inner after) d t.span.start high b n lt)

in_the_node : (t : Token) (inner after : Forest Token) (d high b : ℕ) (parent : Token) → IsNested token_span t.span.end high after → t.span.start ≤ b → b < t.span.end → token_or parent (deepest b (deep_nodes d (tree t inner after))) ≡ token_or t (deepest b (deep_nodes (d + 1) inner))
in_the_node t inner after d high b parent n low lt =
    let rest = deep_nodes (d + 1) inner ++ deep_nodes d after in
    let held : holds b t ≡ true = grind (arith, nat_tests) in
    ap (λ h. token_or parent (if h then deeper (d, t) (deepest b rest) else deepest b rest)) held ∙ ap (λ o. token_or parent (deeper (d, t) o)) (past_right b _ _ (none_below after d _ _ b n lt))
    ∙ owner_within d t parent (deepest b (deep_nodes (d + 1) inner)) (deep_found b (d + 1) _ (deep_layers inner (d + 1) (d + 1) (omega arith)))

after_it : (t : Token) (inner after : Forest Token) (d b : ℕ) (parent : Token) → IsNested token_span t.span.start t.span.end inner → t.span.end ≤ b → token_or parent (deepest b (deep_nodes d (tree t inner after))) ≡ token_or parent (deepest b (deep_nodes d after))
after_it t inner after d b parent n le =
    let rest = deep_nodes (d + 1) inner ++ deep_nodes d after in
    let out : holds b t ≡ false = grind (arith, nat_tests) in
    ap (λ h. token_or parent (if h then deeper (d, t) (deepest b rest) else deepest b rest)) out ∙ ap (token_or parent) (past_left b _ _ (none_above inner (d + 1) _ _ b n le))

-- The owners of the offsets from `low` to `high` are those that the edges tell.
pub owners_by_depth : (f : Forest Token) (d low high : ℕ) (parent : Token) → IsNested token_span low high f → each_from (λ b. token_or parent (deepest b (deep_nodes d f))) low (high - low) ≡ owners_of_edges low parent (edges parent f ++ ((high, parent) ∷ []))
owners_by_depth nothing d low high parent n = each_from_constant parent low (high - low) ∙ sym (append-nil _)
owners_by_depth (tree t inner after) d low high parent n =
    let s = t.span.start in
    let e = t.span.end in
    let w = low_to_high inner _ _ n.1 in
    let v = low_to_high after _ _ n.2 in
    let le : s ≤ high = omega arith in
    let here : ℕ → Token = λ b. token_or parent (deepest b (deep_nodes d (tree t inner after))) in
    let a = each_from_alike here (λ b. parent) low (s - low) (λ b l u. before_the_node t inner after d high b parent (omega arith, n.1, n.2) (omega arith)) in
    let b = each_from_alike here (λ b. token_or t (deepest b (deep_nodes (d + 1) inner))) s (e - s) (λ b l u. in_the_node t inner after d high b parent n.2 l (omega arith)) in
    let c = each_from_alike here (λ b. token_or parent (deepest b (deep_nodes d after))) e (high - e) (λ b l u. after_it t inner after d b parent n.1 l) in
    each_from_cut here low s high n.0 le
    ∙ ap (λ xs. xs ++ each_from here s (high - s)) (a ∙ each_from_constant parent low (s - low))
    ∙ ap (λ xs. replicate (s - low) parent ++ xs) (
    each_from_cut here s e high w v
    ∙ ap (λ xs. xs ++ each_from here e (high - e)) (b ∙ owners_by_depth inner (d + 1) s e t n.1)
    ∙ ap (λ xs. owners_of_edges s t (edges t inner ++ ((e, t) ∷ [])) ++ xs) (c ∙ owners_by_depth after d e high parent n.2)
    ∙ sym (owners_of_both (edges t inner) s t parent t e (edges parent after ++ ((high, parent) ∷ [])))
    ∙ ap (owners_of_edges s t) (sym (append_assoc (edges t inner) ((e, parent) ∷ edges parent after) ((high, parent) ∷ []))))
