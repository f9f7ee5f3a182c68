-- Runs of owners that come in segments.
use Rattle.std.proofs.Common.{◌≡◌, refl, ap, subst, sym, ◌∙◌, ℕ, zero, suc, ◌+◌, ◌-◌, ◌≤◌, ◌<◌, true, false, nat_lt, arith, List, [], ◌∷◌, ◌++◌, append_assoc, replicate}
use Rattle.std.specs.Prelude.{if◌then◌else◌}
use Rattle.std.proofs.lemmas.Bool.Decides.{nat_tests}
use Rattle.rx_paint.specs.declared.token.Kind.{Kind}
use Rattle.rx_paint.specs.declared.token.Kind.TheVariants as paints
use Rattle.rx_paint.specs.declared.token.Token.{Token}
use Rattle.rx_ast.specs.Forest.{Forest, nothing, tree, IsNested}
use Rattle.rx_paint.specs.Paints.{token_of}
use Rattle.rx_paint.specs.Owners.{token_span, owner}
use Rattle.rx_paint.specs.Runs.{kind_number, is_same, each_from, run, runs_from, runs, tokens}
use Rattle.rx_paint.specs.Edges.{Edge, edges, run_or_none, tokens_left}
use Rattle.rx_paint.proofs.Edges.{owners_of_edges, owners_by_depth}

-- The runs that the loop lists: the one that it has begun may be empty.
abbrev pub runs_on : ℕ → Token → ℕ → List Token → List Token
runs_on from own at [] = run_or_none from at own
runs_on from own at (c ∷ cs) = if is_same own c then runs_on from own (at + 1) cs else run_or_none from at own ++ runs_on at c (at + 1) cs

same_kind : (a b : Kind) → kind_number a ≡ kind_number b → a ≡ b
same_kind paints.Char paints.Char e = refl
same_kind paints.Escape paints.Escape e = refl
same_kind paints.Dot paints.Dot e = refl
same_kind paints.Set paints.Set e = refl
same_kind paints.Class paints.Class e = refl
same_kind paints.Assert paints.Assert e = refl
same_kind paints.Group paints.Group e = refl
same_kind paints.Modifier paints.Modifier e = refl
same_kind paints.Quantifier paints.Quantifier e = refl
same_kind paints.Reference paints.Reference e = refl
same_kind paints.Bar paints.Bar e = refl
same_kind paints.Other paints.Other e = refl
same_kind _ _ e = cc

pub same_token : (a b : Token) → a.span.start ≡ b.span.start → a.span.end ≡ b.span.end → a.kind ≡ b.kind → a ≡ b
same_token a b start end kind =
    ap (λ n. token_of (record { start = n; end = a.span.end }) a.kind) start ∙ ap (λ n. token_of (record { start = b.span.start; end = n }) a.kind) end ∙ ap (token_of b.span) kind

-- tokens that are found to be the same are
pub same_token_is : (a b : Token) → is_same a b ≡ true → a ≡ b
same_token_is a b same =
    let kind : kind_number a.kind ≡ kind_number b.kind = grind (arith, nat_tests) in
    same_token a b (grind (arith, nat_tests)) (grind (arith, nat_tests)) (same_kind a.kind b.kind kind)

one_run : (from at : ℕ) (own : Token) → from < at → run_or_none from at own ≡ run from at own ∷ []
one_run from at own lt =
    let is : nat_lt from at ≡ true = grind (arith, nat_tests) in
    ap (λ b. if b then run from at own ∷ [] else []) is

no_run : (at : ℕ) (own : Token) → run_or_none at at own ≡ []
no_run at own =
    let is : nat_lt at at ≡ false = grind (arith, nat_tests) in
    ap (λ b. if b then run at at own ∷ [] else []) is

runs_on_is : (cs : List Token) (from : ℕ) (own : Token) (at : ℕ) → from < at → runs_on from own at cs ≡ runs_from from own at cs
runs_on_is [] from own at lt = one_run from at own lt
runs_on_is (c ∷ cs) from own at lt =
    elim (is_same own c) as (λ b. (if b then runs_on from own (at + 1) cs else run_or_none from at own ++ runs_on at c (at + 1) cs) ≡ (if b then runs_from from own (at + 1) cs else run from at own ∷ runs_from at c (at + 1) cs)) [
      | true ↦ runs_on_is cs from own (at + 1) (omega arith)
      | false ↦ ap (λ ts. ts ++ runs_on at c (at + 1) cs) (one_run from at own lt) ∙ ap (λ ts. run from at own ∷ ts) (runs_on_is cs at c (at + 1) (omega arith))
    ]

all_runs : (cs : List Token) (at : ℕ) (own : Token) → runs_on at own at cs ≡ runs at cs
all_runs [] at own = no_run at own
all_runs (c ∷ cs) at own =
    elim (is_same own c) as (λ b. is_same own c ≡ b → (if b then runs_on at own (at + 1) cs else run_or_none at at own ++ runs_on at c (at + 1) cs) ≡ runs_from at c (at + 1) cs) [
      | true ↦ λ same. ap (λ t. runs_on at t (at + 1) cs) (same_token_is own c same) ∙ runs_on_is cs at c (at + 1) (omega arith)
      | false ↦ λ other. ap (λ ts. ts ++ runs_on at c (at + 1) cs) (no_run at own) ∙ runs_on_is cs at c (at + 1) (omega arith)
    ] refl

-- the tokens, with an empty run begun
pub tokens_on : (t : Token) (inner : Forest Token) → runs_on t.span.start t t.span.start (each_from (owner t inner) t.span.start (t.span.end - t.span.start)) ≡ tokens t inner
tokens_on t inner = all_runs _ t.span.start t

-- offsets that never fall
abbrev pub IsRising : ℕ → List Edge → Type 0
IsRising low [] = Unit {0}
IsRising low (e ∷ es) = (low ≤ e.0) × IsRising e.0 es

pub same_run : (from : ℕ) (run_owner own : Token) (at n : ℕ) (cs : List Token) → is_same run_owner own ≡ true → runs_on from run_owner at (replicate n own ++ cs) ≡ runs_on from run_owner (at + n) cs
same_run from run_owner own at zero cs same = ap (λ k. runs_on from run_owner k cs) (let e : at ≡ at + zero = omega arith in e)
same_run from run_owner own at (suc n) cs same =
    let k : at + 1 + n ≡ at + suc n = omega arith in
    ap (λ b. if b then runs_on from run_owner (at + 1) (replicate n own ++ cs) else run_or_none from at run_owner ++ runs_on at own (at + 1) (replicate n own ++ cs)) same ∙ same_run from run_owner own (at + 1) n cs same ∙ ap (λ k. runs_on from run_owner k cs) k

pub itself : (t : Token) → is_same t t ≡ true
itself t = grind (arith, nat_tests)

pub other_run : (from : ℕ) (run_owner own : Token) (at n : ℕ) (cs : List Token) → is_same run_owner own ≡ false → 0 < n → runs_on from run_owner at (replicate n own ++ cs) ≡ run_or_none from at run_owner ++ runs_on at own (at + n) cs
other_run from run_owner own at zero cs other some = absurd (omega arith)
other_run from run_owner own at (suc n) cs other some =
    let k : at + 1 + n ≡ at + suc n = omega arith in
    ap (λ b. if b then runs_on from run_owner (at + 1) (replicate n own ++ cs) else run_or_none from at run_owner ++ runs_on at own (at + 1) (replicate n own ++ cs)) other ∙ ap (λ ts. run_or_none from at run_owner ++ ts) (same_run at own own (at + 1) n cs (itself own) ∙ ap (λ k. runs_on at own k cs) k)

-- The loop lists_runs the runs.
pub lists_runs : (es : List Edge) (from : ℕ) (run_owner : Token) (place : ℕ) (own : Token) → IsRising place es → tokens_left from run_owner place own es ≡ runs_on from run_owner place (owners_of_edges place own es)
lists_runs [] from run_owner place own rising = refl
lists_runs (e ∷ es) from run_owner place own rising =
    let goes = lists_runs es from run_owner e.0 e.1 rising.1 in
    let begins = lists_runs es place own e.0 e.1 rising.1 in
    let rest = owners_of_edges e.0 e.1 es in
    elim (nat_lt place e.0) as (λ b. nat_lt place e.0 ≡ b → (if b then (if is_same run_owner own then tokens_left from run_owner e.0 e.1 es else run_or_none from place run_owner ++ tokens_left place own e.0 e.1 es) else tokens_left from run_owner e.0 e.1 es) ≡ runs_on from run_owner place (replicate (e.0 - place) own ++ rest)) [
      | true ↦ λ is.
          let some : 0 < e.0 - place = grind (arith, nat_tests) in
          let to : place + (e.0 - place) ≡ e.0 = omega arith in
          elim (is_same run_owner own) as (λ b. is_same run_owner own ≡ b → (if b then tokens_left from run_owner e.0 e.1 es else run_or_none from place run_owner ++ tokens_left place own e.0 e.1 es) ≡ runs_on from run_owner place (replicate (e.0 - place) own ++ rest)) [
            | true ↦ λ same. goes ∙ ap (λ k. runs_on from run_owner k rest) (sym to) ∙ sym (same_run from run_owner own place (e.0 - place) rest same)
            | false ↦ λ other. ap (λ ts. run_or_none from place run_owner ++ ts) (begins ∙ ap (λ k. runs_on place own k rest) (sym to)) ∙ sym (other_run from run_owner own place (e.0 - place) rest other some)
          ] refl
      | false ↦ λ is.
          let le : e.0 ≤ place = grind (arith, nat_tests) in
          let same : e.0 ≡ place = let le' = rising.0 in omega arith in
          let none : e.0 - place ≡ zero = omega arith in
          goes ∙ ap (λ k. runs_on from run_owner k rest) same ∙ ap (λ n. runs_on from run_owner place (replicate n own ++ rest)) (sym none)
    ] refl

rising_both : (es : List Edge) (low o : ℕ) (x y : Token) (rest : List Edge) → IsRising low (es ++ ((o, x) ∷ [])) → IsRising o rest → IsRising low (es ++ ((o, y) ∷ rest))
rising_both [] low o x y rest a b = (a.0, b)
rising_both (e ∷ es) low o x y rest a b = (a.0, rising_both es e.0 o x y rest a.1 b)

-- Nested: where nodes begin and end never falls.
pub rises : (f : Forest Token) (low high : ℕ) (parent x : Token) → IsNested token_span low high f → IsRising low (edges parent f ++ ((high, x) ∷ []))
rises nothing low high parent x n = (n, tt)
rises (tree t inner after) low high parent x n =
    let rest = edges parent after ++ ((high, x) ∷ []) in (
      n.0,
      subst (IsRising t.span.start) (sym (append_assoc (edges t inner) ((t.span.end, parent) ∷ edges parent after) ((high, x) ∷ [])))
          (rising_both (edges t inner) t.span.start t.span.end t parent rest (rises inner _ _ t t n.1) (rises after _ _ parent x n.2)),
    )

rising_cut : (es : List Edge) (low o : ℕ) (x y : Token) (rest : List Edge) → IsRising low (es ++ ((o, y) ∷ rest)) → IsRising low (es ++ ((o, x) ∷ [])) × IsRising o rest
rising_cut [] low o x y rest a = ((a.0, tt), a.1)
rising_cut (e ∷ es) low o x y rest a = let more = rising_cut es e.0 o x y rest a.1 in ((a.0, more.0), more.1)

pub nested_from_rising : (f : Forest Token) (low high : ℕ) (parent x : Token) → IsRising low (edges parent f ++ ((high, x) ∷ [])) → IsNested token_span low high f
nested_from_rising nothing low high parent x r = r.0
nested_from_rising (tree t inner after) low high parent x r =
    let rest = edges parent after ++ ((high, x) ∷ []) in
    let more = rising_cut (edges t inner) t.span.start t.span.end t parent rest (subst (IsRising t.span.start) (append_assoc (edges t inner) ((t.span.end, parent) ∷ edges parent after) ((high, x) ∷ [])) r.1) in
    (r.0, nested_from_rising inner _ _ t t more.0, nested_from_rising after _ _ parent x more.1)

-- The tokens are what the loop lists.
pub tokens_listed : (t : Token) (inner : Forest Token) → IsNested token_span t.span.start t.span.end inner → tokens_left t.span.start t t.span.start t (edges t inner ++ ((t.span.end, t) ∷ [])) ≡ tokens t inner
tokens_listed t inner n =
    lists_runs _ _ t _ t (rises inner _ _ t t n) ∙ ap (runs_on t.span.start t t.span.start) (sym (owners_by_depth inner 1 _ _ t n)) ∙ tokens_on t inner
