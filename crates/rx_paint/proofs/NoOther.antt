-- No token is painted Other where such nodes own nothing.
use Rattle.std.proofs.Common.{◌≡◌, refl, ap, sym, ◌∙◌, subst, ℕ, zero, suc, ◌+◌, ◌-◌, ◌<◌, ◌≤◌, length, true, false, nat_lt, arith, List, [], ◌∷◌, ◌++◌, append_assoc, replicate}
use Rattle.std.specs.Prelude.{if◌then◌else◌}
use Rattle.std.proofs.lemmas.Bool.Decides.{nat_tests}
use Rattle.rx_ast.specs.Tree.{Whole, mirror}
use Rattle.rx_ast.specs.declared.term.Pattern.{Pattern}
use Rattle.rx_units.specs.Units.{offset_at}
use Rattle.rx_model.specs.declared.mode.Mode.{Mode}
use Rattle.rx_model.specs.declared.rules.Rules.{Rules}
use Rattle.rx_model.specs.Inputs.Environment.{environment}
use Rattle.rx_model.specs.Trees.Events.{disjunction_events}
use Rattle.rx_model.specs.Reading.Reading.{IsSpanned}
use Rattle.rx_units.specs.declared.code_point.CodePoint.{CodePoint}
use Rattle.rx_model.proofs.Reading.NestedSpans.{spanned_is_nested}
use Rattle.rx_paint.proofs.Filled.{spanned_filled}
use Rattle.rx_paint.specs.declared.token.Kind.{Kind}
use Rattle.rx_paint.specs.declared.token.Kind.TheVariants as paints
use Rattle.rx_paint.specs.declared.token.Token.{Token}
use Rattle.rx_paint.proofs.Relabelled.{tokens_nested}
use Rattle.rx_ast.specs.Forest.{Forest, nothing, tree}
use Rattle.rx_ast.specs.Parts.{in_pattern, IsNestedPattern}
use Rattle.rx_paint.specs.Paints.{part_token, root_token}
use Rattle.rx_paint.specs.Runs.{kind_number, is_same, pattern_tokens, HaveNoOther}
use Rattle.rx_paint.specs.Edges.{Edge, edges, run_or_none, IsFilled}
use Rattle.rx_paint.proofs.Edges.{owners_of_edges, owners_of_both, owners_by_depth}
use Rattle.rx_paint.proofs.Runs.{runs_on, tokens_on}
use Rattle.rx_paint.proofs.Filled.{NotOther}

both : (xs ys : List Token) → HaveNoOther xs → HaveNoOther ys → HaveNoOther (xs ++ ys)
both [] ys a b = b
both (x ∷ xs) ys a b = (a.0, both xs ys a.1 b)

repeats : (n : ℕ) (parent : Token) → (parent.kind ≡ paints.Other → n ≡ 0) → HaveNoOther (replicate n parent)
repeats zero parent none = tt
repeats (suc n) parent none =
    let never : parent.kind ≡ paints.Other → ⊥ = λ other. let e = none other in omega arith in
    (never, repeats n parent (λ other. absurd (never other)))

none_other : (f : Forest Token) (low high : ℕ) (parent : Token) → IsFilled parent low high f → HaveNoOther (owners_of_edges low parent (edges parent f ++ ((high, parent) ∷ [])))
none_other nothing low high parent f = both _ _ (repeats (high - low) parent (λ other. let e = f other in omega arith)) tt
none_other (tree t inner after) low high parent f =
    let s = t.span.start in
    let e = t.span.end in
    let last : List Edge = (high, parent) ∷ [] in
    both _ _ (repeats (s - low) parent (λ other. let e = f.0 other in omega arith))
    (subst HaveNoOther (sym (ap (owners_of_edges s t) (append_assoc (edges t inner) ((e, parent) ∷ edges parent after) last) ∙ owners_of_both (edges t inner) s t parent t e (edges parent after ++ last)))
    (both _ _ (none_other inner s e t f.1) (none_other after e high parent f.2)))

is_other : (k : Kind) → kind_number k ≡ 11 → k ≡ paints.Other
is_other paints.Other e = refl
is_other _ e = cc

code_same : (own c : Token) → is_same own c ≡ true → kind_number own.kind ≡ kind_number c.kind
code_same own c same = grind (arith, nat_tests)

one_listed : (from at : ℕ) (own : Token) → (from < at → NotOther own.kind) → HaveNoOther (run_or_none from at own)
one_listed from at own never = elim (nat_lt from at) as (λ b. nat_lt from at ≡ b → HaveNoOther (if b then record { span = record { start = from; end = at }; kind = own.kind } ∷ [] else [])) [
  | true ↦ λ is. (never (grind (arith, nat_tests)), tt)
  | false ↦ λ is. tt
] refl

runs_other : (cs : List Token) (from : ℕ) (own : Token) (at : ℕ) → (from < at → NotOther own.kind) → HaveNoOther cs → HaveNoOther (runs_on from own at cs)
runs_other [] from own at never all = one_listed from at own never
runs_other (c ∷ cs) from own at never all = elim (is_same own c) as (λ b. is_same own c ≡ b → HaveNoOther (if b then runs_on from own (at + 1) cs else run_or_none from at own ++ runs_on at c (at + 1) cs)) [
  | true ↦ λ same. runs_other cs from own (at + 1) (λ lt other. all.0 (is_other c.kind (sym (code_same own c same) ∙ ap kind_number other))) all.1
  | false ↦ λ other. both _ _ (one_listed from at own never) (runs_other cs at c (at + 1) (λ lt. all.0) all.1)
] refl

-- The law: no token of such a pattern is painted Other.
pub no_other : (p : Whole) → IsNestedPattern p → IsFilled (root_token p) p.0.start p.0.end (in_pattern part_token p) → HaveNoOther (pattern_tokens p)
no_other p nested filled =
    let root = root_token p in
    let f = in_pattern part_token p in
    subst HaveNoOther (tokens_on root f)
    (runs_other _ p.0.start root p.0.start (λ lt. absurd (omega arith)) (subst HaveNoOther (sym (owners_by_depth f 1 p.0.start p.0.end root (tokens_nested p nested))) (none_other f p.0.start p.0.end root filled)))

-- The same of the model's words.
pub no_token_is_other : (mode : Mode) (rules : Rules) (p : Pattern) (us : List CodePoint) (first added : ℕ) → ((i j : ℕ) → i ≤ j → offset_at first us i ≤ offset_at first us j) → IsSpanned mode rules p us first added → HaveNoOther (pattern_tokens (mirror p))
unfolding disjunction_events
no_token_is_other mode rules p us first added rising row =
    no_other (mirror p) (spanned_is_nested mode rules p us first added rising row)
    (spanned_filled (environment mode rules p) (λ place. offset_at first us place + added) (mirror p) 0 (length us) us [] (λ i j le. let r = rising i j le in omega arith) row)
