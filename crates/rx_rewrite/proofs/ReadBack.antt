-- The spelling of the rewritten pattern is read back as it.
use Rattle.std.proofs.Common.{◌≡◌, ◌≢◌, refl, ap, sym, subst, ◌∙◌, ℕ, Bool, true, false, ◌||◌, if◌then◌else◌, Option, Some, None, List, [], ◌∷◌, arith}
use Rattle.std.specs.List.{All}
use Rattle.std.proofs.lemmas.List.Elements.{All-nil, All-cons, All-head, All-tail}
use Rattle.rx_base.specs.declared.span.Span.{Span}
use Rattle.rx_ast.specs.declared.leaf.BoundaryAssertionKind.{BoundaryAssertionKind}
use Rattle.rx_ast.specs.declared.leaf.BoundaryAssertionKind.TheVariants as at
use Rattle.rx_ast.specs.declared.leaf.Modifiers.{Modifiers}
use Rattle.rx_ast.specs.declared.leaf.NamedReference.{NamedReference}
use Rattle.rx_ast.specs.declared.term.Pattern.{Pattern}
use Rattle.rx_ast.specs.Forget.{forget_class, same_kind}
use Rattle.rx_ast.specs.Tree as tree
use Rattle.rx_ast.specs.Tree.{Leaf, mirror, mirror_disjunction}
use Rattle.rx_units.specs.declared.code_point.CodePoint.{CodePoint}
use Rattle.rx_model.specs.declared.mode.Mode.{Mode}
use Rattle.rx_model.specs.declared.rules.Rules.{Rules}
use Rattle.rx_model.specs.Inputs.Environment.{Environment, environment, has_some, is_unicode}
use Rattle.rx_model.specs.Reading.Boundaries.{has_boundary}
use Rattle.rx_model.specs.Reading.Reading.{Reads}
use Rattle.rx_model.specs.Spelling.ReadBack.{FitIn, IsReadBack}
use Rattle.rx_model.specs.Trees.Events.{alternatives_events, tokens}
use Rattle.rx_model.specs.Trees.Token.{Token, capturing, ignoring, bits, leaf_token}
use Rattle.rx_model.proofs.Spelling.ClassKnown.{IsKnownClass}
use Rattle.rx_model.proofs.Spelling.Known.{IsKnownOpener, Known, AreKnown, are_known, has_tokens}
use Rattle.rx_model.proofs.Spelling.OneLines.{some_tokens}
use Rattle.rx_model.proofs.Spelling.ReadBack.{known_is_read_back}
use Rattle.rx_model.proofs.Trees.Flat.{before, tokens_are}
use Rattle.rx_trace.specs.declared.answer.MatchFlags.{MatchFlags}
use Rattle.rx_trace.specs.Answers.{settings}
use Rattle.rx_trace.specs.Groups.{Names, names_in_each}
use Rattle.rx_trace.specs.declared.settings.Settings.{Settings}
use Rattle.rx_rewrite.specs.declared.rewrites.Rewrites.{Rewrites}
use Rattle.rx_rewrite.specs.Rewriting.{number_of, any_unit, no_line_terminator, leaf_rewritten, flags_rewritten, rewritten}
use Rattle.rx_rewrite.proofs.Early.{its_early}
use Rattle.rx_rewrite.proofs.Patterns.{its_tree, all_names, its_shape}
use Rattle.rx_rewrite.proofs.LeafRewrites.{leaf-all}
use Rattle.rx_rewrite.proofs.Tokens.{OfNode, kept-tokens, some-rewritten}

known_all : (e : Environment) (ts : List Token) → AreKnown true e ts → All (Known true e) ts
known_all e [] known = All-nil (Known true e)
known_all e (t ∷ ts) known = All-cons (Known true e) t ts known.0 (known_all e ts known.1)

all_known : (e : Environment) (ts : List Token) → All (Known true e) ts → AreKnown true e ts
all_known e [] known = tt
all_known e (t ∷ ts) known = (All-head (Known true e) t ts known, all_known e ts (All-tail (Known true e) t ts known))

-- The classes that are made can be spelled in each mode.
any_known : (mode : Mode) (s : Span) → IsKnownClass true mode (forget_class same_kind (any_unit s))
any_known mode s = record { no_spans = refl; shape = ((tt, tt), (refl, tt)); known = (tt, tt) }

no_terminator_known : (mode : Mode) (s : Span) → IsKnownClass true mode (forget_class same_kind (no_line_terminator s))
no_terminator_known mode s = record {
  no_spans = refl;
  shape = ((tt, (tt, (tt, (tt, (tt, tt))))), (refl, (tt, (tt, (tt, (tt, tt))))));
  known = (tt, (λ _ legacy. omega arith, (λ _ legacy. omega arith, (λ _ legacy. omega arith, (λ _ legacy. omega arith, tt)))));
}

-- Modifiers of a tree have three bits on each side that count.
three_bits_known : (mode : Mode) (m : Option Modifiers) → IsKnownOpener true mode (ignoring (bits m))
three_bits_known mode None = tt
three_bits_known mode (Some m) = (omega arith, omega arith)

module _ (what : Rewrites) (flags : MatchFlags) (p q : Pattern) (is : mirror q ≡ rewritten what flags (mirror p)) (mode : Mode) (rules : Rules) where
  table : Names
  table = names_in_each (mirror_disjunction p.body).1

  boundary_known : (kind : BoundaryAssertionKind) → has_boundary (environment mode rules p) kind ≡ true → has_boundary (environment mode rules q) kind ≡ true
  boundary_known at.Start known = refl
  boundary_known at.End known = refl
  boundary_known at.Boundary known = refl
  boundary_known at.NegativeBoundary known = refl
  boundary_known at.StartBuffer known = known
  boundary_known at.EndBuffer known = known
  boundary_known at.EndBufferOptionalNewline known = known

  reference_known : (asked : Bool) → what.named_capture_groups ≡ asked → (r : NamedReference) → Known true (environment mode rules p) (leaf_token (tree.named r)) →
      Known true (environment mode rules q) (leaf_token (if asked then tree.indexed (record { span = r.span; index = number_of r.name table }) else tree.named r))
  reference_known true asked r known = tt
  reference_known false not_asked r known = (known.0, ap (λ ns. is_unicode mode || has_some ns) (all_names what flags p q is not_asked) ∙ known.1)

  leaf_known : (old new : Settings) (l : Leaf) → Known true (environment mode rules p) (leaf_token l) → OfNode (Known true (environment mode rules q)) (leaf_rewritten what table old new l)
  leaf_known old new (tree.boundary b) known =
      leaf-all what table (OfNode (Known true (environment mode rules q))) old new (tree.boundary b)
      (boundary_known b.kind known, λ k. ((tt, ((no_terminator_known mode b.span, tt), tt)), (tt, ((any_known mode b.span, tt), tt))))
  leaf_known old new (tree.character c) known = known
  leaf_known old new (tree.dot d) known =
      leaf-all what table (OfNode (Known true (environment mode rules q))) old new (tree.dot d) (tt, any_known mode d.span, no_terminator_known mode d.span)
  leaf_known old new (tree.class_escape k) known = tt
  leaf_known old new (tree.property it) known = known
  leaf_known old new (tree.class k) known = known
  leaf_known old new (tree.indexed r) known = tt
  leaf_known old new (tree.named r) known = reference_known what.named_capture_groups refl r known

  name_known : (asked : Bool) (name : Option (List ℕ)) → IsKnownOpener true mode (capturing name) → IsKnownOpener true mode (capturing (if asked then None else name))
  name_known true name known = tt
  name_known false name known = known

  tokens_known : AreKnown true (environment mode rules p) (tokens p) → AreKnown true (environment mode rules q) (tokens q)
  unfolding table
  tokens_known known =
      let old = settings flags in
      let new = settings (flags_rewritten what flags) in
      let P = Known true (environment mode rules p) in
      let Q = Known true (environment mode rules q) in
      all_known (environment mode rules q) (tokens q)
      (subst (All Q) (sym (tokens_are q ∙ ap (λ more. before (alternatives_events more) []) (its_tree what flags p q is)))
      (kept-tokens what table P Q leaf_known (λ min max greedy h. tt) (name_known what.named_capture_groups) (λ m h. three_bits_known mode _) (λ k h. tt) tt tt old new (mirror_disjunction p.body).1
      (subst (All P) (tokens_are p) (known_all (environment mode rules p) (tokens p) known))))

  some_left : tokens p ≢ [] → tokens q ≢ []
  some_left some =
      subst (λ ts. ts ≢ []) (sym (tokens_are q ∙ ap (λ more. before (alternatives_events more) []) (its_tree what flags p q is)))
      (some-rewritten what (names_in_each (mirror_disjunction p.body).1) (settings flags) (settings (flags_rewritten what flags)) (mirror_disjunction p.body).1
      (subst (λ ts. ts ≢ []) (tokens_are p) some))

  pub rewritten_is_read_back : (us : List CodePoint) → Reads mode rules p us → FitIn mode us → us ≢ [] → IsReadBack mode rules q
  rewritten_is_read_back us reads fit some =
      let e = environment mode rules p in
      let e_new = environment mode rules q in
      let known = tokens_known (are_known true e (tokens p) us [] (λ _. fit) reads.spelled.row) in
      known_is_read_back mode rules q (its_early what flags p q is rules reads.early) (its_shape what flags p q is mode reads.spelled.shape) known
      (some_tokens e_new false (tokens q) (some_left (has_tokens e (tokens p) us reads.spelled.row some)))
