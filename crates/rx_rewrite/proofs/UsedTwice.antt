-- Where no name is used twice, no two groups have one name.
use Rattle.std.proofs.Common.{◌≡◌, refl, ap, sym, subst, ◌∙◌, ℕ, Bool, true, false, if◌then◌else◌, Option, Some, None, List, [], ◌∷◌, ◌++◌, map, Contains, inl, inr, ◌⊎◌, arith}
use Rattle.std.proofs.lemmas.Bool.{true≢false}
use Rattle.std.proofs.lemmas.List.{map-append}
use Rattle.std.proofs.lemmas.List.Elements.{Contains-append_left, Contains-append_right}
use Rattle.std.specs.List.{flat_map}
use Rattle.rx_base.specs.declared.span.Span.{Span}
use Rattle.rx_ast.specs.Kinds.{Kind, capturing_group, pattern, order}
use Rattle.rx_ast.specs.Tree.{Whole}
use Rattle.rx_ast.specs.declared.term.Pattern.{Pattern}
use Rattle.rx_model.specs.Trees.Names.{AreDistinct, alternatives_names}
use Rattle.rx_trace.specs.declared.answer.MatchFlags.{MatchFlags}
use Rattle.rx_trace.specs.Groups.{same_units}
use Rattle.rx_rewrite.specs.declared.rewrites.Rewrites.{Rewrites}
use Rattle.std.specs.Prelude.{Ok}
use Rattle.rx_rewrite.specs.Answers.{IsRewritten, NamedGroup, named_group, named_groups, first_named, with_first, second_use, repeated_name}
use Rattle.rx_rewrite.specs.Asked.{CanBeRewritten}
use Rattle.rx_rewrite.specs.NamedGroups.{group_names}
use Rattle.rx_model.proofs.FirstPass.MarkNames.{contains_cases}
use Rattle.rx_rewrite.proofs.NamedSlots.{given_names, given-each, same_decides}
use Rattle.rx_rewrite.proofs.Orders.{names_of_order}

-- The groups among some nodes that have a name have these names.
named_are : (ks : List Kind) → map (λ g. g.0) (flat_map named_group ks) ≡ given_names (group_names ks)
named_are [] = refl
named_are ((capturing_group s None d) ∷ ks) = named_are ks
named_are ((capturing_group s (Some name) d) ∷ ks) = ap (λ names. name ∷ names) (named_are ks)
named_are (k ∷ ks) = named_are ks

tree_names : (tree : Whole) → map (λ g. g.0) (named_groups tree) ≡ alternatives_names tree.1.1
tree_names tree = named_are (order (pattern tree)) ∙ ap given_names (names_of_order tree) ∙ given-each tree.1.1

-- The first group of a name is none where no group has it.
none_named : (name : List ℕ) (gs : List NamedGroup) → first_named name gs ≡ None → Contains (map (λ g. g.0) gs) name → ⊥
none_named name [] none there = let low = there.1 in absurd (omega arith)
none_named name (g ∷ gs) none there = by_test (same_units name g.0) refl none (contains_cases g.0 (map (λ g. g.0) gs) name there) (none_named name gs)
  where
    by_test : (b : Bool) → same_units name g.0 ≡ b → (if b then Some g.1 else first_named name gs) ≡ None → (g.0 ≡ name) ⊎ Contains (map (λ g. g.0) gs) name
        → (first_named name gs ≡ None → Contains (map (λ g. g.0) gs) name → ⊥) → ⊥
    by_test true is none cases rest = absurd (cc)
    by_test false is none (inl same) rest = true≢false (sym ((same_decides name g.0).1 (sym same)) ∙ is)
    by_test false is none (inr more) rest = rest none more

both_none : (first : Option Span) (second : Span) (later : Option (Span × Span)) → with_first first second later ≡ None → (first ≡ None) × (later ≡ None)
both_none None second later none = (refl, none)
both_none (Some first) second later none = absurd (cc)

-- No name of a group stood before,
new_names : (before gs : List NamedGroup) → second_use before gs ≡ None → (name : List ℕ) → Contains (map (λ g. g.0) gs) name → Contains (map (λ g. g.0) before) name → ⊥
new_names before [] none name there stood = let low = there.1 in absurd (omega arith)
new_names before (g ∷ gs) none name there stood =
    let parts = both_none (first_named g.0 before) g.1 (second_use (before ++ g ∷ []) gs) none in
    elim (contains_cases g.0 (map (λ g. g.0) gs) name there) [
      | inl same ↦ none_named g.0 before parts.0 (subst (Contains (map (λ g. g.0) before)) (sym same) stood)
      | inr more ↦ new_names (before ++ g ∷ []) gs parts.1 name more
          (subst (λ names. Contains names name) (sym (map-append (λ g. g.0) before (g ∷ []))) (Contains-append_left (map (λ g. g.0) before) (g.0 ∷ []) name stood))
    ]

-- so they are distinct.
distinct : (before gs : List NamedGroup) → second_use before gs ≡ None → AreDistinct (map (λ g. g.0) gs)
distinct before [] none = tt
distinct before (g ∷ gs) none =
    let parts = both_none (first_named g.0 before) g.1 (second_use (before ++ g ∷ []) gs) none in (
      λ there. new_names (before ++ g ∷ []) gs parts.1 g.0 there
          (subst (λ names. Contains names g.0) (sym (map-append (λ g. g.0) before (g ∷ []))) (Contains-append_right (map (λ g. g.0) before) (g.0 ∷ []) g.0 (0, omega arith, refl))),
      distinct (before ++ g ∷ []) gs parts.1,
    )

pub none_twice : (tree : Whole) → repeated_name tree ≡ None → AreDistinct (alternatives_names tree.1.1)
none_twice tree none = subst AreDistinct (tree_names tree) (distinct [] (named_groups tree) none)

-- What a rewriting gives could be rewritten.
pub can_be : (what : Rewrites) (flags : MatchFlags) (tree : Whole) (it : Pattern) → IsRewritten what flags tree (Ok it) → CanBeRewritten what tree
can_be what flags tree it is asked = none_twice tree (is.0 asked)
