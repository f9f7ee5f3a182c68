-- What is written of alternatives and of terms, by the first and the others.
use Rattle.std.proofs.Common.{◌≡◌, refl, ap, sym, ◌∙◌, ℕ, Bool, false, true, codes, List, [], ◌∷◌, ◌++◌, append_assoc, length, map}
use Rattle.std.proofs.lemmas.Bool.{false≢true}
use Rattle.std.specs.declared.alloc.Global.{Global}
use Rattle.std.specs.declared.boxed.Box.{Box}
use Rattle.rx_ast.specs.declared.term.Alternative.{Alternative}
use Rattle.rx_ast.specs.declared.term.CapturingGroup.{CapturingGroup, out-CapturingGroup}
use Rattle.rx_ast.specs.declared.term.Disjunction.{Disjunction, out-Disjunction}
use Rattle.rx_ast.specs.declared.term.IgnoreGroup.{IgnoreGroup, out-IgnoreGroup}
use Rattle.rx_ast.specs.declared.term.LookAroundAssertion.{LookAroundAssertion, out-LookAroundAssertion}
use Rattle.rx_ast.specs.declared.term.Pattern.{Pattern}
use Rattle.rx_ast.specs.declared.term.Quantifier.{Quantifier}
use Rattle.rx_ast.specs.declared.term.Term.{Term}
use Rattle.rx_ast.specs.declared.term.Term.TheVariants as term
use Rattle.rx_ast.specs.Forget.{bare}
use Rattle.rx_ast.specs.Texts.{opener_text, quantifier_text}
use Rattle.rx_ast.specs.Tree.{Leaf, Node, capturing, group, ignoring, leaf, looking, mirror_disjunction, mirror_term, nodes, quantified}
use Rattle.rx_ast.proofs.Equations.{alternative_is, disjunction_is, tree_of_quantifier, tree_of_capturing, tree_of_ignore, tree_of_look}
use Rattle.rx_display.specs.Tasks.{tree_of}
use Rattle.rx_model.specs.declared.mode.Mode.{Mode}
use Rattle.rx_model.specs.Spelling.Spelling.{alternatives_text, barred_text, leaf_text, node_text, nodes_text, refers, spelling}
use Rattle.rx_model.proofs.Spelling.Spelling.{spelling_bare}
use Rattle.rx_tools.specs.Leaves.{is_leaf}
use Rattle.rx_tools.specs.Tasks.{opening_text}
use Rattle.rx_tools.proofs.Trees.{of_term}

pub disjunction_cut : (mode : Mode) (all : List Alternative) (first : Alternative) (others : List Alternative) → all ≡ first ∷ others →
    alternatives_text mode (tree_of all) ≡ nodes_text mode false (nodes (map mirror_term first.body)) ++ barred_text mode (tree_of others)
disjunction_cut mode all first others cut = rw (cut, alternative_is first) refl

-- Alternatives that are to stand after bars are written as others, after one bar.
pub barred_cut : (mode : Mode) (all : List Alternative) → (length all ≡ 0 → ⊥) → barred_text mode (tree_of all) ≡ codes "|" ++ alternatives_text mode (tree_of all)
barred_cut mode [] some = absurd (some refl)
barred_cut mode (first ∷ others) some = refl

pub terms_cut : (mode : Mode) (after_reference : Bool) (all : List Term) (first : Term) (others : List Term) (more : List ℕ) → all ≡ first ∷ others →
    nodes_text mode after_reference (nodes (map mirror_term all)) ++ more
    ≡ node_text mode after_reference (mirror_term first) ++ (nodes_text mode (refers (mirror_term first)) (nodes (map mirror_term others)) ++ more)
terms_cut mode after_reference all first others more cut =
    rw cut (append_assoc (node_text mode after_reference (mirror_term first)) (nodes_text mode (refers (mirror_term first)) (nodes (map mirror_term others))) more)

-- what is after the opener of a group
abbrev pub inside_text : Mode → Disjunction → List ℕ
inside_text mode d = alternatives_text mode (mirror_disjunction d).1 ++ codes ")"

-- a term in which nothing nests is all written before the tasks that it leaves
pub opening_of_leaf : (mode : Mode) (after_reference : Bool) (n : Node) → is_leaf n ≡ true → opening_text mode after_reference n ≡ node_text mode after_reference n
opening_of_leaf mode after_reference (leaf l) single = refl
opening_of_leaf mode after_reference (quantified s min max greedy n) single = absurd (false≢true single)
opening_of_leaf mode after_reference (group s o d more) single = absurd (false≢true single)

module _ (mode : Mode) (after_reference : Bool) (more : List ℕ) where
  -- a term with no others in it, and what is after it
  pub leaf_cut : {t variant : Term} {l : Leaf} {after : List ℕ} → t ≡ variant → mirror_term variant ≡ leaf l → after ≡ more →
      node_text mode after_reference (mirror_term t) ++ more ≡ opening_text mode after_reference (mirror_term t) ++ after
  leaf_cut {l = l} {after = after} is mirrored same =
      of_term (λ n. node_text mode after_reference n ++ more) is mirrored ∙ ap (λ text. leaf_text mode after_reference l ++ text) (sym same)
      ∙ sym (of_term (λ n. opening_text mode after_reference n ++ after) is mirrored)

  -- what a term with others in it begins with, and what is after that
  pub quantifier_cut : (q : Box Quantifier Global) → let n = mirror_term (term.Quantifier q) in
      node_text mode after_reference n ++ more ≡ opening_text mode after_reference n ++ (node_text mode after_reference (mirror_term q.value.body) ++ (quantifier_text q.value.min q.value.max q.value.greedy ++ more))
  quantifier_cut q = rw (tree_of_quantifier q) (append_assoc (node_text mode after_reference (mirror_term q.value.body)) (quantifier_text q.value.min q.value.max q.value.greedy) more)

  pub capturing_cut : (g : Box CapturingGroup Global) → let n = mirror_term (term.CapturingGroup g) in
      node_text mode after_reference n ++ more ≡ opening_text mode after_reference n ++ (inside_text mode (out-CapturingGroup g.value).body ++ more)
  capturing_cut g = let h = out-CapturingGroup g.value in rw (tree_of_capturing g) (append_assoc (opener_text (capturing h.name)) (inside_text mode h.body) more)

  pub ignore_cut : (g : Box IgnoreGroup Global) → let n = mirror_term (term.IgnoreGroup g) in
      node_text mode after_reference n ++ more ≡ opening_text mode after_reference n ++ (inside_text mode (out-IgnoreGroup g.value).body ++ more)
  ignore_cut g = let h = out-IgnoreGroup g.value in rw (tree_of_ignore g) (append_assoc (opener_text (ignoring h.modifiers)) (inside_text mode h.body) more)

  pub look_cut : (g : Box LookAroundAssertion Global) → let n = mirror_term (term.LookAroundAssertion g) in
      node_text mode after_reference n ++ more ≡ opening_text mode after_reference n ++ (inside_text mode (out-LookAroundAssertion g.value).body ++ more)
  look_cut g = let h = out-LookAroundAssertion g.value in rw (tree_of_look g) (append_assoc (opener_text (looking h.kind)) (inside_text mode h.body) more)

-- the spelling of a pattern, by its alternatives
pub spelling_is : (p : Pattern) (mode : Mode) (items : List Alternative) → items ≡ (out-Disjunction p.body).body → spelling (bare p) mode ≡ alternatives_text mode (tree_of items)
spelling_is p mode items same = spelling_bare p mode ∙ ap (λ d. alternatives_text mode d.1) (disjunction_is p.body) ∙ ap (λ as'. alternatives_text mode (tree_of as')) (sym same)
