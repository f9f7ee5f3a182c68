-- The worked rows, by computation of the definitions alone.
use Rattle.std.proofs.Common.{◌≡◌, refl, ℕ, true, false, Some, None, List, [], ◌∷◌}
use Rattle.rx_ast.specs.declared.leaf.CharacterKind.TheVariants.{Symbol}
use Rattle.rx_ast.specs.declared.leaf.BoundaryAssertionKind.TheVariants.{End}
use Rattle.rx_ast.specs.declared.leaf.CharacterClassEscapeKind.TheVariants.{D}
use Rattle.rx_ast.specs.declared.leaf.LookAroundAssertionKind.TheVariants.{Lookbehind}
use Rattle.rx_ast.specs.Forget.{nowhere}
use Rattle.rx_ast.specs.Tree as tree
use Rattle.rx_ast.specs.Tree.{Node, Alternatives, leaf, quantified, group, no_node, node, no_alternative, alternative, capturing, looking}
use Rattle.rx_trace.specs.declared.answer.Slot.{Slot}
use Rattle.rx_trace.specs.declared.answer.Slot.TheVariants.{Unset, Set}
use Rattle.rx_trace.specs.Traces.{State, cost, first}
use Rattle.rx_trace.specs.declared.settings.Settings.{Settings}
use Rattle.rx_trace.specs.Matching.{alternatives_trace}

abbrev plain : Settings
plain = record { multiline = false; dot_all = false }

abbrev at : ℕ → List Slot → State
at p slots = record { place = p; slots = slots }

abbrev char : ℕ → Node
char c = leaf (tree.character (record { span = nowhere; kind = Symbol; value = c }))

abbrev one : Node → Alternatives
one n = alternative nowhere (node n no_node) no_alternative

abbrev star : Node → Node
star n = quantified nowhere 0 None true n

-- a|b on b
abbrev a_or_b : Alternatives
a_or_b = alternative nowhere (node (char 97) no_node) (one (char 98))

row_1 : first (alternatives_trace (98 ∷ []) [] a_or_b plain false 0 (at 0 [])) ≡ Some (at 1 [])
row_1 = refl

row_1_cost : cost (alternatives_trace (98 ∷ []) [] a_or_b plain false 0 (at 0 [])) ≡ 2
row_1_cost = refl

-- (a*)* on b
abbrev stars : Alternatives
stars = one (star (group nowhere (capturing None) nowhere (one (star (char 97)))))

row_2 : first (alternatives_trace (98 ∷ []) (None ∷ []) stars plain false 0 (at 0 (Unset ∷ []))) ≡ Some (at 0 (Unset ∷ []))
row_2 = refl

row_2_cost : cost (alternatives_trace (98 ∷ []) (None ∷ []) stars plain false 0 (at 0 (Unset ∷ []))) ≡ 4
row_2_cost = refl

-- (?<=(\d+)(\d+))$ on 1053, from the end
abbrev digits : Node
digits = group nowhere (capturing None) nowhere (one (quantified nowhere 1 None true (leaf (tree.class_escape (record { span = nowhere; kind = D })))))

abbrev after_digits : Alternatives
after_digits = alternative nowhere (node (group nowhere (looking Lookbehind) nowhere (alternative nowhere (node digits (node digits no_node)) no_alternative)) (node (leaf (tree.boundary (record { span = nowhere; kind = End }))) no_node)) no_alternative

row_3 : first (alternatives_trace (49 ∷ 48 ∷ 53 ∷ 51 ∷ []) (None ∷ None ∷ []) after_digits plain false 0 (at 4 (Unset ∷ Unset ∷ []))) ≡ Some (at 4 (Set 0 1 ∷ Set 1 4 ∷ []))
row_3 = refl
