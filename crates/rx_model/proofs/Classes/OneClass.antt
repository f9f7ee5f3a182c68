-- A text begins with at most one class, whose tokens are a list that ends before a stop.
use Rattle.std.proofs.Common.{◌≡◌, refl, Option, Some, None, List, ◌++◌}
use Rattle.rx_ast.specs.ClassTree.{Class}
use Rattle.rx_units.specs.declared.code_point.CodePoint.{CodePoint}
use Rattle.rx_model.specs.Classes.ClassRows.{IsClass}
use Rattle.rx_model.specs.Classes.ClassTokens.{ClassToken}
use Rattle.rx_model.specs.Reading.ElementKinds.{NestedPlace, SpellsOfClass}
use Rattle.rx_model.specs.Inputs.Environment.{Environment, for_classes}
use Rattle.rx_model.specs.Trees.Token as token
use Rattle.rx_model.proofs.Reading.OneRow.{class_same, first_token}
use Rattle.rx_model.proofs.Reading.Prefixes.{first_in_class}

module _ (e : Environment) where
  pub first_of_class : (q : Option NestedPlace) (t s : ClassToken) (w more v rest : List CodePoint) → w ++ more ≡ v ++ rest → SpellsOfClass e q t w more → SpellsOfClass e q s v rest → (t ≡ s) × (more ≡ rest)
  first_of_class None t s w more v rest h a b = absurd a
  first_of_class (Some p) t s w more v rest h a b = first_in_class e p.1 t s w more v rest h a b

  pub one_class : (c d : Class) (w rest v back : List CodePoint) → IsClass e c w rest → IsClass e d v back → w ++ rest ≡ v ++ back → (c ≡ d) × (rest ≡ back)
  one_class c d w rest v back a b h =
      let f =
      first_token e tt (token.class c) (token.class d) w rest v back h (class_same e (for_classes e) c w rest refl refl (λ _. refl) a)
      (class_same e (for_classes e) d v back refl refl (λ _. refl) b) in
      let same : token.class c ≡ token.class d = f.0 in
      (cc same, f.1)
