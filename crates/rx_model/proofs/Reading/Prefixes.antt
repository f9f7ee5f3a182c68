-- Of one text two rows of tokens from one place are prefixes of one another, whatever they leave; so are rows of class tokens.
use Rattle.std.proofs.Common.{◌≡◌, ◌⊎◌, ap, ap₂, sym, ◌∙◌, List, ◌++◌, length, drop, inl, inr}
use Rattle.std.proofs.Math.Seq.{drop-append_seam}
use Rattle.rx_units.specs.declared.code_point.CodePoint.{CodePoint}
use Rattle.rx_units.proofs.Choices.{Some-inj}
use Rattle.rx_model.specs.Classes.ClassFronts.{class_token_at}
use Rattle.rx_model.specs.Classes.ClassRows.{Place, next_place, SpellsInClass, ClassTokenRow}
use Rattle.rx_model.specs.Classes.ClassTokens.{ClassToken}
use Rattle.rx_model.specs.Inputs.Environment.{Environment}
use Rattle.rx_model.specs.Reading.Prefixes.{GoesOn, GoesOnInClass}
use Rattle.rx_model.specs.Reading.Rows.{TokenRow}
use Rattle.rx_model.specs.Trees.Token.{Token}
use Rattle.rx_model.proofs.Classes.ClassFronts.{class_token_is}
use Rattle.rx_model.proofs.Reading.OneRow.{token_at, after_token, first_token, elements, of_elements}
use Rattle.rx_units.proofs.Sequences as sequences

module _ (e : Environment) where
  -- Two tokens that one text begins with at one place of a class are one.
  pub first_in_class : (q : Place) (t s : ClassToken) (w more v rest : List CodePoint) → w ++ more ≡ v ++ rest → SpellsInClass e q t w more → SpellsInClass e q s v rest → (t ≡ s) × (more ≡ rest)
  first_in_class q t s w more v rest h a b =
      let k : (t, length w) ≡ (s, length v) = Some-inj (sym (class_token_is e q t w more a) ∙ ap (class_token_at e q) h ∙ class_token_is e q s v rest b) in
      (ap (λ x. x.0) k, sym (drop-append_seam w more) ∙ ap₂ drop (ap (λ x. x.1) k) h ∙ drop-append_seam v rest)

  pub prefixes : (ts ss : List Token) (us a b : List CodePoint) → TokenRow e ts us a → TokenRow e ss us b → GoesOn e ts a ss b ⊎ GoesOn e ss b ts a
  prefixes ts ss us a b r s = elim (sequences.prefixes (token_at e) after_token (first_token e) ts ss tt us tt a tt b (elements e ts us a r) (elements e ss us b s)) [
    | inl i ↦ inl (i.0, i.1, of_elements e i.0 a b i.2)
    | inr i ↦ inr (i.0, i.1, of_elements e i.0 b a i.2)
  ]

  pub class_prefixes : (ts ss : List ClassToken) (q : Place) (us : List CodePoint) (r : Place) (a : List CodePoint) (p : Place) (b : List CodePoint) → ClassTokenRow e ts q us r a → ClassTokenRow e ss q us p b →
      GoesOnInClass e ts r a ss p b ⊎ GoesOnInClass e ss p b ts r a
  class_prefixes = sequences.prefixes (SpellsInClass e) (next_place e.mode) first_in_class
