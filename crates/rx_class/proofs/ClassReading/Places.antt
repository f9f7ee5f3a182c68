-- Places of a class without `v`.
use Rattle.std.proofs.Common.{◌≡◌, false, ℕ, List, ◌∷◌, ◌++◌, inl, inr, refl}
use Rattle.rx_class.proofs.Common.{CodePoint, IsAtomPlace, IsItemPlace, IsOperandPlace, strings, Environment, is_sets}
use Rattle.rx_model.specs.Refusals.ClassPlaces.{IsPropertyPlace}
use Rattle.rx_model.specs.Classes.ClassRows.{in_strings, outside}
use Rattle.rx_model.proofs.Classes.ClassEnds.{class_row_append}
use Rattle.rx_model.proofs.Classes.ClassStates.{none_in_strings, opened_union, union_more}

module _ {e : Environment} (no_sets : is_sets e.mode ≡ false) {from : ℕ} {at_class : List CodePoint} {place : ℕ} {rest : List CodePoint} where
  -- Where an item may begin an operand may stand: each bracket is around a union.
  pub operand_place : IsItemPlace e from at_class place rest → IsOperandPlace e from at_class place rest
  operand_place p = record { item_place = p; takes = (union_more p.inner.held (opened_union e no_sets p.tokens at_class p.at rest p.inner p.outer p.row p.accepted)).0 }

  -- Where a character escape may stand a property escape may: there are no class strings.
  pub property_place : IsAtomPlace e from at_class place rest → IsPropertyPlace e from at_class place rest
  property_place (inl p) = inl p
  property_place (inr (inl p)) = inr (no_sets, p)
  property_place (inr (inr (opener, p))) =
      let i = p.item_place in
      absurd (none_in_strings e no_sets (i.tokens ++ (strings ∷ p.inside)) at_class in_strings rest
      (class_row_append e i.tokens (strings ∷ p.inside) outside at_class i.at p.at_strings in_strings rest i.row p.row) refl)
