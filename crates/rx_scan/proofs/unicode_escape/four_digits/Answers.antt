use Rattle.std.proofs.Common.{◌≡◌, ◌∷◌, ap, drop, length, sym, ◌∙◌, arith}
use Rattle.rx_units.specs.Units.{values}
use Rattle.rx_model.specs.Characters.Decoding.{four_at}
use Rattle.rx_scan.proofs.FourDigits.{digits_read, four_items, four_read, four_unread, short_looked, steps_read, steps_unread}
use Rattle.rx_scan.proofs.MarkSteps.{values_length}
use Rattle.rx_scan.proofs.Steps.{short_four}
use Rattle.rx_scan.proofs.unicode_escape.four_digits.Given.{Over}
use Rattle.rx_scan.proofs.unicode_escape.four_digits.Goals.{After-number_of_four}
use Rattle.rx_scan.proofs.unicode_escape.four_digits.Goals as goal

four_stand : (g : Over) (c : After-number_of_four g) → values c.args.units.now ≡ c.value.result ∷ c.value-in-len4-up.result ∷ c.value-in-len4-up-2.result ∷ c.value-in-len4-up-3.result ∷ drop 4 (values c.args.units.now)
four_stand g c =
    four_items g.U.Unit.value _ c.items.result.now c.a-item.result c.b-item.result c.c-item.result c.d-item.result _ _ _ _ c.items.ensures.values c.in-len4-up.len_at_least
    c.a-item.is c.b-item.is c.c-item.is c.d-item.is c.value.ensures c.value-in-len4-up.ensures c.value-in-len4-up-2.ensures c.value-in-len4-up-3.ensures

pub returns-in_err-number-in-len4-up-clause-value : goal.returns-in_err-number-in-len4-up-clause-value
returns-in_err-number-in-len4-up-clause-value g c =
    let stand = four_stand g (goal.at.returns-in_err-number-in-len4-up-clause-value g c).After-number_of_four in
    rw c.from_residual.ensures (four_unread _ _ _ _ _ _ stand c.in_err-number-in-len4-up.ensures.value)

pub returns-in_err-number-in-len4-up-clause-steps : goal.returns-in_err-number-in-len4-up-clause-steps
returns-in_err-number-in-len4-up-clause-steps g c =
    let stand = four_stand g (goal.at.returns-in_err-number-in-len4-up-clause-steps g c).After-number_of_four in
    rw c.from_residual.ensures
    (steps_unread _ _ _ _ _ _ stand _ _ (length c.args.units.now) (values_length c.args.units.now) c.in_err-number-in-len4-up.ensures.value c.number_of_four.ensures.looked)

pub returns-in_err-number-in-len4-up-clause-looked : goal.returns-in_err-number-in-len4-up-clause-looked
returns-in_err-number-in-len4-up-clause-looked g c =
    let stand = four_stand g (goal.at.returns-in_err-number-in-len4-up-clause-looked g c).After-number_of_four in
    digits_read _ _ _ _ _ _ stand _ _ c.number_of_four.ensures.looked

pub returns-in_default-clause-value : goal.returns-in_default-clause-value
returns-in_default-clause-value g c = sym (ap four_at c.items.ensures.values ∙ short_four g.U.Unit.value c.items.result.now c.in_default.len_below)

pub returns-in_default-clause-looked : goal.returns-in_default-clause-looked
returns-in_default-clause-looked g c =
    short_looked (values c.args.units.now) _ (omega (arith, values_length c.args.units.now, c.items.ensures.length, c.in_default.len_below))

pub returns-in_ok-number-in-len4-up-clause-value : goal.returns-in_ok-number-in-len4-up-clause-value
returns-in_ok-number-in-len4-up-clause-value g c =
    let stand = four_stand g (goal.at.returns-in_ok-number-in-len4-up-clause-value g c).After-number_of_four in
    rw c.from.ensures.values (four_read _ _ _ _ _ _ stand _ c.in_ok-number-in-len4-up.ensures.value)

pub returns-in_ok-number-in-len4-up-clause-steps : goal.returns-in_ok-number-in-len4-up-clause-steps
returns-in_ok-number-in-len4-up-clause-steps g c =
    steps_read c.value.result c.value-in-len4-up.result c.value-in-len4-up-2.result c.value-in-len4-up-3.result _ _ _ c.in_ok-number-in-len4-up.ensures.value c.number_of_four.ensures.looked

pub returns-in_ok-number-in-len4-up-clause-looked : goal.returns-in_ok-number-in-len4-up-clause-looked
returns-in_ok-number-in-len4-up-clause-looked g c =
    let stand = four_stand g (goal.at.returns-in_ok-number-in-len4-up-clause-looked g c).After-number_of_four in
    digits_read _ _ _ _ _ _ stand _ _ c.number_of_four.ensures.looked
