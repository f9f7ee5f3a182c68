use Rattle.std.proofs.Common.{ap, refl, sym, ◌∙◌}
use Rattle.rx_units.proofs.Digits.{none_by_first, none_by_last, some_by_both}
use Rattle.rx_model.specs.Characters.LegacyEscapes.{four_next}
use Rattle.rx_scan.proofs.FourDigits.{four_items, next_read}
use Rattle.rx_scan.proofs.Steps.{short_next}
use Rattle.rx_scan.proofs.unicode_escape.four_hex_digits.Goals as goal

pub returns-in_err-high-in-len4-up : goal.returns-in_err-high-in-len4-up
returns-in_err-high-in-len4-up g c =
    let value = g.U.Unit.value in
    let third = value c.c-item.result in
    let fourth = value c.d-item.result in
    let stand = four_items value _ c.items.result.now c.a-item.result c.b-item.result c.c-item.result c.d-item.result _ _ third fourth c.items.ensures.values c.in-len4-up.len_at_least
    c.a-item.is c.b-item.is c.c-item.is c.d-item.is c.value.ensures c.value-in-len4-up.ensures refl refl in
    next_read _ _ _ _ _ _ stand _ (c.from_residual.ensures ∙ none_by_first c.value.result c.value-in-len4-up.result third fourth c.in_err-high-in-len4-up.ensures.value)

pub returns-in_err-low-in-len4-up : goal.returns-in_err-low-in-len4-up
returns-in_err-low-in-len4-up g c =
    let stand = four_items g.U.Unit.value _ c.items.result.now c.a-item.result c.b-item.result c.c-item.result c.d-item.result _ _ _ _ c.items.ensures.values c.in-len4-up.len_at_least
    c.a-item.is c.b-item.is c.c-item.is c.d-item.is c.value.ensures c.value-in-len4-up.ensures c.value-in-len4-up-2.ensures c.value-in-len4-up-3.ensures in
    next_read _ _ _ _ _ _ stand _ (c.from_residual-in_err-low-in-len4-up.ensures ∙ none_by_last c.value.result c.value-in-len4-up.result c.value-in-len4-up-2.result c.value-in-len4-up-3.result _ c.in_ok-high-in-len4-up.ensures.value c.in_err-low-in-len4-up.ensures.value)

pub returns-in_default : goal.returns-in_default
returns-in_default g c = sym (ap four_next c.items.ensures.values ∙ short_next g.U.Unit.value c.items.result.now c.in_default.len_below)

pub returns-in_ok-low-in-len4-up : goal.returns-in_ok-low-in-len4-up
returns-in_ok-low-in-len4-up g c =
    let stand = four_items g.U.Unit.value _ c.items.result.now c.a-item.result c.b-item.result c.c-item.result c.d-item.result _ _ _ _ c.items.ensures.values c.in-len4-up.len_at_least
    c.a-item.is c.b-item.is c.c-item.is c.d-item.is c.value.ensures c.value-in-len4-up.ensures c.value-in-len4-up-2.ensures c.value-in-len4-up-3.ensures in
    next_read _ _ _ _ _ _ stand _ (some_by_both c.value.result c.value-in-len4-up.result c.value-in-len4-up-2.result c.value-in-len4-up-3.result _ _ c.in_ok-high-in-len4-up.ensures.value c.in_ok-low-in-len4-up.ensures.value)
