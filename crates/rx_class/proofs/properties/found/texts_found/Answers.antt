use Rattle.std.proofs.Common.{arith, refl, sym, ◌∙◌}
use Rattle.rx_class.proofs.Common.{true≢false}
use Rattle.rx_class.proofs.PropertyReading.Tables.{name_is_short}
use Rattle.rx_class.proofs.PropertyReading.Halts.{pair_spelled, pair_unclosed, pair_unknown, valid_texts}
use Rattle.rx_class.proofs.properties.found.texts_found.Goals as goal

pub returns-then-not-is_valid_unicode_property-clause-found : goal.returns-then-not-is_valid_unicode_property-clause-found
returns-then-not-is_valid_unicode_property-clause-found c = λ mode w following unicode p ends.
    pair_unknown mode unicode c.args.negative w c.args.name c.args.value following p c.args.name_count c.args.value_count c.requires.name c.requires.value
    (λ valid. true≢false (sym (c.is_valid_unicode_property.ensures.1 (valid_texts _ _ _ _ (sym c.as_str.ensures) (sym c.as_str-2.ensures) valid)) ∙ c.if-not-is_valid_unicode_property.true))

pub returns-then-not-ends-clause-found : goal.returns-then-not-ends-clause-found
returns-then-not-ends-clause-found c = λ mode w following unicode p ends.
    let valid = valid_texts _ _ _ _ c.as_str.ensures c.as_str-2.ensures (c.is_valid_unicode_property.ensures.0 c.if-not-is_valid_unicode_property.false) in
    rw c.unterminated.ensures (pair_unclosed mode unicode c.args.negative w c.args.name c.args.value following p c.args.name_count c.args.value_count c.requires.name c.requires.value valid (sym ends ∙ c.if-not-ends.true))

pub returns-clause-found : goal.returns-clause-found
returns-clause-found c = λ mode w following unicode p ends.
    let valid = valid_texts _ _ _ _ c.as_str.ensures c.as_str-2.ensures (c.is_valid_unicode_property.ensures.0 c.if-not-is_valid_unicode_property.false) in
    pair_spelled mode unicode c.args.negative w c.args.name c.args.value following p c.args.name_count c.args.value_count c.requires.name c.requires.value valid (sym ends ∙ c.if-not-ends.false)

pub returns-clause-closed : goal.returns-clause-closed
returns-clause-closed c = λ following ends. (refl, sym ends ∙ c.if-not-ends.false)

pub overflow_add-name_count-then-not-ends : goal.overflow_add-name_count-then-not-ends
overflow_add-name_count-then-not-ends c = omega (arith, name_is_short c.args.name c.args.value (valid_texts _ _ _ _ c.as_str.ensures c.as_str-2.ensures (c.is_valid_unicode_property.ensures.0 c.if-not-is_valid_unicode_property.false)), c.requires.name, c.requires.small.1)

pub overflow_add-result-3 : goal.overflow_add-result-3
overflow_add-result-3 c = omega (arith, name_is_short c.args.name c.args.value (valid_texts _ _ _ _ c.as_str.ensures c.as_str-2.ensures (c.is_valid_unicode_property.ensures.0 c.if-not-is_valid_unicode_property.false)), c.requires.name, c.requires.small.1)
