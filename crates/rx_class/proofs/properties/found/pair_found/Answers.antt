use Rattle.std.proofs.Common.{subst, sym, ◌∙◌}
use Rattle.rx_class.proofs.Common.{HasPair, values, values_length}
use Rattle.rx_class.proofs.properties.found.pair_found.Goals as goal

pub texts_found-requires-clause-name : goal.texts_found-requires-clause-name
texts_found-requires-clause-name g c = rw c.in_ok-name_text.ensures.text (c.len.ensures.value ∙ sym (values_length c.args.pair.name))

pub texts_found-requires-clause-value : goal.texts_found-requires-clause-value
texts_found-requires-clause-value g c = rw c.in_ok-value_text.ensures.text (c.len-2.ensures.value ∙ sym (values_length c.args.pair.value))

pub returns-clause-found : goal.returns-clause-found
returns-clause-found g c = λ mode w unicode p.
    c.texts_found.ensures.found mode w (values c.args.pair.following) unicode
    (subst (λ name. HasPair w name c.in_ok-value_text.value_text (values c.args.pair.following)) (sym c.in_ok-name_text.ensures.text)
    (subst (λ value. HasPair w (values c.args.pair.name) value (values c.args.pair.following)) (sym c.in_ok-value_text.ensures.text) p))
    c.is_closed.ensures

pub returns-clause-closed : goal.returns-clause-closed
returns-clause-closed g c = rw (← c.len.ensures.value, ← c.len-2.ensures.value) (c.texts_found.ensures.closed (values c.args.pair.following) c.is_closed.ensures)
