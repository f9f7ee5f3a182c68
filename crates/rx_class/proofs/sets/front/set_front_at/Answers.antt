use Rattle.std.proofs.Common.{◌∷◌, sym, ap, ◌∙◌}
use Rattle.rx_class.proofs.Common.{seen_front, seen_if_some, most_front_looks, values}
use Rattle.rx_class.proofs.SetReading.Fronts.{next_is}
use Rattle.rx_class.proofs.SetReading.Paces.{backslash_front_looks, front_looks}
use Rattle.rx_class.proofs.sets.front.set_front_at.Goals as goal

pub returns-in-Some-eq92-clause-front : goal.returns-in-Some-eq92-clause-front
returns-in-Some-eq92-clause-front g c =
    let backslash = sym c.in-Some-eq92.ensures.value.1 ∙ c.in-Some-eq92.field-0-test in
    c.escaped_front.ensures.front ∙ sym (next_is c.args.units.now 92 _ (c.in-Some.ensures.values ∙ ap (λ u. u ∷ values c.in-Some.following) backslash))

pub returns-in-Some-eq92-clause-steps : goal.returns-in-Some-eq92-clause-steps
returns-in-Some-eq92-clause-steps g c =
    let is = c.in-Some.ensures in
    let backslash = sym c.in-Some-eq92.ensures.value.1 ∙ c.in-Some-eq92.field-0-test in
    rw (backslash_front_looks _ c.args.units.now (seen_front c.escaped_front.result) (is.values ∙ ap (λ u. u ∷ values c.in-Some.following) backslash) is.counted) c.escaped_front.ensures.steps

pub returns-in_default-from_u32-clause-steps : goal.returns-in_default-from_u32-clause-steps
returns-in_default-from_u32-clause-steps g c =
    rw (ap (most_front_looks c.args.units.now) c.character_front.ensures ∙ front_looks c.args.units.now (seen_if_some c.set_character_at.result)) c.set_character_at.ensures.steps
