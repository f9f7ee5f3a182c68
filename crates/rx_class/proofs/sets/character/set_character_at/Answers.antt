use Rattle.std.proofs.Common.{◌∷◌, ap, ◌∙◌}
use Rattle.rx_class.proofs.Common.{seen_if_some, values}
use Rattle.rx_class.proofs.SetReading.Paces.{backslash_looks}
use Rattle.rx_class.proofs.sets.character.set_character_at.Goals as goal

pub returns-then-first-clause-steps : goal.returns-then-first-clause-steps
returns-then-first-clause-steps g c =
    let is = c.in-Some.ensures in
    rw (backslash_looks _ c.args.units.now (seen_if_some c.after_backslash.result) (is.values ∙ ap (λ u. u ∷ values c.in-Some.following) c.if-first.true) is.counted) c.after_backslash.ensures.steps
