use Rattle.std.proofs.Common.{ap, ◌∙◌, refl, ◌∷◌}
use Rattle.rx_units.specs.Units.{values}
use Rattle.rx_model.proofs.Reading.Fronts.{front_by_values, front_spelled}
use Rattle.rx_model.proofs.Refusals.LegacyStops.{backslash_read}
use Rattle.rx_model.proofs.laws.legacy_backslash.Goals as goal

pub returns : goal.returns
returns c e u v us m h k =
    let t = backslash_read e m v.value (values us) k in
    let f = front_spelled e (u ∷ v ∷ us) t.0.0 t.0.1 (front_by_values e (u ∷ v ∷ us) 92 (values (v ∷ us)) refl (ap (λ c. c ∷ values (v ∷ us)) h) ∙ t.1) in
    (t.0.0, f.w, f.rest, f.whole, f.spells)
