use Rattle.std.proofs.Common.{refl, sym, ap, ◌∙◌}
use Rattle.rx_class.proofs.Common.{values, starts}
use Rattle.rx_class.specs.ClassReading.Answers.{none}
use Rattle.rx_class.proofs.reading.Reading.character_class.Goals as goal

pub returns-then-not-begins_with-clause-gives : goal.returns-then-not-begins_with-clause-gives
returns-then-not-begins_with-clause-gives g c = none refl (ap (λ us. starts 91 (values us)) (sym c.units.ensures.units) ∙ sym c.begins_with.ensures ∙ c.if-not-begins_with.true)
