use Rattle.rx_class.proofs.SetReading.Steps.{operator_adds}
use Rattle.rx_class.proofs.reading.Reading.operator.Goals as goal

pub returns-clause-added : goal.returns-clause-added
returns-clause-added g c = λ e added of.
    let on = rw c.text-length.ensures at c.skip.ensures.reader in
    operator_adds added _ _ _ _ c.args.after c.join.ensures.held c.join.ensures.well c.args.operator c.requires.front c.requires.held c.join.ensures.events on e of
