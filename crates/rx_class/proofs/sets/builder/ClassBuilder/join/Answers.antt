use Rattle.rx_class.proofs.SetReading.BuilderGrowth.{inner_events, inner_well}
use Rattle.rx_class.proofs.SetReading.OpenBrackets.{operator_events, operator_well}
use Rattle.rx_class.proofs.sets.builder.ClassBuilder.join.Goals as goal

pub returns-clause-events : goal.returns-clause-events
returns-clause-events c =
    inner_events c.args.self.now _ _ (operator_events c.args.operator c.args.self.now.inner c.args.held c.requires.held c.requires.well.inner)

pub returns-clause-well : goal.returns-clause-well
returns-clause-well c =
    inner_well c.args.self.now _ c.requires.well (operator_well c.args.operator c.args.self.now.inner c.args.held c.requires.held c.requires.well.inner)
