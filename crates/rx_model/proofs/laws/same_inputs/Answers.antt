use Rattle.std.proofs.Common.{subst}
use Rattle.rx_model.specs.Reading.Reading.{Reads}
use Rattle.rx_model.proofs.Reading.SameValues.{same_values}
use Rattle.rx_model.proofs.laws.same_inputs.Goals as goal

pub returns : goal.returns
returns c a b mode p q read read_too same h =
    same_values mode b.rules p q read.units read_too.units (subst (λ rules. Reads mode rules p read.units) same read.reads) read_too.reads h
