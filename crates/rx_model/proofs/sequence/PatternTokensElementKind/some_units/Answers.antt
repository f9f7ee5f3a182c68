use Rattle.std.proofs.Common.{arith, []}
use Rattle.rx_model.proofs.Reading.Fronts.{spelled_some}
use Rattle.rx_model.proofs.sequence.PatternTokensElementKind.some_units.Goals as goal

pub returns : goal.returns
returns c e q t rest s = omega (arith, spelled_some e t [] rest s)
