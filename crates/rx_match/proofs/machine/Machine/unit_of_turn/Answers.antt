use Rattle.std.proofs.Common.{◌<◌, arith}
use Rattle.std.proofs.lemmas.Option.{IfSome_then}
use Rattle.rx_match.proofs.machine.Machine.unit_of_turn.Goals as goal

pub returns : goal.returns
returns c =
    let some : 0 < c.args.self.now.budget = omega arith in
    IfSome_then c.unit_test.result c.unit_test.ensures (λ t unit. record { unit = unit; payable = some })
