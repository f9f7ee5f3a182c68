use Rattle.std.proofs.Common.{refl, arith}
use Rattle.rx_class.proofs.Common.{values}
use Rattle.rx_class.proofs.EscapeReading.Steps.{long_value}
use Rattle.rx_class.proofs.escapes.found.unicode.Goals as goal

pub returns-in-Value-clause-few : goal.returns-in-Value-clause-few
returns-in-Value-clause-few g c =
    let long = long_value c.args.unicode_mode (values c.args.units.now) c.in-Value.code_point c.in-Value.length ((c.in-Value.ensures.decoded.value c.in-Value.code_point c.in-Value.length).0 refl) in
    rw c.character.ensures (omega (arith, c.in-Value.ensures.steps.0), omega (arith, long, c.in-Value.ensures.steps.1))
