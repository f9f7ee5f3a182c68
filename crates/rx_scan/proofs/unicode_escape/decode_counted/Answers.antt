use Rattle.std.proofs.Common.{arith}
use Rattle.std.proofs.lemmas.Grind.{common_steps}
use Rattle.rx_scan.proofs.EscapeAnswers.{is_decoded}
use Rattle.rx_scan.proofs.unicode_escape.decode_counted.Goals as goal

pub returns-in-Some-clause-decoded : goal.returns-in-Some-clause-decoded
returns-in-Some-clause-decoded g c = is_decoded c.args.unicode_mode c.args.units.now c.after_u.result (grind (arith, common_steps))
