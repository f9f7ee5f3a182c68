use Rattle.std.proofs.Common.{arith}
use Rattle.std.proofs.lemmas.Grind.{text_groups}
use Rattle.rx_program.proofs.names.add_number.Goals as goal

pub returns : goal.returns
returns c = grind (arith, text_groups)
