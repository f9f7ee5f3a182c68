use Rattle.std.proofs.Common.{arith}
use Rattle.rx_units.proofs.Quoted.Widths.{byte_split}
use Rattle.rx_units.proofs.quoted_text.reading.width.Goals as goal

pub byte_count-requires : goal.byte_count-requires
byte_count-requires c = omega (arith, byte_split c.args.count c.args.chars.now, c.requires.bytes)
