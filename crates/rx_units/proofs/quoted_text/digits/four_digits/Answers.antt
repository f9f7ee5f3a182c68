use Rattle.std.proofs.Common.{sym}
use Rattle.rx_units.proofs.Quoted.Steps.{four_front, short_four}
use Rattle.rx_units.proofs.quoted_text.digits.four_digits.Goals as goal

pub returns-in-len4-up : goal.returns-in-len4-up
returns-in-len4-up c =
    four_front c.args.chars.now c.a-item.result c.b-item.result c.c-item.result c.d-item.result c.in-len4-up.len_at_least c.a-item.is c.b-item.is c.c-item.is c.d-item.is _ c.number_of_four.ensures

pub returns-in_default : goal.returns-in_default
returns-in_default c = sym (short_four c.args.chars.now c.in_default.len_below)
