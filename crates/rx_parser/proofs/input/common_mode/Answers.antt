use Rattle.std.proofs.Common.{refl}
use Rattle.rx_parser.proofs.CommonFlags.{own_characters}
use Rattle.rx_parser.proofs.input.common_mode.Goals as goal

pub returns-in-empty : goal.returns-in-empty
returns-in-empty c = rw c.in-Literal.is (own_characters c.args.flags.now _ c.in-empty.is refl)

pub returns-in-u : goal.returns-in-u
returns-in-u c = rw c.in-Literal.is (own_characters c.args.flags.now _ c.in-u.is refl)

pub returns-in-v : goal.returns-in-v
returns-in-v c = rw c.in-Literal.is (own_characters c.args.flags.now _ c.in-v.is refl)

pub returns-in-text : goal.returns-in-text
returns-in-text c = rw c.in-Constructor.is (own_characters c.args.flags.now _ c.in-text.is refl)

pub returns-in-text-2 : goal.returns-in-text-2
returns-in-text-2 c = rw c.in-Constructor.is (own_characters c.args.flags.now _ c.in-text-2.is refl)

pub returns-in-text-3 : goal.returns-in-text-3
returns-in-text-3 c = rw c.in-Constructor.is (own_characters c.args.flags.now _ c.in-text-3.is refl)
