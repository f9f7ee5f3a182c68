use Rattle.std.proofs.Common.{◌≡◌, sym, ap, arith}
use Rattle.std.specs.Str.{chars}
use Rattle.rx_run.specs.Generator.{piece}
use Rattle.rx_run.proofs.generator.piece.Goals as goal

pub returns-in-0 : goal.returns-in-0
unfolding chars
returns-in-0 c = sym (ap piece c.in-0.is)

pub returns-in-1 : goal.returns-in-1
unfolding chars
returns-in-1 c = sym (ap piece c.in-1.is)

pub returns-in-2 : goal.returns-in-2
unfolding chars
returns-in-2 c = sym (ap piece c.in-2.is)

pub returns-in-3 : goal.returns-in-3
unfolding chars
returns-in-3 c = sym (ap piece c.in-3.is)

pub returns-in-4 : goal.returns-in-4
unfolding chars
returns-in-4 c = sym (ap piece c.in-4.is)

pub returns-in-5 : goal.returns-in-5
unfolding chars
returns-in-5 c = sym (ap piece c.in-5.is)

pub returns-in-6 : goal.returns-in-6
unfolding chars
returns-in-6 c = sym (ap piece c.in-6.is)

pub returns-in_default : goal.returns-in_default
unfolding chars
returns-in_default c = let last : c.args.number ≡ 7 = omega arith in sym (ap piece last)
