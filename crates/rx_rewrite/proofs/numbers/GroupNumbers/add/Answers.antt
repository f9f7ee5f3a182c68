use Rattle.std.proofs.Common.{refl}
use Rattle.rx_rewrite.proofs.GroupNumbers.{numbers_named, numbers_unnamed}
use Rattle.rx_rewrite.proofs.numbers.GroupNumbers.add.Goals as goal

pub returns-in-None : goal.returns-in-None
returns-in-None c = numbers_unnamed {A = Unit {0}} c.args.self.now _ _ _ tt c.in-None.is refl

pub returns-in-Some : goal.returns-in-Some
returns-in-Some c = numbers_named c.args.self.now c.add_named.new.self _ _ c.in-Some.name c.add_named.result c.in-Some.is c.add_named.ensures
