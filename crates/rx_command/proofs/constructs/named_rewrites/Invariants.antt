use Rattle.std.proofs.Common.{drop, length}
use Rattle.rx_command.specs.Constructs.{construct_name, has_construct}
use Rattle.rx_command.proofs.NameLists.{IsReadTo, pieces}
use Rattle.rx_command.proofs.constructs.named_rewrites.Given as goal

abbrev pub invariant-loop-name : goal.invariant-loop-name
invariant-loop-name l = IsReadTo construct_name has_construct l.word l.what (drop (length l.yielded) (pieces l.word))
