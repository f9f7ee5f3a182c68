use Rattle.std.proofs.Common.{drop, length}
use Rattle.rx_command.specs.Features.{feature_name, has_feature}
use Rattle.rx_command.proofs.NameLists.{IsReadTo, pieces}
use Rattle.rx_command.proofs.features.Features.parse.Given as goal

abbrev pub invariant-loop-name : goal.invariant-loop-name
invariant-loop-name l = IsReadTo feature_name has_feature l.word l.features (drop (length l.yielded) (pieces l.word))
