use Rattle.rx_paint.specs.Paints.{part_token, root_token}
use Rattle.rx_ast.specs.Parts.{in_pattern}
use Rattle.rx_paint.proofs.Deepest.{owner_is}
use Rattle.rx_paint.proofs.laws.owner_is_deepest.Goals as goal

pub returns : goal.returns
returns c p offset low high = owner_is (root_token p) (in_pattern part_token p) offset low high
