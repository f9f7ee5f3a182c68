use Rattle.std.proofs.Common.{refl, arith}
use Rattle.rx_paint.specs.Paints.{part_token}
use Rattle.rx_ast.specs.Parts.{pattern_forest}
use Rattle.rx_paint.proofs.OneOwner.{one_owner}
use Rattle.rx_paint.proofs.Relabelled.{tokens_nested}
use Rattle.rx_paint.proofs.laws.equal_owners_are_one.Goals as goal

pub returns : goal.returns
returns c p first second path other depth deep t nested one two =
    one_owner (pattern_forest part_token p) p.0.start p.0.end first second path other depth deep t t (omega arith, tokens_nested p nested, omega arith) one two refl
