use Rattle.std.proofs.Common.{refl, sym}
use Rattle.std.proofs.lemmas.Option.{IfSome_then}
use Rattle.rx_parser.proofs.FirstUnits.{stands}
use Rattle.rx_parser.proofs.turn.Parse.common_leaf.Goals as goal

pub returns-clause-found : goal.returns-clause-found
returns-clause-found g c =
    let units = c.ahead.ensures in
    IfSome_then c.common_leaf_at.result c.common_leaf_at.ensures (λ it common. stands c.args.self.now units.units units.code_points 92 c.requires.stands refl (common.read _ (sym c.is_unicode.ensures)))

pub returns-clause-long : goal.returns-clause-long
returns-clause-long g c = IfSome_then c.common_leaf_at.result c.common_leaf_at.ensures (λ it common. common.long)

pub returns-clause-within : goal.returns-clause-within
returns-clause-within g c = IfSome_then c.common_leaf_at.result (returns-clause-found g c) (λ it stands. stands.1)
