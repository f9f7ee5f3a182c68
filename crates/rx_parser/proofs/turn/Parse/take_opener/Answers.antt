use Rattle.std.proofs.Common.{refl, rules}
use Rattle.rx_parser.specs.declared.found.OpenerFound.TheVariants.{Capturing, Ignoring}
use Rattle.rx_parser.proofs.FirstUnits.{capturing_stands, ignoring_stands}
use Rattle.rx_parser.proofs.turn.Parse.take_opener.Goals as goal

pub take_common_group-requires-clause-found : goal.take_common_group-requires-clause-found
take_common_group-requires-clause-found g c =
    let units = c.ahead-units.ensures in
    (Capturing, capturing_stands c.args.self.now units.units units.code_points c.requires.stands (search rules), refl)

pub take_common_group-requires-2-clause-found : goal.take_common_group-requires-2-clause-found
take_common_group-requires-2-clause-found g c =
    let units = c.ahead-units.ensures in
    (Ignoring, ignoring_stands c.args.self.now units.units units.code_points c.requires.stands (search rules) (search rules), refl)
