use Rattle.rx_parser.proofs.FirstUnits.{sign_stands}
use Rattle.rx_parser.proofs.turn.Parse.take_quantifier.Goals as goal

pub quantify_last-requires-clause-found : goal.quantify_last-requires-clause-found
quantify_last-requires-clause-found g c =
    let units = c.ahead.ensures in
    sign_stands c.args.self.now units.units units.code_points c.requires.one c.requires.stands c.counts_of_sign.ensures c.stands_at-is_lazy.ensures.there
