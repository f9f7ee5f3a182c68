use Rattle.std.proofs.Common.{rules, tests, ◌==◌, ◌∙◌}
use Rattle.std.proofs.lemmas.Iterator.{YieldsList-from_slice}
use Rattle.std.proofs.lemmas.Iterator.Search.{any_from_yields_List}
use Rattle.rx_scan.proofs.FlagRows.{holds_values}
use Rattle.rx_scan.proofs.flags_parser.holds.Goals as goal

pub returns : goal.returns
returns c =
    any_from_yields_List (λ unit. unit.value == c.args.value) _ _ _ c.any.ensures.ran (YieldsList-from_slice c.args.units.now cc) (λ x b q k. search (rules, tests))
    ∙ holds_values c.args.units.now c.args.value
