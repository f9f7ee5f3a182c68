use Rattle.std.proofs.Common.{◌≡◌, ◌∙◌, ap, arith, drop, sym}
use Rattle.rx_units.specs.Stored.{values_of}
use Rattle.rx_parser.proofs.Common.{common_steps, drop-map, starts}
use Rattle.rx_parser.proofs.ahead.stands_at.Goals as goal

pub returns-clause-there : goal.returns-clause-there
returns-clause-there g c =
    let there : c.is_some_and.result ≡ starts c.args.ch (values_of g.U.Unit.value (drop c.args.place c.items.result.now)) = grind (arith, common_steps) in
    there ∙ ap (starts c.args.ch) (sym (drop-map g.U.Unit.value c.args.place c.items.result.now) ∙ ap (drop c.args.place) (sym c.items.ensures.values))
