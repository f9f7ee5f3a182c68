use Rattle.std.proofs.Common.{◌≡◌, ◌∙◌, ◌+◌, ap, arith, sym}
use Rattle.rx_model.specs.Quantifiers.CountsReading.{counts_read, read_after_comma}
use Rattle.rx_model.specs.Reading.Fronts.{greatest_of}
use Rattle.rx_parser.proofs.Common.{cond-false, cond-true, common_steps}
use Rattle.rx_parser.proofs.NumberFound.{read_closed}
use Rattle.rx_parser.proofs.counts.after_comma.Goals as goal

pub returns-then-not-stands_at-clause-read : goal.returns-then-not-stands_at-clause-read
returns-then-not-stands_at-clause-read g c =
    sym (read_closed c.args.min c.args.count c.in-Digits.value c.in-Digits.count c.args.units.now ∙ cond-false _ _ _ (sym c.if-not-stands_at.ensures.there))
    ∙ ap (read_after_comma c.args.min c.args.count) c.in-Digits.ensures.read

pub returns-clause-read : goal.returns-clause-read
returns-clause-read g c =
    let most : c.then_some.result ≡ greatest_of c.in-Digits.count c.in-Digits.value = grind (arith, common_steps) in
    ap (λ max. counts_read c.args.min max (c.args.count + c.in-Digits.count + 3)) most
    ∙ sym (read_closed c.args.min c.args.count c.in-Digits.value c.in-Digits.count c.args.units.now ∙ cond-true _ _ _ (sym c.if-not-stands_at.ensures.there))
    ∙ ap (read_after_comma c.args.min c.args.count) c.in-Digits.ensures.read
