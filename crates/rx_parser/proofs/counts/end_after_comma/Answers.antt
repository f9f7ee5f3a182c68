use Rattle.std.proofs.Common.{◌∙◌, ap, sym}
use Rattle.rx_model.specs.Reading.Fronts.{counts_after_comma}
use Rattle.rx_parser.proofs.Common.{are_counts}
use Rattle.rx_parser.proofs.NumberFound.{counts_closed}
use Rattle.rx_parser.proofs.counts.end_after_comma.Goals as goal

pub returns-clause-counts : goal.returns-clause-counts
returns-clause-counts g c = λ number count.
    let read = c.number_at-more.ensures.number in
    c.stands_at.ensures.there ∙ sym (counts_closed number count read.0 c.number_at-more.result.1 c.args.units.now) ∙ ap (λ it. are_counts (counts_after_comma number count it)) (sym read.2)
