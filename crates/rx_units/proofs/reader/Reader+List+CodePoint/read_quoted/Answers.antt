use Rattle.std.proofs.lemmas.Result.{err_from_is_err_and}
use Rattle.rx_units.proofs.DecodedUnits.{decoded_code_points, decoded_ends, decoded_start}
use Rattle.rx_units.proofs.Ends.{ends_within}
use Rattle.rx_units.proofs.Quoted.Widths.{text_characters}
use Rattle.rx_units.proofs.reader.Reader+List+CodePoint.read_quoted.Goals as goal

pub returns-in_err-units-clause-decodes : goal.returns-in_err-units-clause-decodes
returns-in_err-units-clause-decodes c = λ units d.
    let p = err_from_is_err_and c.from_residual.result c.from_residual.ensures.1 in
    rw (p.1, p.2) (c.in_err-units.ensures.decodes units d)

pub at_start-requires-clause-start : goal.at_start-requires-clause-start
at_start-requires-clause-start c = decoded_start c.args.source_text.now c.args.standard c.args.unicode_mode c.in_ok-units.units c.utf8.source_text c.in_ok-units.ensures.ok

pub at_start-requires-clause-ends : goal.at_start-requires-clause-ends
at_start-requires-clause-ends c = decoded_ends c.args.source_text.now c.args.standard c.args.unicode_mode c.in_ok-units.units c.utf8.source_text c.in_ok-units.ensures.ok

pub at_start-requires-clause-code_points : goal.at_start-requires-clause-code_points
at_start-requires-clause-code_points c = decoded_code_points (text_characters c.args.source_text.now c.utf8.source_text) c.in_ok-units.ensures.ok

pub returns-clause-within : goal.returns-clause-within
returns-clause-within c =
    rw c.at_start.ensures (ends_within c.args.source_text.now 1 c.in_ok-units.units (decoded_ends c.args.source_text.now c.args.standard c.args.unicode_mode c.in_ok-units.units c.utf8.source_text c.in_ok-units.ensures.ok))
