use Rattle.std.proofs.Common.{sym, subst, ◌+◌, ◌<◌, ◌^◌, All, arith}
use Rattle.rx_units.specs.Cursor.{Cursor}
use Rattle.rx_parser_tests.proofs.reads.UnitsCall.answer.Goals as goal

pub parse-read-requires-clause-fits : goal.parse-read-requires-clause-fits
parse-read-requires-clause-fits c =
    let within = c.in_ok-reader.ensures.within in
    let added = c.new-parser.result.spans in
    let fits : All (λ u. u.span.end + added < 2 ^ 32) c.in_ok-reader.reader.units = λ k d k<. omega (arith, within k d k<, c.new-parser.ensures.offset) in
    subst (λ (r : Cursor). All (λ u. u.span.end + added < 2 ^ 32) r.units) (sym c.new-parser.ensures.reader) fits
