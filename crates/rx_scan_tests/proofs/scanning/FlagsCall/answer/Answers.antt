use Rattle.std.proofs.Common.{sym, subst, ◌+◌, ◌<◌, ◌^◌, All, arith}
use Rattle.rx_units.specs.Cursor.{Cursor}
use Rattle.rx_scan_tests.proofs.scanning.FlagsCall.answer.Goals as goal

pub parse-modes-requires-clause-fits : goal.parse-modes-requires-clause-fits
parse-modes-requires-clause-fits c =
    let within = c.in_ok-reader.ensures.within in
    let fits : All (λ u. u.span.end + c.new.result.spans < 2 ^ 32) c.in_ok-reader.reader.units = λ k d k<. omega (arith, within k d k<, c.new.ensures.offset) in
    subst (λ (r : Cursor). All (λ u. u.span.end + c.new.result.spans < 2 ^ 32) r.units) (sym c.new.ensures.reader) fits
