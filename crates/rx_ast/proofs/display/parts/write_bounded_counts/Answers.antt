use Rattle.std.proofs.Common.{◌≡◌, sym, arith, false, ◌==◌, ◌&&◌}
use Rattle.std.proofs.lemmas.Bool.Decides.{nat_tests}
use Rattle.rx_ast.proofs.OwnBytes.{bytes_exactly, bytes_between}
use Rattle.rx_ast.proofs.FormatterWrites.{other_bytes}
use Rattle.rx_ast.proofs.display.parts.write_bounded_counts.Goals as goal
use Rattle.rx_ast.proofs.display.parts.write_bounded_counts.Goals.{else-min-eq0-via-then-min-eq0+else-max-eq1, else-min-eq0-via-else-min-eq0}

pub returns-then-min-max : goal.returns-then-min-max
returns-then-min-max g c = other_bytes _ (sym (bytes_exactly c.args.min c.args.max c.ranges.min.fits c.if-min-max.true)) c.write.ensures.writes

pub returns-else-min-max : goal.returns-else-min-max
returns-else-min-max g c =
    let no_sign : (c.args.min == 0 && c.args.max == 1) ≡ false = elim c.else-min-eq0.branch [
      | else-min-eq0-via-then-min-eq0+else-max-eq1 w ↦ grind (arith, nat_tests, w.if-max-eq1.false)
      | else-min-eq0-via-else-min-eq0 w ↦ grind (arith, nat_tests, w.if-min-eq0.false)
    ] in
    let other : (c.args.min == c.args.max) ≡ false = grind (arith, nat_tests, c.if-min-max.false) in
    other_bytes _ (sym (bytes_between c.args.min c.args.max c.ranges.min.fits c.ranges.max.fits no_sign other)) c.write-else-min-max.ensures.writes
