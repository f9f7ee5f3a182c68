use Rattle.std.proofs.Common.{◌≡◌, ap, sym, ◌∙◌, arith, false, ◌==◌}
use Rattle.std.specs.Str.{encode_utf8_all}
use Rattle.std.proofs.lemmas.Bool.Decides.{nat_tests}
use Rattle.rx_ast.specs.Texts.{counts_text}
use Rattle.rx_ast.proofs.OwnBytes.{bytes_at_least}
use Rattle.rx_ast.proofs.FormatterWrites.{other_bytes}
use Rattle.rx_ast.proofs.display.parts.write_counts.Goals as goal

pub returns-in-None-3 : goal.returns-in-None-3
returns-in-None-3 g c =
    let some : (c.args.min == 0) ≡ false = grind (arith, nat_tests, c.if-min-eq0.false) in
    let more : (c.args.min == 1) ≡ false = grind (arith, nat_tests, c.if-min-eq1.false) in
    let text = ap (λ m. encode_utf8_all (counts_text c.args.min m)) c.in-None.is in
    other_bytes _ (sym (text ∙ bytes_at_least c.args.min c.ranges.min.fits some more)) c.write.ensures.writes
