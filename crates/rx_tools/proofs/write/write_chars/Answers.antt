use Rattle.std.proofs.Common.{◌∙◌, ap}
use Rattle.std.proofs.lemmas.List.{drop_all}
use Rattle.rx_base.proofs.Writing.{left_then, left_stop, left_none}
use Rattle.rx_tools.specs.Utf8.{utf8}
use Rattle.rx_tools.proofs.Pieces.{utf8-nil, characters_next, failed_from}
use Rattle.rx_tools.proofs.write.write_chars.Goals as goal

pub returns-in_err-write_char : goal.returns-in_err-write_char
returns-in_err-write_char g c =
    let next = characters_next c.args.characters.now c.loop-c.c-index c.c-item.result c.loop-c-test.true c.c-item.is in
    left_stop _ c.loop-c.invariant next c.in_err-write_char.ensures (failed_from _ _ c.from_residual.ensures.1)

pub loop-c-preserved : goal.loop-c-preserved
loop-c-preserved g c =
    let next = characters_next c.args.characters.now c.loop-c.c-index c.c-item.result c.loop-c-test.true c.c-item.is in
    left_then _ c.loop-c.invariant next c.in_ok-write_char.ensures

pub returns : goal.returns
returns g c = left_none _ c.loop-c.invariant (ap utf8 (drop_all c.loop-c.c-index c.args.characters.now c.loop-c-test.false) ∙ utf8-nil)
