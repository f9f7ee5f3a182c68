use Rattle.std.proofs.Common.{ap, ◌∙◌}
use Rattle.rx_base.proofs.Writing.{left_then, left_stop, left_none}
use Rattle.rx_tools.specs.Utf8.{utf8}
use Rattle.rx_tools.proofs.Classes.{characters_next, characters_none}
use Rattle.rx_tools.proofs.Pieces.{utf8-nil, text_next, failed_from}
use Rattle.rx_tools.proofs.class.write_characters.Goals as goal

pub returns-in_err-write_character : goal.returns-in_err-write_character
returns-in_err-write_character g c =
    left_stop _ c.loop-c.invariant (text_next _ _ _ (characters_next c.args.mode c.args.characters.now c.loop-c.c-index _ c.loop-c-test.true)) c.in_err-write_character.ensures (failed_from _ _ c.from_residual.ensures.1)

pub loop-c-preserved : goal.loop-c-preserved
loop-c-preserved g c =
    left_then _ c.loop-c.invariant (text_next _ _ _ (characters_next c.args.mode c.args.characters.now c.loop-c.c-index _ c.loop-c-test.true)) c.in_ok-write_character.ensures

pub returns : goal.returns
returns g c = left_none _ c.loop-c.invariant (ap utf8 (characters_none c.args.mode c.args.characters.now c.loop-c.c-index c.loop-c-test.false) ∙ utf8-nil)
