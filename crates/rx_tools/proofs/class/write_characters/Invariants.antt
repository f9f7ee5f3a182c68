use Rattle.std.proofs.Common.{drop}
use Rattle.rx_base.proofs.Writing.{Left}
use Rattle.rx_model.specs.Spelling.ClassText.{characters_text}
use Rattle.rx_tools.specs.Utf8.{utf8}
use Rattle.rx_tools.proofs.class.write_characters.Given as goal

abbrev pub invariant-loop-c : goal.invariant-loop-c
invariant-loop-c g l =
    Left g.W.TextSink.taken g.W.TextSink.fixed g.W.TextSink.faults l.fn.sink l.sink (utf8 (characters_text l.mode l.characters)) (utf8 (characters_text l.mode (drop l.c-index l.characters)))
