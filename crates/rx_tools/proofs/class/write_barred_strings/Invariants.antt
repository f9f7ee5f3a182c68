use Rattle.std.proofs.Common.{drop}
use Rattle.rx_base.proofs.Writing.{Left}
use Rattle.rx_model.specs.Spelling.ClassText.{barred_strings_text}
use Rattle.rx_tools.specs.Utf8.{utf8}
use Rattle.rx_tools.proofs.class.write_barred_strings.Given as goal

abbrev pub invariant-loop-string : goal.invariant-loop-string
invariant-loop-string g l =
    Left g.W.TextSink.taken g.W.TextSink.fixed g.W.TextSink.faults l.fn.sink l.sink (utf8 (barred_strings_text l.mode l.strings)) (utf8 (barred_strings_text l.mode (drop l.string-index l.strings)))
