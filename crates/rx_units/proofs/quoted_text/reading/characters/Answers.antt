use Rattle.std.proofs.Common.{sym, ◌∙◌}
use Rattle.rx_units.proofs.Common.{MatchBool-at_true, chars-IsAscii, IsAscii, IsNotAscii}
use Rattle.std.proofs.lemmas.Iterator.{items_from_collect, YieldsList-from_chars}
use Rattle.std.proofs.lemmas.Result.{IfOk-weaker}
use Rattle.rx_units.proofs.quoted_text.reading.characters.Goals as goal

pub returns-then-is_ascii : goal.returns-then-is_ascii
returns-then-is_ascii c =
    let text = c.args.text.now in
    let ascii = MatchBool-at_true (IsAscii text) (IsNotAscii text) c.if-is_ascii.true c.is_ascii.ensures.cases in
    IfOk-weaker c.ascii_characters.result _ _ (λ characters is. is ∙ c.as_bytes.ensures.value ∙ sym (chars-IsAscii text ascii)) c.ascii_characters.ensures

pub returns : goal.returns
returns c =
    items_from_collect c.collect.result c.collect.ensures.ran
    (YieldsList-from_chars c.args.text.now c.utf8.text c.chars.ensures.rest)
