use Rattle.std.proofs.Common.{refl, ap, ◌∙◌, codes}
use Rattle.rx_base.proofs.Writing.{left_then, left_stop, left_none}
use Rattle.rx_model.specs.Spelling.ClassText.{characters_text}
use Rattle.rx_tools.specs.Utf8.{utf8}
use Rattle.rx_tools.proofs.Classes.{strings_next, strings_none}
use Rattle.rx_tools.proofs.Pieces.{utf8-nil, text_next, failed_from}
use Rattle.rx_tools.proofs.class.write_barred_strings.Goals as goal

pub returns-in_err-write_char : goal.returns-in_err-write_char
returns-in_err-write_char g c =
    let next = strings_next c.args.mode c.args.strings.now c.loop-string.string-index c.string-item.result c.loop-string-test.true c.string-item.is in
    left_stop _ c.loop-string.invariant (text_next _ (codes "|") _ next) c.in_err-write_char.ensures (failed_from _ _ c.from_residual.ensures.1)

pub returns-in_err-write_characters : goal.returns-in_err-write_characters
returns-in_err-write_characters g c =
    let next = strings_next c.args.mode c.args.strings.now c.loop-string.string-index c.string-item.result c.loop-string-test.true c.string-item.is in
    let past = left_then _ c.loop-string.invariant (text_next _ (codes "|") _ next) c.in_ok-write_char.ensures in
    let written = rw c.as_slice.ensures at c.in_err-write_characters.ensures in
    left_stop _ past (text_next _ (characters_text c.args.mode c.string-item.result.body) _ refl) written (failed_from _ _ c.from_residual-in_err-write_characters.ensures.1)

pub loop-string-preserved : goal.loop-string-preserved
loop-string-preserved g c =
    let next = strings_next c.args.mode c.args.strings.now c.loop-string.string-index c.string-item.result c.loop-string-test.true c.string-item.is in
    let past = left_then _ c.loop-string.invariant (text_next _ (codes "|") _ next) c.in_ok-write_char.ensures in
    let written = rw c.as_slice.ensures at c.in_ok-write_characters.ensures in
    left_then _ past (text_next _ (characters_text c.args.mode c.string-item.result.body) _ refl) written

pub returns : goal.returns
returns g c = left_none _ c.loop-string.invariant (ap utf8 (strings_none c.args.mode c.args.strings.now c.loop-string.string-index c.loop-string-test.false) ∙ utf8-nil)
