use Rattle.rx_base.proofs.Writing.{written_none}
use Rattle.rx_model.specs.Spelling.ClassText.{characters_text}
use Rattle.std.proofs.lemmas.List.{nil_from_length}
use Rattle.rx_tools.proofs.Pieces.{utf8-nil, text_then, text_stop, failed_from}
use Rattle.rx_tools.proofs.class.write_strings.Goals as goal

pub returns-in-None : goal.returns-in-None
returns-in-None g c = rw (nil_from_length c.args.strings.now c.in-None.ensures.cases, utf8-nil) (written_none _ _ _ _ _)

pub returns-in_err-write_characters-in-Some : goal.returns-in_err-write_characters-in-Some
returns-in_err-write_characters-in-Some g c =
    rw c.in-Some.ensures.cases.0 (text_stop (characters_text c.args.mode c.in-Some.first.now.body) _ (rw c.as_slice.ensures at c.in_err-write_characters-in-Some.ensures) (failed_from _ _ c.from_residual.ensures.1))

pub returns-in_ok-write_characters-in-Some : goal.returns-in_ok-write_characters-in-Some
returns-in_ok-write_characters-in-Some g c =
    rw c.in-Some.ensures.cases.0 (text_then (characters_text c.args.mode c.in-Some.first.now.body) _ (rw c.as_slice.ensures at c.in_ok-write_characters-in-Some.ensures) c.write_barred_strings.ensures)
