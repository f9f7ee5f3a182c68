use Rattle.std.proofs.Common.{sym, ◌∙◌}
use Rattle.rx_tools.proofs.Plain.{surrogate_row}
use Rattle.rx_tools.proofs.character.write_character.Goals as goal

pub returns-then-is_plain : goal.returns-then-is_plain
returns-then-is_plain g c = rw (c.is_plain.ensures.text c.if-is_plain.true) (rw c.character.ensures at c.write_char.ensures)

pub returns-then-is_escaped_sign : goal.returns-then-is_escaped_sign
returns-then-is_escaped_sign g c = rw (c.is_escaped_sign.ensures.text c.if-is_escaped_sign.true) c.write_escaped.ensures

pub returns-then-is_far_plain : goal.returns-then-is_far_plain
returns-then-is_far_plain g c = rw (c.is_far_plain.ensures.text c.if-is_far_plain.true _) (rw c.character-then-is_far_plain.ensures at c.write_char-then-is_far_plain.ensures)

pub returns-then-is_surrogate : goal.returns-then-is_surrogate
returns-then-is_surrogate g c = rw (surrogate_row c.args.mode _ c.args.c (sym c.is_surrogate.ensures ∙ c.if-is_surrogate.true)) c.write_surrogate.ensures
