use Rattle.std.proofs.Common.{refl}
use Rattle.std.proofs.Output.{has_written_styled_append}
use Rattle.rx_base.proofs.diagnostic.reason.write_between.Goals as goal

pub returns-clause-styled : goal.returns-clause-styled
returns-clause-styled g c flush ok =
    let took = g.W.Write.write_str_gives in
    let first = c.in_ok-write_str.ensures.styled flush refl in
    let second = c.in_ok-write_str-2.ensures.styled first.flush refl in
    let third = c.write_str-3.ensures.styled second.flush ok in
    has_written_styled_append took _ _ _ _ _ first (has_written_styled_append took _ _ _ _ _ second third)
