use Rattle.std.proofs.Common.{refl, ap, ◌++◌, codes}
use Rattle.std.proofs.Output.{has_written_styled_append, has_written_styled_of_eq}
use Rattle.std.specs.Char.{encode_utf8}
use Rattle.rx_base.proofs.diagnostic.message.DiagnosticDisplay.fmt.Goals as goal

pub returns-clause-styled : goal.returns-clause-styled
unfolding encode_utf8
returns-clause-styled g c flush ok =
    let took = g.W.Write.write_str_gives in
    let first = c.in_ok-write_str.ensures.styled flush refl in
    let second = c.write.ensures.styled first.flush ok in
    has_written_styled_of_eq took _ _ _ _ (ap (λ xs. codes "Invalid regular expression: " ++ xs) c.reason.ensures) (has_written_styled_append took _ _ _ _ _ first second)
