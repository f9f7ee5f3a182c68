use Rattle.std.proofs.Common.{ap, sym, ◌∙◌, length}
use Rattle.rx_match.proofs.Entries.{kept-none, kept-last}
use Rattle.rx_match.proofs.cut.kept_frames.Goals as goal

pub returns-in-None : goal.returns-in-None
returns-in-None c = sym (kept-none c.args.entries.now (ap length (sym c.as_slice.ensures) ∙ c.in-None.ensures.cases))

pub returns-in-Some : goal.returns-in-Some
returns-in-Some c = c.frames_of.ensures ∙ sym (kept-last c.in-Some.last.now c.args.entries.now c.in-Some.field-0-1.now (sym c.as_slice.ensures ∙ c.in-Some.ensures.cases.0))
