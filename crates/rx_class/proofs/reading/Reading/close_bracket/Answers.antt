use Rattle.rx_class.proofs.Common.{GivesTurn, adds}
use Rattle.rx_class.specs.SetReading.Progress.{no_memory}
use Rattle.rx_class.proofs.Keeping.{handed}
use Rattle.rx_class.proofs.reading.Reading.close_bracket.Goals as goal

pub returns-in_err-close_nested-clause-gives : goal.returns-in_err-close_nested-clause-gives
returns-in_err-close_nested-clause-gives g c = λ e of.
    handed (GivesTurn _ _ _ _ _ _) c.from_residual-in_err-close_nested.ensures.1 (no_memory (rw c.in_ok-refuse_negative_strings.ensures.gives.0 at c.in_err-close_nested.ensures.refused))

pub returns-clause-gives : goal.returns-clause-gives
returns-clause-gives g c = λ e of.
    let still = c.in_ok-refuse_negative_strings.ensures.gives.0 in
    adds (rw (still, c.refuse_negative_strings.ensures.on.spans) at (c.in_ok-close_nested.ensures.added e (rw still of)))
