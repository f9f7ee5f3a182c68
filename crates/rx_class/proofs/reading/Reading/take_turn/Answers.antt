use Rattle.rx_class.proofs.Common.{GivesTurn, adds}
use Rattle.rx_class.specs.SetReading.Progress.{no_memory}
use Rattle.rx_class.proofs.Keeping.{handed}
use Rattle.rx_class.proofs.reading.Reading.take_turn.Goals as goal

pub returns-in_err-take_common_turn-clause-gives : goal.returns-in_err-take_common_turn-clause-gives
returns-in_err-take_common_turn-clause-gives g c = handed (GivesTurn _ _ _ _ _ _) c.from_residual.ensures.1 (no_memory c.in_err-take_common_turn.ensures.refused)

pub returns-then-branch-clause-gives : goal.returns-then-branch-clause-gives
returns-then-branch-clause-gives g c = adds (c.in_ok-take_common_turn.ensures.turned c.if-branch.true)

pub read_turn-requires-clause-sets : goal.read_turn-requires-clause-sets
read_turn-requires-clause-sets g c = let kept = c.in_ok-take_common_turn.ensures.kept c.if-branch.false in rw kept.0 c.requires.sets

pub read_turn-requires-clause-well : goal.read_turn-requires-clause-well
read_turn-requires-clause-well g c = let kept = c.in_ok-take_common_turn.ensures.kept c.if-branch.false in rw kept.1 c.requires.well

pub read_turn-requires-clause-goes_on : goal.read_turn-requires-clause-goes_on
read_turn-requires-clause-goes_on g c = let kept = c.in_ok-take_common_turn.ensures.kept c.if-branch.false in rw (kept.0, kept.1) c.requires.goes_on

pub returns-clause-gives : goal.returns-clause-gives
returns-clause-gives g c = let kept = c.in_ok-take_common_turn.ensures.kept c.if-branch.false in rw (kept.0, kept.1) at c.read_turn.ensures.gives

pub returns-clause-steps : goal.returns-clause-steps
returns-clause-steps g c = let kept = c.in_ok-take_common_turn.ensures.kept c.if-branch.false in rw kept.0 at c.read_turn.ensures.steps
