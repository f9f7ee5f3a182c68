use Rattle.std.proofs.Common.{ap, refl, subst, sym, ◌∙◌, ◌++◌}
use Rattle.rx_class.proofs.Common.{member_events, builder_events, GivesTurn, adds, IsSound}
use Rattle.rx_class.specs.SetReading.Progress.{no_memory}
use Rattle.rx_class.proofs.Keeping.{handed}
use Rattle.rx_class.proofs.SetReading.Characters.{with_v}
use Rattle.rx_class.proofs.SetReading.Operands.{character_small, end_refused, range_adds, range_keeps, range_refused, range_sound}
use Rattle.rx_class.proofs.reading.Reading.range_operand.Goals as goal

pub returns-in_err-high-clause-gives : goal.returns-in_err-high-clause-gives
returns-in_err-high-clause-gives g c = λ e start of dash.
    handed (GivesTurn _ _ _ _ _ _) c.from_residual.ensures.1 (end_refused dash c.args.ranged c.requires.held of (c.in_err-high.ensures.gives e of.sets))

pub returns-in_err-range-clause-gives : goal.returns-in_err-range-clause-gives
returns-in_err-range-clause-gives g c = λ e start of dash.
    handed (GivesTurn _ _ _ _ _ _) c.from_residual-in_err-range.ensures.1 (range_refused dash c.args.ranged c.requires.held of (c.in_ok-high.ensures.gives e of.sets) c.in_err-range.ensures)

pub returns-in_err-contents-clause-gives : goal.returns-in_err-contents-clause-gives
returns-in_err-contents-clause-gives g c = λ e start of dash.
    handed (GivesTurn _ _ _ _ _ _) c.from_residual-in_err-contents.ensures.1 (no_memory (range_keeps dash (c.in_ok-high.ensures.gives e of.sets)))

pub push-requires-clause-sound : goal.push-requires-clause-sound
push-requires-clause-sound g c = subst IsSound (sym c.in_ok-contents.ensures) (range_sound c.requires.low (character_small (c.in_ok-high.ensures.gives with_v refl)) c.in_ok-range.ensures)

pub returns-in_err-push-clause-gives : goal.returns-in_err-push-clause-gives
returns-in_err-push-clause-gives g c = λ e start of dash.
    handed (GivesTurn _ _ _ _ _ _) c.from_residual-in_err-push.ensures.1 (no_memory (range_keeps dash (c.in_ok-high.ensures.gives e of.sets)))

pub returns-clause-gives : goal.returns-clause-gives
returns-clause-gives g c = λ e start of dash.
    let is = c.in_ok-push.ensures in
    adds
    (range_adds dash c.args.ranged c.requires.held of (c.in_ok-high.ensures.gives e of.sets) c.in_ok-range.ensures is.held is.well (is.events ∙ ap (λ m. builder_events c.args.builder.now ++ member_events m) c.in_ok-contents.ensures))
