use Rattle.std.proofs.Common.{ap, refl, subst, sym, ◌∙◌, ◌++◌}
use Rattle.rx_class.proofs.Common.{member_events, builder_events, GivesTurn, adds, IsSound}
use Rattle.rx_class.specs.SetReading.Progress.{no_memory}
use Rattle.rx_class.proofs.Keeping.{handed}
use Rattle.rx_class.proofs.SetReading.Characters.{with_v}
use Rattle.rx_class.proofs.SetReading.Operands.{strings_adds, strings_keep, strings_refused, strings_sound}
use Rattle.rx_class.proofs.reading.Reading.strings_operand.Goals as goal

pub returns-in_err-strings-clause-gives : goal.returns-in_err-strings-clause-gives
returns-in_err-strings-clause-gives g c = λ e of.
    handed (GivesTurn _ _ _ _ _ _) c.from_residual.ensures.1 (strings_refused c.requires.takes of (c.in_err-strings.ensures.gives e of.sets))

pub returns-clause-gives : goal.returns-clause-gives
returns-clause-gives g c = λ e of.
    let is = c.in_ok-push.ensures in
    adds
    (strings_adds c.requires.takes is.held is.well (is.events ∙ ap (λ m. builder_events c.args.builder.now ++ member_events m) c.in_ok-contents.ensures) (c.in_ok-strings.ensures.gives e of.sets))

pub returns-in_err-contents-clause-gives : goal.returns-in_err-contents-clause-gives
returns-in_err-contents-clause-gives g c = λ e of.
    handed (GivesTurn _ _ _ _ _ _) c.from_residual-in_err-contents.ensures.1 (no_memory (strings_keep (c.in_ok-strings.ensures.gives e of.sets)))

pub push-requires-clause-sound : goal.push-requires-clause-sound
push-requires-clause-sound g c = subst IsSound (sym c.in_ok-contents.ensures) (strings_sound (c.in_ok-strings.ensures.gives with_v refl))

pub returns-in_err-push-clause-gives : goal.returns-in_err-push-clause-gives
returns-in_err-push-clause-gives g c = λ e of.
    handed (GivesTurn _ _ _ _ _ _) c.from_residual-in_err-push.ensures.1 (no_memory (strings_keep (c.in_ok-strings.ensures.gives e of.sets)))
