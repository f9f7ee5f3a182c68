use Rattle.std.proofs.Common.{ap, subst, sym, ◌∙◌, ◌++◌}
use Rattle.rx_class.proofs.Common.{Member, member_events, member_strings, builder_events, with_member, GivesTurn, adds, innermost_held, IsSound}
use Rattle.rx_ast.proofs.ClassEquations.{escape_is}
use Rattle.rx_class.specs.SetReading.Progress.{no_memory}
use Rattle.rx_class.proofs.Keeping.{handed, moved_keeps}
use Rattle.rx_class.proofs.Readings.{span_on}
use Rattle.rx_class.proofs.SetReading.Operands.{escape_adds}
use Rattle.rx_class.proofs.reading.Reading.escape_operand.Goals as goal

pub span_from-span-requires : goal.span_from-span-requires
span_from-span-requires g c = rw c.skip.ensures.on.spans c.offset-start.ensures.fits

pub push-requires-clause-sound : goal.push-requires-clause-sound
push-requires-clause-sound g c = subst IsSound (sym (escape_is _)) (record { fitting = tt; flagged = tt; early = tt })

pub push-requires-clause-strings : goal.push-requires-clause-strings
push-requires-clause-strings g c = sym (ap member_strings (escape_is _))

pub push-requires-clause-held : goal.push-requires-clause-held
push-requires-clause-held g c = ap (λ (m : Member). with_member m (innermost_held c.args.builder.now)) (escape_is _) ∙ c.requires.takes.held

pub returns-in_err-push-clause-gives : goal.returns-in_err-push-clause-gives
returns-in_err-push-clause-gives g c = λ e of. handed (GivesTurn _ _ _ _ _ _) c.from_residual.ensures.1 (no_memory (moved_keeps 2 _ _ c.skip.ensures.reader))

pub returns-clause-gives : goal.returns-clause-gives
returns-clause-gives g c = λ e of.
    let is = c.in_ok-push.ensures in
    adds
    (escape_adds c.args.self.now.spans.now c.offset-start.result c.args.self.now.reader.now c.skip.new.self.reader.now c.args.kind c.span_from-span.result c.requires.takes is.held is.well
    (is.events ∙ ap (λ m. builder_events c.args.builder.now ++ member_events m) (escape_is _)) c.requires.front c.offset-start.ensures.value c.skip.ensures.reader (span_on c.skip.ensures.on _ c.span_from-span.ensures) e of)
