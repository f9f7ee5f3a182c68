use Rattle.std.proofs.Common.{[], ◌∷◌, ◌++◌, ap, ◌∙◌}
use Rattle.rx_class.proofs.Common.{Span, builder_events, closer, environment_of, leave, move_on, rest, token}
use Rattle.rx_class.proofs.Keeping.{handed_case}
use Rattle.rx_class.proofs.Readings.{reads_on, span_on}
use Rattle.rx_class.proofs.SetReading.Refusals.{closer_begins}
use Rattle.rx_class.proofs.reading.Reading.finish_sets.Goals as goal

pub refuse_negative_strings-requires-clause-front : goal.refuse_negative_strings-requires-clause-front
refuse_negative_strings-requires-clause-front g c = closer_begins (rest c.args.self.now.reader.now) c.requires.ends.closer

pub returns-in_err-refuse_negative_strings-clause-gives : goal.returns-in_err-refuse_negative_strings-clause-gives
returns-in_err-refuse_negative_strings-clause-gives g c =
    handed_case _ _ _ c.from_residual.ensures.1 (c.in_err-refuse_negative_strings.ensures.gives (environment_of c.args.self.now.state.now) c.requires.sets)

pub returns-clause-gives : goal.returns-clause-gives
returns-clause-gives g c =
    let is = c.finish.ensures in
    let on = c.refuse_negative_strings.ensures.on in
    let end = span_on (reads_on on c.advance.ensures.on) _ c.here.ensures in
    record {
      moves = c.advance.ensures.reader ∙ ap (move_on 1) c.in_ok-refuse_negative_strings.ensures.gives.0;
      events = is.events ∙ ap (λ end. builder_events c.args.builder ++ token closer ∷ leave end ∷ []) (ap (λ (s : Span). s.start) end);
      fitting = is.fitting;
      flagged = is.flagged;
      early = is.early;
    }
