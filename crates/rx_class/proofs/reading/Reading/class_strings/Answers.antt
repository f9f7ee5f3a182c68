use Rattle.std.proofs.Common.{refl, sym, ap, ◌∙◌, arith}
use Rattle.rx_class.proofs.Common.{values, starts, GivesStrings}
use Rattle.rx_class.proofs.Keeping.{handed}
use Rattle.rx_class.proofs.Readings.{reads_on, span_on}
use Rattle.rx_class.proofs.SetReading.Characters.{with_v}
use Rattle.rx_class.proofs.ReadingSteps.{no_more}
use Rattle.rx_class.proofs.SetReading.Strings.{strings_begin, strings_give, strings_go_on, strings_no_memory, strings_refuse, strings_shorter, strings_within}
use Rattle.rx_class.proofs.reading.Reading.class_strings.Goals as goal

pub loop-self-init : goal.loop-self-init
loop-self-init g c = record {
  strings = λ e sets.
      strings_begin e sets c.args.self.now.spans.now c.args.self.now.reader.now c.skip.new.self.reader.now c.new-builder.result c.here.result c.requires.opener c.skip.ensures.reader (span_on c.skip.ensures.on _ c.here.ensures)
      c.new-builder.ensures;
  paced = let fewer = no_more 3 c.args.self.now.reader.now c.skip.new.self.reader.now c.skip.ensures.reader in (omega (arith, fewer, c.skip.ensures.steps), omega (arith, fewer, c.skip.ensures.steps));
  on = c.skip.ensures.on;
}

pub string_part-requires-clause-within : goal.string_part-requires-clause-within
string_part-requires-clause-within g c = strings_within with_v refl c.args.self.now.spans.now c.args.self.now.reader.now c.loop-self.self.reader.now c.loop-self.builder (c.loop-self.invariant.strings with_v refl)

pub string_part-requires-clause-start : goal.string_part-requires-clause-start
string_part-requires-clause-start g c = rw c.loop-self.invariant.on.spans c.offset-start.ensures.fits

pub loop-self-smaller : goal.loop-self-smaller
loop-self-smaller g c =
    strings_shorter with_v refl c.args.self.now.spans.now c.args.self.now.reader.now c.loop-self.self.reader.now c.string_part.new.self.reader.now c.loop-self.builder c.string_part.new.builder (c.loop-self.invariant.strings with_v refl)
    (rw c.loop-self.invariant.on.spans at (c.in_ok-string_part.ensures.added with_v refl))

pub loop-self-preserved : goal.loop-self-preserved
loop-self-preserved g c = record {
  strings = λ e sets.
      strings_go_on e sets c.args.self.now.spans.now c.args.self.now.reader.now c.loop-self.self.reader.now c.string_part.new.self.reader.now c.loop-self.builder c.string_part.new.builder (c.loop-self.invariant.strings e sets)
      (rw c.loop-self.invariant.on.spans at (c.in_ok-string_part.ensures.added e sets));
  paced = (omega (arith, c.loop-self.invariant.paced, c.in_ok-string_part.ensures.steps), omega (arith, c.loop-self.invariant.paced, c.in_ok-string_part.ensures.steps));
  on = reads_on c.loop-self.invariant.on c.in_ok-string_part.ensures.on;
}

pub returns-in_err-string_part-clause-gives : goal.returns-in_err-string_part-clause-gives
returns-in_err-string_part-clause-gives g c = λ e sets.
    handed (GivesStrings e c.args.self.now.spans.now c.args.self.now.reader.now c.string_part.new.self.reader.now) c.from_residual.ensures.1
    (strings_refuse e sets c.args.self.now.spans.now c.args.self.now.reader.now c.loop-self.self.reader.now c.loop-self.builder (c.loop-self.invariant.strings e sets) c.string_part.new.self.reader.now c.offset-start.result _
    c.offset-start.ensures.value (rw c.loop-self.invariant.on.spans at (c.in_err-string_part.ensures.refused e sets)))

pub returns-in_err-end_string-clause-gives : goal.returns-in_err-end_string-clause-gives
returns-in_err-end_string-clause-gives g c = λ e sets.
    handed (GivesStrings e c.args.self.now.spans.now c.args.self.now.reader.now c.loop-self.self.reader.now) c.from_residual-in_err-end_string.ensures.1
    (strings_no_memory e sets c.args.self.now.spans.now c.args.self.now.reader.now c.loop-self.self.reader.now c.loop-self.builder (c.loop-self.invariant.strings e sets))

pub span_from-requires : goal.span_from-requires
span_from-requires g c = rw (c.advance.ensures.on.spans, c.loop-self.invariant.on.spans) c.offset-start.ensures.fits

pub returns-clause-gives : goal.returns-clause-gives
returns-clause-gives g c = λ e sets.
    let on = c.loop-self.invariant.on in
    strings_give e sets c.args.self.now.spans.now c.args.self.now.reader.now c.loop-self.self.reader.now c.advance.new.self.reader.now c.loop-self.builder c.end_string.new.self c.here-2.result c.span_from.result
    (c.loop-self.invariant.strings e sets) (ap (λ us. starts 125 (values us)) (sym c.units.ensures.units) ∙ sym c.loop-self-test.ensures) (span_on on _ c.here-2.ensures) c.in_ok-end_string.ensures c.advance.ensures.reader
    c.offset-start.result c.offset-start.ensures.value (span_on (reads_on on c.advance.ensures.on) _ c.span_from.ensures)
