use Rattle.std.proofs.Common.{ap, arith, ◌∙◌}
use Rattle.rx_class.proofs.Common.{rest, seen_character}
use Rattle.rx_class.proofs.Readings.{span_on}
use Rattle.rx_class.proofs.SetReading.Characters.{character_gives, no_unicode_gives, too_many_gives}
use Rattle.rx_class.proofs.SetReading.Paces.{character_left, looks_fit}
use Rattle.rx_class.proofs.reading.Reading.class_set_character.Goals as goal

pub returns-in-Character-clause-gives : goal.returns-in-Character-clause-gives
returns-in-Character-clause-gives g c =
    character_gives c.args.self.now.spans.now c.args.self.now.reader.now c.skip.new.self.reader.now c.in-Character.kind c.in-Character.value c.in-Character.length _ _ (c.requires.found ∙ ap seen_character c.in-Character.is)
    c.requires.code_points c.offset-start.ensures.value c.skip.ensures.reader (span_on c.skip.ensures.on _ c.span_from-span.ensures)

pub returns-in-TooMany-clause-gives : goal.returns-in-TooMany-clause-gives
returns-in-TooMany-clause-gives g c =
    too_many_gives c.args.self.now.spans.now c.args.self.now.reader.now _ c.in-TooMany.digits _ (c.requires.found ∙ ap seen_character c.in-TooMany.is) c.read_span-span.ensures.span c.read_span-span.ensures.reader

pub returns-in-Invalid-clause-gives : goal.returns-in-Invalid-clause-gives
returns-in-Invalid-clause-gives g c =
    no_unicode_gives c.args.self.now.spans.now c.args.self.now.reader.now _ _ (c.requires.found ∙ ap seen_character c.in-Invalid.is) c.read_span-span-in-Invalid.ensures.span c.read_span-span-in-Invalid.ensures.reader

pub returns-in-Character-clause-steps : goal.returns-in-Character-clause-steps
returns-in-Character-clause-steps g c =
    let few = character_left c.args.self.now.reader.now c.skip.new.self.reader.now (c.requires.found ∙ ap seen_character c.in-Character.is) c.skip.ensures.reader in
    rw c.in-Character.is (omega (arith, few, c.skip.ensures.steps), omega (arith, few, c.skip.ensures.steps))

pub returns-in-TooMany-clause-steps : goal.returns-in-TooMany-clause-steps
returns-in-TooMany-clause-steps g c =
    let fit = looks_fit (rest c.args.self.now.reader.now) (seen_character c.args.found) c.requires.found in
    omega (arith, fit, c.read_span-span.ensures.steps)

pub returns-in-Invalid-clause-steps : goal.returns-in-Invalid-clause-steps
returns-in-Invalid-clause-steps g c =
    let fit = looks_fit (rest c.args.self.now.reader.now) (seen_character c.args.found) c.requires.found in
    omega (arith, fit, c.read_span-span-in-Invalid.ensures.steps)
