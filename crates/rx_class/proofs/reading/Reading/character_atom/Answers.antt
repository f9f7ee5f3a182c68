use Rattle.std.proofs.Common.{refl}
use Rattle.rx_class.proofs.Common.{environment_of, GivesAtom, back}
use Rattle.rx_class.proofs.ClassReading.Atoms.{character_gives, character_refused, nothing_refused}
use Rattle.rx_class.proofs.Keeping.{handed}
use Rattle.rx_class.proofs.Readings.{span_on, start_fits}
use Rattle.rx_class.proofs.reading.Reading.character_atom.Goals as goal

pub span_from-span-requires : goal.span_from-span-requires
span_from-span-requires g c = start_fits c.character_in_class.ensures.on c.args.start c.requires.backslash

pub returns-in_err-character-clause-gives : goal.returns-in_err-character-clause-gives
returns-in_err-character-clause-gives g c =
    let e = environment_of c.args.self.now.state.now in
    let old = c.args.self.now.reader.now in
    handed (GivesAtom e c.args.self.now.spans.now (back old) c.character_in_class.new.self.reader.now) c.from_residual.ensures.1
    (character_refused e c.requires.no_sets c.args.self.now.spans.now c.args.start old c.requires.backslash _ _ _ refl c.in_err-character.ensures.found)

pub returns-in-Some-clause-gives : goal.returns-in-Some-clause-gives
returns-in-Some-clause-gives g c =
    character_gives (environment_of c.args.self.now.state.now) c.requires.no_sets c.args.self.now.spans.now c.args.start c.args.self.now.reader.now c.requires.backslash _ _ _ refl (rw c.in-Some.is at c.in_ok-character.ensures.found)

pub returns-clause-gives : goal.returns-clause-gives
returns-clause-gives g c =
    nothing_refused (environment_of c.args.self.now.state.now) c.requires.no_sets c.args.self.now.spans.now c.args.start c.args.self.now.reader.now c.requires.backslash _ _ _ refl c.requires.none
    (rw c.in_default.is at c.in_ok-character.ensures.found) (span_on c.character_in_class.ensures.on _ c.span_from-span.ensures)
