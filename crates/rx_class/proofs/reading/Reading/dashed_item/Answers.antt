use Rattle.std.proofs.Common.{refl, subst}
use Rattle.rx_class.proofs.Common.{GivesItem, StandsItem, environment_of, rest}
use Rattle.rx_class.proofs.ClassReading.Ranges.{after_dash, dash_given, second_gives, two_give}
use Rattle.rx_class.proofs.Keeping.{handed, rest_moved}
use Rattle.rx_class.proofs.Readings.{reads_on}
use Rattle.rx_class.proofs.reading.Reading.dashed_item.Goals as goal

pub class_atom-requires-clause-no_sets : goal.class_atom-requires-clause-no_sets
class_atom-requires-clause-no_sets g c = rw c.take_hyphen-hyphen.ensures.on.state c.requires.no_sets

pub class_atom-requires-clause-stands : goal.class_atom-requires-clause-stands
class_atom-requires-clause-stands g c = subst StandsItem (rest_moved 1 _ _ c.take_hyphen-hyphen.ensures.reader) (after_dash (rest c.args.self.now.reader.now) c.requires.dashed).1

pub returns-in_err-high-clause-gives : goal.returns-in_err-high-clause-gives
returns-in_err-high-clause-gives g c = λ start low.
    let hyphen = c.take_hyphen-hyphen.ensures in
    let dash = dash_given _ _ start low refl refl c.requires.dashed refl hyphen.reader hyphen.span in
    handed (GivesItem (environment_of c.args.self.now.state.now) c.args.self.now.spans.now start c.class_atom.new.self.reader.now) c.from_residual.ensures.1 (second_gives _ _ _ c.requires.no_sets dash (rw (hyphen.on.state, hyphen.on.spans) at c.in_err-high.ensures.gives))

pub returns-clause-gives : goal.returns-clause-gives
returns-clause-gives g c = λ start low.
    let hyphen = c.take_hyphen-hyphen.ensures in
    let on = reads_on hyphen.on c.class_atom.ensures.on in
    let dash = dash_given _ _ start low refl refl c.requires.dashed refl hyphen.reader hyphen.span in
    two_give _ _ _ _ _ c.requires.no_sets (rw on.state at c.is_unicode.ensures) dash (rw (hyphen.on.state, hyphen.on.spans) at c.in_ok-high.ensures.gives) c.two_atoms.ensures.three c.two_atoms.ensures.range
