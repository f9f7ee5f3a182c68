use Rattle.std.proofs.Common.{◌≡◌, refl, subst, sym}
use Rattle.rx_class.proofs.Common.{GivesAtom, IsAfterBackslash, back, environment_of}
use Rattle.rx_class.proofs.ClassReading.Atoms.{nothing_so_far, property_gives, property_refused}
use Rattle.rx_class.proofs.Keeping.{handed}
use Rattle.rx_class.proofs.reading.Reading.longer_atom.Goals as goal

pub returns-in_err-escape-clause-gives : goal.returns-in_err-escape-clause-gives
returns-in_err-escape-clause-gives g c =
    let old = c.args.self.now.reader.now in
    handed (GivesAtom (environment_of c.args.self.now.state.now) c.args.self.now.spans.now (back old) c.property_escape.new.self.reader.now) c.from_residual.ensures.1
    (property_refused (environment_of c.args.self.now.state.now) c.requires.no_sets c.args.self.now.spans.now c.args.start old c.requires.backslash _ _ c.in_err-escape.ensures.gives)

pub returns-in-Some-clause-gives : goal.returns-in-Some-clause-gives
returns-in-Some-clause-gives g c =
    property_gives (environment_of c.args.self.now.state.now) c.requires.no_sets c.args.self.now.spans.now c.args.start c.args.self.now.reader.now c.requires.backslash _ _ (rw c.in-Some.is at c.in_ok-escape.ensures.gives)

pub character_atom-requires : goal.character_atom-requires
character_atom-requires g c =
    let state = c.property_escape.ensures.on.state in
    let so_far = nothing_so_far refl refl (sym c.requires.none.0) (sym c.requires.none.1) c.in_ok-escape.ensures.gives c.in_default.is in
    record {
      backslash = subst (λ r. IsAfterBackslash r c.args.start) (sym so_far.0) c.requires.backslash;
      none = rw (so_far.0, state) so_far.1;
      no_sets = rw state c.requires.no_sets;
    }

pub returns-clause-gives : goal.returns-clause-gives
returns-clause-gives g c =
    let so_far = nothing_so_far refl refl (sym c.requires.none.0) (sym c.requires.none.1) c.in_ok-escape.ensures.gives c.in_default.is in
    rw (so_far.0, c.property_escape.ensures.on.state, c.property_escape.ensures.on.spans) at c.character_atom.ensures.gives

pub returns-clause-steps : goal.returns-clause-steps
returns-clause-steps g c =
    let so_far = nothing_so_far refl refl (sym c.requires.none.0) (sym c.requires.none.1) c.in_ok-escape.ensures.gives c.in_default.is in
    let nothing : g.C.Counter.count c.property_escape.new.self.steps.now ≡ g.C.Counter.count c.args.self.now.steps.now = rw c.in_default.is at c.in_ok-escape.ensures.steps in
    rw (so_far.0, nothing) at c.character_atom.ensures.steps
