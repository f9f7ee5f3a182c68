use Rattle.std.proofs.Common.{arith, inl, inr, refl, sym, ◌∙◌}
use Rattle.rx_class.proofs.Common.{length-map, CodePoint, rest, environment_of, IsReading}
use Rattle.rx_class.specs.PropertyReading.Answers.{GivesProperty, no_memory, none}
use Rattle.rx_class.proofs.EscapeReading.Gives.{stands_within}
use Rattle.rx_class.proofs.Keeping.{handed, stays_keeps}
use Rattle.rx_class.proofs.PropertyReading.Gives.{halt_gives, property_gives}
use Rattle.rx_class.proofs.PropertyReading.Steps.{property_within}
use Rattle.rx_class.proofs.ReadingSteps.{looked_then_moved}
use Rattle.rx_class.proofs.Readings.{span_on, start_fits}
use Rattle.rx_class.proofs.reading.Reading.property_escape.Goals as goal

pub span_from-span-requires : goal.span_from-span-requires
span_from-span-requires g c = start_fits c.skip.ensures.on c.args.span_start c.requires.backslash

pub returns-then-not-is_unicode-clause-gives : goal.returns-then-not-is_unicode-clause-gives
returns-then-not-is_unicode-clause-gives g c = none refl (inl (sym c.is_unicode.ensures ∙ c.if-not-is_unicode.true))

pub returns-in_err-found-clause-gives : goal.returns-in_err-found-clause-gives
returns-in_err-found-clause-gives g c =
    let old = c.args.self.now.reader.now in
    handed (GivesProperty (environment_of c.args.self.now.state.now) c.args.self.now.spans.now c.args.span_start old old) c.from_residual.ensures.1
    (no_memory (stays_keeps old old (stands_within old c.args.span_start c.requires.backslash) refl))

pub returns-in-Property-clause-gives : goal.returns-in-Property-clause-gives
returns-in-Property-clause-gives g c =
    let found = rw (c.ahead-units.ensures.units, c.in-Property.is, c.mode.ensures) at c.in_ok-found.ensures.found in
    property_gives (environment_of c.args.self.now.state.now) c.args.self.now.spans.now c.args.span_start c.args.self.now.reader.now c.requires.backslash (sym c.is_unicode.ensures ∙ c.if-not-is_unicode.false) _
    c.skip.new.self.reader.now c.in-Property.length found (span_on c.skip.ensures.on _ c.span_from-span.ensures) c.skip.ensures.reader

pub returns-in-Nothing-clause-gives : goal.returns-in-Nothing-clause-gives
returns-in-Nothing-clause-gives g c = none refl (inr (rw (c.ahead-units.ensures.units, c.in-Nothing.is) at c.in_ok-found.ensures.found))

pub returns-in-Halt-clause-gives : goal.returns-in-Halt-clause-gives
returns-in-Halt-clause-gives g c =
    let halts = rw (c.ahead-units.ensures.units, c.in-Halt.is, c.mode.ensures) at c.in_ok-found.ensures.found in
    halt_gives (environment_of c.args.self.now.state.now) c.args.self.now.spans.now c.args.span_start c.args.self.now.reader.now c.requires.backslash _ _ _ halts c.refusal.ensures.refusal c.refusal.ensures.reader

pub returns-in_err-found-clause-steps : goal.returns-in_err-found-clause-steps
returns-in_err-found-clause-steps g c =
    let old = c.args.self.now.reader.now in
    let steps = rw c.ahead-units.ensures.units at c.in_err-found.ensures.steps in
    handed (IsReading 6 (g.C.Counter.count c.args.self.now.steps.now) (g.C.Counter.count c.property_at.new.steps) old old) c.from_residual.ensures.1 (omega (arith, steps.1))

pub returns-in-Property-clause-steps : goal.returns-in-Property-clause-steps
returns-in-Property-clause-steps g c =
    let old = c.args.self.now.reader.now in
    let found = rw (c.ahead-units.ensures.units, c.in-Property.is) at c.in_ok-found.ensures.found in
    let steps = rw c.in-Property.is at c.in_ok-found.ensures.steps in
    let within = property_within found in
    looked_then_moved c.in-Property.length old c.skip.new.self.reader.now (g.C.Counter.count c.args.self.now.steps.now) (g.C.Counter.count c.property_at.new.steps) (g.C.Counter.count c.skip.new.self.steps.now)
    (omega (arith, within, length-map (rest old) (λ (u : CodePoint). u.value))) c.skip.ensures.reader (omega (arith, steps.0)) (omega (arith, steps.1)) c.skip.ensures.steps

pub returns-in-Nothing-clause-steps : goal.returns-in-Nothing-clause-steps
returns-in-Nothing-clause-steps g c = let steps = rw c.in-Nothing.is at c.in_ok-found.ensures.steps in omega (arith, steps.0, steps.1)

pub returns-in-Halt-clause-steps : goal.returns-in-Halt-clause-steps
returns-in-Halt-clause-steps g c =
    let steps = rw (c.in-Halt.is, c.ahead-units.ensures.units) at c.in_ok-found.ensures.steps in
    omega (arith, steps.1, c.refusal.ensures.steps)
