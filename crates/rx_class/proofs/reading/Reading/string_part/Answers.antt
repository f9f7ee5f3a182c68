use Rattle.std.proofs.Common.{◌≡◌, false, sym, ap, ◌∙◌, arith, length}
use Rattle.rx_class.proofs.Common.{TakesSteps, values, starts, seen_if_some}
use Rattle.rx_class.specs.SetReading.Fronts.{set_character_at}
use Rattle.rx_class.specs.SetReading.Strings.{no_memory}
use Rattle.rx_class.proofs.Keeping.{handed}
use Rattle.rx_class.proofs.SetReading.Characters.{character_keeps}
use Rattle.rx_class.proofs.SetReading.Paces.{looks_fit}
use Rattle.rx_class.proofs.SetReading.Strings.{IsRefusedPart, escape_refuses, letter_adds, none_refuses}
use Rattle.rx_class.proofs.reading.Reading.string_part.Goals as goal

pub returns-in_err-next_string-clause-refused : goal.returns-in_err-next_string-clause-refused
returns-in_err-next_string-clause-refused g c =
    handed (IsRefusedPart c.args.self.now.spans.now c.args.start c.args.self.now.reader.now c.next_string.new.self.reader.now) c.from_residual.ensures.1 (λ e sets. no_memory c.in_err-next_string.ensures.keeps)

pub returns-in_default-clause-refused : goal.returns-in_default-clause-refused
returns-in_default-clause-refused g c = λ e sets.
    let no_bar : starts 124 (values c.units.result) ≡ false = sym c.begins_with.ensures ∙ c.if-begins_with.false in
    none_refuses e sets c.args.self.now.spans.now c.args.self.now.reader.now c.args.self.now.reader.now c.args.start _ c.requires.goes_on (sym (ap (λ us. starts 124 (values us)) c.units.ensures.units) ∙ no_bar)
    (sym (c.in_default.ensures.read ∙ ap set_character_at c.ahead-units.ensures.units)) c.requires.within c.span_from-span.ensures

pub class_set_character-requires-clause-found : goal.class_set_character-requires-clause-found
class_set_character-requires-clause-found g c = sym (c.in-Some.ensures.read ∙ ap set_character_at c.ahead-units.ensures.units)

pub returns-in_err-character-clause-refused : goal.returns-in_err-character-clause-refused
returns-in_err-character-clause-refused g c =
    handed (IsRefusedPart c.args.self.now.spans.now c.args.start c.args.self.now.reader.now c.class_set_character.new.self.reader.now) c.from_residual-in_err-character.ensures.1
    (λ e sets. escape_refuses e sets c.args.self.now.spans.now c.args.self.now.reader.now c.class_set_character.new.self.reader.now c.args.start _ (c.in_err-character.ensures.gives e sets))

pub returns-in_err-push-clause-refused : goal.returns-in_err-push-clause-refused
returns-in_err-push-clause-refused g c =
    handed (IsRefusedPart c.args.self.now.spans.now c.args.start c.args.self.now.reader.now c.class_set_character.new.self.reader.now) c.from_residual-in_err-push.ensures.1
    (λ e sets. no_memory (character_keeps (c.in_ok-character.ensures.gives e sets)))

pub returns-clause-added : goal.returns-clause-added
returns-clause-added g c = λ e sets.
    letter_adds e sets c.args.self.now.spans.now c.args.self.now.reader.now c.class_set_character.new.self.reader.now c.args.builder.now _ c.in_ok-character.character (c.in_ok-character.ensures.gives e sets)
    (ap (λ letters. record c.args.builder.now { letters = letters }) c.in_ok-push.ensures.ok)

pub returns-in_err-character-clause-steps : goal.returns-in_err-character-clause-steps
returns-in_err-character-clause-steps g c =
    let looks = rw c.ahead-units.ensures.units at c.in-Some.ensures.steps in
    handed (TakesSteps 6 (g.C.Counter.count c.args.self.now.steps.now) (g.C.Counter.count c.class_set_character.new.self.steps.now) c.args.self.now.reader.now c.class_set_character.new.self.reader.now) c.from_residual-in_err-character.ensures.1
    (omega (arith, looks, c.in_err-character.ensures.steps))

pub returns-in_err-push-clause-steps : goal.returns-in_err-push-clause-steps
returns-in_err-push-clause-steps g c =
    let looks = rw c.ahead-units.ensures.units at c.in-Some.ensures.steps in
    handed (TakesSteps 6 (g.C.Counter.count c.args.self.now.steps.now) (g.C.Counter.count c.class_set_character.new.self.steps.now) c.args.self.now.reader.now c.class_set_character.new.self.reader.now) c.from_residual-in_err-push.ensures.1
    (omega (arith, looks, c.in_ok-character.ensures.steps))

pub returns-clause-steps : goal.returns-clause-steps
returns-clause-steps g c =
    let looks = rw c.ahead-units.ensures.units at c.in-Some.ensures.steps in
    (omega (arith, looks, c.in_ok-character.ensures.steps), omega (arith, looks, c.in_ok-character.ensures.steps))

pub returns-in_default-clause-steps : goal.returns-in_default-clause-steps
returns-in_default-clause-steps g c =
    let fit = looks_fit c.ahead-units.result (seen_if_some c.set_character_at.result) (sym c.set_character_at.ensures.read) in
    omega (arith, fit, c.set_character_at.ensures.steps, ap length c.ahead-units.ensures.units)
