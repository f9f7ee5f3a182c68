use Rattle.std.proofs.Common.{ap, drop, refl, sym, ◌∙◌}
use Rattle.rx_class.proofs.Common.{environment_of, starts, values}
use Rattle.rx_class.specs.SetReading.Fronts.{range_end_at, set_character_at}
use Rattle.rx_class.proofs.Keeping.{rest_moved}
use Rattle.rx_class.proofs.SetReading.BuilderGrowth.{inner_events, inner_well}
use Rattle.rx_class.proofs.SetReading.Characters.{range_end_after, set_character_within, with_v}
use Rattle.rx_class.proofs.SetReading.Fronts.{starts_some}
use Rattle.rx_class.proofs.SetReading.Operands.{character_small, union_character_adds}
use Rattle.rx_class.proofs.reading.Reading.take_member.Goals as goal

pub from-following-requires : goal.from-following-requires
from-following-requires g c = set_character_within _ c.in-Some.ensures

pub add_character-requires-clause-code_point : goal.add_character-requires-clause-code_point
add_character-requires-clause-code_point g c = character_small (c.take_character-character.ensures.gives with_v refl)

pub returns-then-not-begins_with-clause-turned : goal.returns-then-not-begins_with-clause-turned
returns-then-not-begins_with-clause-turned g c = λ yes.
    let it = c.take_character-character.ensures in
    let added = c.in_ok-add_character.ensures in
    let n = c.in-Some.low.length in
    let here = c.from-following.ensures.units ∙ ap (drop n) c.units-units.ensures.units ∙ rest_moved n _ _ it.reader in
    union_character_adds c.requires.well c.requires.union added.held (inner_well c.args.builder.now c.add_character.new.self c.requires.well added.well) c.requires.sets (it.gives _ c.requires.sets.sets)
    (ap (λ us. starts 45 (values us)) (sym here) ∙ sym c.begins_with.ensures ∙ c.if-not-begins_with.true) (inner_events c.args.builder.now c.add_character.new.self _ added.events)

pub from-requires : goal.from-requires
from-requires g c = starts_some 45 c.from-following.result (sym c.begins_with.ensures ∙ c.if-not-begins_with.false)

pub take_range-requires-clause-high : goal.take_range-requires-clause-high
take_range-requires-clause-high g c =
    ap range_end_at (sym (c.from-following.ensures.units ∙ ap (drop c.in-Some.low.length) c.units-units.ensures.units))
    ∙ range_end_after c.from-following.result (sym c.begins_with.ensures ∙ c.if-not-begins_with.false) (ap set_character_at (sym c.from.ensures.units) ∙ c.in-Some-common_character_at.ensures)

pub returns-clause-turned : goal.returns-clause-turned
returns-clause-turned g c = λ yes. c.in_ok-take_range.ensures.added (environment_of c.args.self.now.state.now) c.requires.sets
