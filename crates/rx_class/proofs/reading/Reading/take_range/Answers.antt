use Rattle.std.proofs.Common.{◌≡◌, ◌≤◌, ℕ, All, arith, drop, refl}
use Rattle.std.proofs.lemmas.List.Elements.{All-drop}
use Rattle.rx_class.proofs.Common.{CharacterKind, CodePoint, Cursor, move_on, rest}
use Rattle.rx_model.specs.Characters.EscapeFronts.{escaped}
use Rattle.rx_class.specs.SetReading.Fronts.{range_end_at}
use Rattle.rx_class.specs.SetReading.Progress.{range}
use Rattle.rx_class.specs.declared.sets.character.SetCharacter.TheVariants.{Character}
use Rattle.rx_class.proofs.Keeping.{on_ok_three, rest_moved}
use Rattle.rx_class.proofs.Readings.{reads_on}
use Rattle.rx_class.proofs.SetReading.BuilderGrowth.{inner_events, inner_well}
use Rattle.rx_class.proofs.SetReading.Characters.{with_v}
use Rattle.rx_class.proofs.SetReading.Operands.{character_small, range_adds, range_sound}
use Rattle.rx_class.proofs.SetReading.Paces.{IsOverDash, over_dash}
use Rattle.rx_class.proofs.reading.Reading.take_range.Goals as goal

-- The `-` after a character is moved over.
over : (old mid new : Cursor) (low : ℕ) {k : CharacterKind} {v n : ℕ} → All (λ unit. unit.value ≤ 0x10FFFF) (rest old) → mid ≡ move_on low old → range_end_at (drop low (rest old)) ≡ escaped k v n → new ≡ move_on 1 mid →
    IsOverDash (drop low (rest old)) mid new (escaped k v n)
over old mid new low {k} {v} {n} all moves read dash =
    over_dash (drop low (rest old)) mid new (Character k v n) (rest_moved low old mid moves) (All-drop (λ (unit : CodePoint). unit.value ≤ 0x10FFFF) low (rest old) all) read dash

pub take_character-max-requires : goal.take_character-max-requires
take_character-max-requires g c =
    let dash = over _ _ _ c.args.low.length c.requires.code_points c.take_character-min.ensures.reader c.requires.high c.advance.ensures.reader in record { found = dash.found; code_points = dash.code_points }

pub add_range-requires-clause-sound : goal.add_range-requires-clause-sound
add_range-requires-clause-sound g c =
    let min = c.take_character-min.ensures in
    let max = c.take_character-max.ensures in
    rw c.new-span.ensures (range_sound (character_small (min.gives with_v refl)) (character_small (max.gives with_v refl)) (range (omega (arith, min.value, max.value, c.requires.ordered))))

pub returns-clause-added : goal.returns-clause-added
returns-clause-added g c =
    let min = c.take_character-min.ensures in
    let max = c.take_character-max.ensures in
    let on = reads_on min.on c.advance.ensures.on in
    let dash = over _ _ _ c.args.low.length c.requires.code_points min.reader c.requires.high c.advance.ensures.reader in
    let is = c.add_range.ensures in
    on_ok_three c.add_range.result
    (λ events held well e of.
    range_adds (record { before = c.take_character-min.new.self.reader.now; gives = min.gives e of.sets; dashed = dash.dashed; moves = c.advance.ensures.reader }) c.add_range.new.self.held held of (rw on.spans at (max.gives e of.sets))
    (range (omega (arith, min.value, max.value, c.requires.ordered))) refl (inner_well c.args.builder.now c.add_range.new.self c.requires.well well) (inner_events c.args.builder.now c.add_range.new.self _ (rw c.new-span.ensures at events)))
    is.events is.held is.well
