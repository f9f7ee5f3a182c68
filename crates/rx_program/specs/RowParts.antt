-- What a row that is made from its end will hold, by what is made and what is still to be made.
use Rattle.std.specs.Prelude.{◌≡◌, ℕ, ◌+◌, ◌*◌, ◌<◌, ◌≤◌, Bool, if◌then◌else◌, List, [], ◌∷◌, ◌++◌, length, map, reverse}
use Rattle.rx_ast.specs.ClassTree.{members, mirror_contents}
use Rattle.rx_program.specs.declared.checks.Check.{Check}
use Rattle.rx_program.specs.declared.checks.Target.{Target}
use Rattle.rx_program.specs.declared.checks.Target.TheVariants as target
use Rattle.rx_program.specs.declared.row_builder.Part.{Part}
use Rattle.rx_program.specs.declared.row_builder.Part.TheVariants as part
use Rattle.rx_program.specs.declared.row_builder.RowBuilder.{RowBuilder}
use Rattle.rx_program.specs.Checks.{answer}
use Rattle.rx_trace.specs.Holding.{member_holds, any_holds, all_hold}
use Rattle.rx_program.specs.SurveyState.{member_looks, members_looks}

-- what a part answers of a unit, where what is made so far answers `made`
abbrev pub part_answer : List Check → ℕ → Part → Bool → Bool
part_answer checks c (part.Any items held) made = if any_holds (members (map mirror_contents items.now)) c then answer checks held c else made
part_answer checks c (part.All items not_held) made = if all_hold (members (map mirror_contents items.now)) c then made else answer checks not_held c
part_answer checks c (part.Item item not_held) made = if member_holds (mirror_contents item.now) c then made else answer checks not_held c

abbrev pub parts_answer : List Check → ℕ → List Part → Bool → Bool
parts_answer checks c [] made = made
parts_answer checks c (p ∷ ps) made = parts_answer checks c ps (part_answer checks c p made)

-- what the whole row answers where what is made so far answers `made`
abbrev pub outcome : RowBuilder → ℕ → Bool → Bool
outcome b c made = parts_answer b.checks c (reverse b.parts) made

-- what the whole row will answer
abbrev pub row_answer : RowBuilder → ℕ → Bool
row_answer b c = outcome b c (answer b.checks b.target c)

abbrev pub IsTargetBelow : ℕ → Target → Type 0
IsTargetBelow n (target.Check i) = i < n
IsTargetBelow n target.Held = Unit {0}
IsTargetBelow n target.NotHeld = Unit {0}

abbrev pub IsPartBelow : ℕ → Part → Type 0
IsPartBelow n (part.Any items held) = IsTargetBelow n held
IsPartBelow n (part.All items not_held) = IsTargetBelow n not_held
IsPartBelow n (part.Item item not_held) = IsTargetBelow n not_held

abbrev pub ArePartsBelow : ℕ → List Part → Type 0
ArePartsBelow n [] = Unit {0}
ArePartsBelow n (p ∷ ps) = IsPartBelow n p × ArePartsBelow n ps

-- Targets name only checks that are made.
pub record IsRow (b : RowBuilder) (ps : List Part) : Type 0 where
  pub parts : ArePartsBelow (length b.checks) ps
  pub begins : IsTargetBelow (length b.checks) b.target

pub record CanLead (b : RowBuilder) (held not_held : Target) : Type 0 where
  pub parts : ArePartsBelow (length b.checks) (reverse b.parts)
  pub held_below : IsTargetBelow (length b.checks) held
  pub not_held_below : IsTargetBelow (length b.checks) not_held

abbrev pub with_part : RowBuilder → Part → RowBuilder
with_part b p = record b { parts = b.parts ++ (p ∷ []) }

abbrev pub with_target : RowBuilder → Target → RowBuilder
with_target b t = record b { target = t }

abbrev pub with_check : RowBuilder → Check → RowBuilder
with_check b check = record b { checks = b.checks ++ (check ∷ []); target = target.Check (length b.checks) }

-- the most parts that are made of a part, itself and those that it is cut into
abbrev pub part_weight : Part → ℕ
part_weight (part.Any items _) = 1 + 2 * members_looks (members (map mirror_contents items.now))
part_weight (part.All items _) = 1 + 2 * members_looks (members (map mirror_contents items.now))
part_weight (part.Item item _) = 1 + 2 * member_looks (mirror_contents item.now)

abbrev pub part_weights : List Part → ℕ
part_weights [] = 0
part_weights (p ∷ ps) = part_weight p + part_weights ps

-- A test is made, or left for later in parts of at most this weight: where it holds `held` comes after it, and otherwise `not_held`.
pub record LeadsOn (b : RowBuilder) (holds : ℕ → Bool) (most : ℕ) (held not_held : Target) (after : RowBuilder) : Type 0 where
  pub answers : (c : ℕ) → row_answer after c ≡ outcome b c (if holds c then answer b.checks held c else answer b.checks not_held c)
  pub row : IsRow after (reverse after.parts)
  pub fewer : part_weights (reverse after.parts) ≤ most + part_weights (reverse b.parts)

-- A part is made, or cut into smaller ones: the whole row answers the same.
pub record MakesPart (b : RowBuilder) (p : Part) (after : RowBuilder) : Type 0 where
  pub answers : (c : ℕ) → row_answer after c ≡ outcome b c (part_answer b.checks c p (answer b.checks b.target c))
  pub row : IsRow after (reverse after.parts)
  pub fewer : part_weights (reverse after.parts) < part_weight p + part_weights (reverse b.parts)
