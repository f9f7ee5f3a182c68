-- What is done with what stands next in a bracket of a class with `v`, by what the bracket holds.
use Rattle.std.specs.Prelude.{◌≡◌, true, false, IsSome, Some}
use Rattle.rx_model.specs.Classes.ClassRuns.{Held, is_whole, may_follow, operand, takes_operand, with_operator}
use Rattle.rx_model.specs.Classes.ClassTokens.{ClassToken}
use Rattle.rx_class.specs.declared.sets.turn.Turn.{Turn}
use Rattle.rx_class.specs.declared.sets.turn.Turn.TheVariants as turn
use Rattle.rx_class.specs.SetReading.FrontSeen.{seen_character}
use Rattle.rx_class.specs.SetReading.HeldMirror.{mirror_held}
use Rattle.rx_class.specs.SetReading.Fronts.{FrontRead, bracket_next, character_next, closer_next, escape_next, operator_next, property_next, strings_next, IsOfFront, may_be_refused}

-- A bracket that holds this cannot go on with a token that stands next, nor with an escape that may be refused.
pub record TakesNothing (held : Held) (front : FrontRead) : Type 0 where
  pub no_token : (t : ClassToken) → IsOfFront front t → may_follow held t ≡ false
  pub no_escape : takes_operand held ≡ true → may_be_refused front ≡ false

-- what is done, with what the bracket holds after it
abbrev pub IsTurn : Held → FrontRead → Turn → Type 0
IsTurn held front turn.Close = (front ≡ closer_next) × (is_whole held ≡ true)
IsTurn held front (turn.Operator o after) = (front ≡ operator_next o) × (with_operator o held ≡ Some (mirror_held after))
IsTurn held front (turn.Open negative) = (front ≡ bracket_next negative) × IsSome (operand held)
IsTurn held front (turn.Strings after) = (front ≡ strings_next) × (operand held ≡ Some (mirror_held after))
IsTurn held front (turn.Character found after) = (front ≡ character_next (seen_character found)) × (operand held ≡ Some (mirror_held after))
IsTurn held front (turn.Escape kind after) = (front ≡ escape_next kind) × (operand held ≡ Some (mirror_held after))
IsTurn held front (turn.Property after) = (front ≡ property_next) × (operand held ≡ Some (mirror_held after))
IsTurn held front turn.Nothing = TakesNothing held front
