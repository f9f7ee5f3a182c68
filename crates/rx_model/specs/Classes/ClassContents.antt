-- What the contents of a class are, as things in a row (ClassContents, ClassUnion, ClassIntersection and ClassSubtraction, 22.2.1), and what a bracket holds
-- after some of them.
use Rattle.std.specs.Prelude.{Option, Some, None, List, [], ◌∷◌}
use Rattle.rx_base.specs.declared.diagnostic.kinds.SetOperator.{SetOperator}
use Rattle.rx_model.specs.Classes.ClassRuns.{Held, operand, with_range, with_operator}

-- an operand: a character, an escape, a nested class, class strings; a range; an operator
pub data Thing : Type 0 where
  one_operand : Thing
  one_range : Thing
  operator : SetOperator → Thing

abbrev pub IsMember : Thing → Type 0
IsMember one_operand = Unit {0}
IsMember one_range = Unit {0}
IsMember (operator o) = ⊥

abbrev pub AreMembers : List Thing → Type 0
AreMembers [] = Unit {0}
AreMembers (thing ∷ things) = IsMember thing × AreMembers things

-- further operands, each after the operator
pub data AreFurther (between : Thing) : List Thing → Type 0 where
  none : AreFurther between []
  further : (more : List Thing) → AreFurther between more → AreFurther between (between ∷ one_operand ∷ more)

pub data AreContents : List Thing → Type 0 where
  union : (things : List Thing) → AreMembers things → AreContents things
  joined : (o : SetOperator) (more : List Thing) → AreFurther (operator o) more → AreContents (one_operand ∷ more)

abbrev pub with_thing : Thing → Held → Option Held
with_thing one_operand held = operand held
with_thing one_range held = with_range held
with_thing (operator o) held = with_operator o held

abbrev pub go_on : Option Held → (Held → Option Held) → Option Held
go_on None more = None
go_on (Some held) more = more held

-- what a bracket holds that held this, with these things more, or none where one may not stand where it does
abbrev pub hold_after : List Thing → Held → Option Held
hold_after [] held = Some held
hold_after (thing ∷ things) held = go_on (with_thing thing held) (λ after. hold_after things after)
