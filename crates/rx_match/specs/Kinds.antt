-- Which steps repeat, which begin with a Tick, and bounds of a repetition.
use Rattle.std.specs.Prelude.{◌≡◌, ℕ, ◌-◌, Bool, true, false, Option, Some, None, List, min}
use Rattle.rx_match.specs.declared.kinds.Repeated.{Repeated}
use Rattle.rx_program.specs.declared.step.Step.{Step}
use Rattle.rx_program.specs.declared.step.Step.TheVariants as step
use Rattle.rx_program.specs.declared.step.Test.{Test}
use Rattle.rx_program.specs.Codes.{accept, consume}
use Rattle.rx_program.specs.Steps.{code_at, test_holds}

abbrev pub repetition_in : Step → Option Repeated
repetition_in step.Accept = None
repetition_in step.Reject = None
repetition_in (step.Consume t next) = None
repetition_in (step.Assert kind multiline next) = None
repetition_in (step.Refer number next) = None
repetition_in (step.ReferByName numbers next) = None
repetition_in (step.EnterGroup next) = None
repetition_in (step.Choose first other) = None
repetition_in (step.Sequence first second) = None
repetition_in (step.Capture g body next) = None
repetition_in (step.LookAround kind body next) = None
repetition_in (step.Repeat t b n) = Some (record { turns = t; body = b; next = n })

abbrev pub ticks_in : Step → Bool
ticks_in step.Accept = false
ticks_in step.Reject = false
ticks_in (step.Consume t next) = true
ticks_in (step.Assert kind multiline next) = true
ticks_in (step.Refer number next) = true
ticks_in (step.ReferByName numbers next) = true
ticks_in (step.EnterGroup next) = true
ticks_in (step.Choose first other) = false
ticks_in (step.Sequence first second) = false
ticks_in (step.Capture g body next) = true
ticks_in (step.LookAround kind body next) = true
ticks_in (step.Repeat t b n) = true

abbrev pub repetition_of : Option Step → Option Repeated
repetition_of None = None
repetition_of (Some x) = repetition_in x

-- The body of a repetition is one unit that the test holds, with no group.
pub record IsUnit (steps : List Step) (it : Repeated) (t : Test) : Type 0 where
  pub body : code_at steps it.body ≡ consume (test_holds t) accept
  pub no_group : it.turns.count ≡ 0

-- a bound after so many turns
abbrev pub fewer : Option ℕ → ℕ → Option ℕ
fewer None turns = None
fewer (Some max) turns = Some (max - turns)

-- how many turns a bound allows and a budget pays for
abbrev pub allowed_within : Option ℕ → ℕ → ℕ
allowed_within None budget = budget
allowed_within (Some max) budget = min max budget
