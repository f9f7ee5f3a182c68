-- The code that a step of a program stands for, and the order of steps.
use Rattle.std.specs.Prelude.{ℕ, ◌<◌, Bool, false, ◌==◌, ◌||◌, not, if◌then◌else◌, List, [], ◌∷◌, length, reverse}
use Rattle.rx_program.specs.declared.step.Test.{Test}
use Rattle.rx_program.specs.declared.step.Test.TheVariants as test
use Rattle.rx_program.specs.declared.step.Step.{Step}
use Rattle.rx_program.specs.declared.step.Step.TheVariants as step
use Rattle.rx_program.specs.Checks.{row_holds}
use Rattle.rx_program.specs.Named.{slot_among}
use Rattle.rx_program.specs.Codes.{Code, accept, reject, consume, assert, refer, enter_group, choose, sequence, capture, look_around, repeat}
use Rattle.rx_trace.specs.Holding.{is_line_terminator, escape_holds}
use Rattle.rx_trace.specs.Groups.{slot_of}

abbrev pub test_holds : Test → ℕ → Bool
test_holds (test.Character c) u = u == c
test_holds (test.Dot dot_all) u = dot_all || not (is_line_terminator u)
test_holds (test.Escape k) u = escape_holds k u
test_holds (test.Class row) u = row_holds row.now u
test_holds test.Never u = false

-- the code of a step, where the steps that it names have theirs
abbrev pub step_code : Step → (ℕ → Code) → Code
step_code step.Accept f = accept
step_code step.Reject f = reject
step_code (step.Consume t next) f = consume (test_holds t) (f next)
step_code (step.Assert kind multiline next) f = assert kind multiline (f next)
step_code (step.Refer number next) f = refer (λ slots. slot_of slots number) (f next)
step_code (step.ReferByName numbers next) f = refer (slot_among numbers.now) (f next)
step_code (step.EnterGroup next) f = enter_group (f next)
step_code (step.Choose first other) f = choose (f first) (f other)
step_code (step.Sequence first second) f = sequence (f first) (f second)
step_code (step.Capture g body next) f = capture g (f body) (f next)
step_code (step.LookAround kind body next) f = look_around kind (f body) (f next)
step_code (step.Repeat t body next) f = repeat t.min t.max t.greedy t.from t.count (f body) (f next)

-- the code of the step with a number, in steps from the last to the first
abbrev pub code_in : List Step → ℕ → Code
code_in [] i = reject
code_in (s ∷ before) i = if i == length before then step_code s (code_in before) else code_in before i

unfoldable pub code_at : List Step → ℕ → Code
code_at steps i = code_in (reverse steps) i

-- the steps that a step names stand below a number
abbrev pub NamesBelow : ℕ → Step → Type 0
NamesBelow n step.Accept = Unit {0}
NamesBelow n step.Reject = Unit {0}
NamesBelow n (step.Consume t next) = next < n
NamesBelow n (step.Assert kind multiline next) = next < n
NamesBelow n (step.Refer number next) = next < n
NamesBelow n (step.ReferByName numbers next) = next < n
NamesBelow n (step.EnterGroup next) = next < n
NamesBelow n (step.Choose first other) = (first < n) × (other < n)
NamesBelow n (step.Sequence first second) = (first < n) × (second < n)
NamesBelow n (step.Capture g body next) = (body < n) × (next < n)
NamesBelow n (step.LookAround kind body next) = (body < n) × (next < n)
NamesBelow n (step.Repeat t body next) = (body < n) × (next < n)

-- In steps from the last to the first, each names only steps before it.
abbrev pub OrderedOf : List Step → Type 0
OrderedOf [] = Unit {0}
OrderedOf (s ∷ before) = NamesBelow (length before) s × OrderedOf before

unfoldable pub AreOrdered : List Step → Type 0
AreOrdered steps = OrderedOf (reverse steps)
