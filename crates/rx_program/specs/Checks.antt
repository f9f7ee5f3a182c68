-- What a row of checks holds.
use Rattle.std.specs.Prelude.{ℕ, zero, suc, ◌-◌, Bool, true, false, ◌==◌, nat_lt, if◌then◌else◌, Option, Some, None, List, length, slice_get}
use Rattle.std.specs.Int.{bit_at}
use Rattle.rx_base.specs.Characters.{is_within}
use Rattle.rx_program.specs.declared.checks.Check.{Check}
use Rattle.rx_program.specs.declared.checks.ClassRow.{ClassRow}
use Rattle.rx_program.specs.declared.checks.ItemTest.{ItemTest}
use Rattle.rx_program.specs.declared.checks.ItemTest.TheVariants as item
use Rattle.rx_program.specs.declared.checks.Target.{Target}
use Rattle.rx_program.specs.declared.checks.Target.TheVariants as target
use Rattle.rx_trace.specs.Holding.{escape_holds}

abbrev pub item_holds : ItemTest → ℕ → Bool
item_holds (item.Range low high) c = is_within low high c
item_holds (item.Character value) c = c == value
item_holds (item.Escape kind) c = escape_holds kind c

abbrev pub target_after : Check → ℕ → Target
target_after check c = if item_holds check.test c then check.held else check.not_held

-- what comes after a check; where there is no check, nothing is held
abbrev pub after_check : Option Check → ℕ → Target
after_check None c = target.NotHeld
after_check (Some check) c = target_after check c

abbrev pub is_held : Target → Bool
is_held (target.Check i) = false
is_held target.Held = true
is_held target.NotHeld = false

abbrev pub is_check : ℕ → Target → Bool
is_check n (target.Check i) = i == n
is_check n target.Held = false
is_check n target.NotHeld = false

-- the answer of a target, where only checks below a number are asked, and after each only those before it
abbrev pub target_holds : List Check → ℕ → Target → ℕ → Bool
target_holds checks zero t c = is_held t
target_holds checks (suc n) t c = if is_check n t then target_holds checks n (after_check (slice_get checks n) c) c else target_holds checks n t c

-- the same where all checks may be asked
abbrev pub answer : List Check → Target → ℕ → Bool
answer checks t c = target_holds checks (length checks) t c

-- a row has the answers for the values below 128, a bit for each, and asks its checks of the others
abbrev pub row_holds : ClassRow → ℕ → Bool
row_holds row c = if nat_lt c 64 then bit_at row.low c == 1 else (if nat_lt c 128 then bit_at row.high (c - 64) == 1 else answer row.checks row.first c)
