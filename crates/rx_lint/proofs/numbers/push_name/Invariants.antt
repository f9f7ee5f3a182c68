use Rattle.std.proofs.Common.{◌≡◌, ◌++◌, length, drop}
use Rattle.std.specs.Str.{chars}
use Rattle.rx_lint.specs.Numbers.{name_numbers}
use Rattle.rx_lint.proofs.numbers.push_name.Given as goal

abbrev pub invariant-loop-c : goal.invariant-loop-c
invariant-loop-c l = l.numbers ++ name_numbers (drop (length l.yielded) (chars l.name)) ≡ l.fn.numbers ++ name_numbers (chars l.name)
