use Rattle.std.proofs.Common.{◌-◌, ◌<◌, ◌≤◌, length, get_or}
use Rattle.rx_scan.specs.OpenGroups.{no_group}
use Rattle.rx_scan.proofs.open_groups.count_before.Given as goal

abbrev pub invariant-loop-low : goal.invariant-loop-low
invariant-loop-low l =
    (l.low ≤ l.high) × (l.high ≤ length l.groups) × (0 < l.low → (get_or l.groups (l.low - 1) no_group).start ≤ l.mark) × (l.high < length l.groups → l.mark < (get_or l.groups l.high no_group).start)

abbrev pub decreases-loop-low : goal.decreases-loop-low
decreases-loop-low l = l.high - l.low
