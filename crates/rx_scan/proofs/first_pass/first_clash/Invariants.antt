use Rattle.std.proofs.Common.{◌≡◌, drop, map}
use Rattle.std.specs.Str.{chars}
use Rattle.rx_scan.specs.OpenGroups.{group_states_of, states_that_part}
use Rattle.rx_scan.specs.FirstPass.{first_clash, entry_of}
use Rattle.rx_scan.proofs.first_pass.first_clash.Given as goal

abbrev pub invariant-loop-opening : goal.invariant-loop-opening
invariant-loop-opening l =
    first_clash (states_that_part l.duplicate_names (group_states_of l.groups)) (chars l.name) (map entry_of l.openings)
    ≡ first_clash (states_that_part l.duplicate_names (group_states_of l.groups)) (chars l.name) (map entry_of (drop l.opening-index l.openings))
