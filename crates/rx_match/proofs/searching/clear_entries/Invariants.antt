use Rattle.std.proofs.Common.{length}
use Rattle.rx_match.proofs.searching.clear_entries.Given as goal

abbrev pub decreases-loop : goal.decreases-loop
decreases-loop l = length l.entries
