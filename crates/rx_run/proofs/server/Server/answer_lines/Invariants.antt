use Rattle.std.proofs.Common.{◌≡◌, ◌++◌, ℕ, List, length}
use Rattle.rx_run.specs.Serving.{Serves}
use Rattle.rx_run.proofs.server.Server.answer_lines.Given as goal

abbrev pub invariant-lines : goal.invariant-lines
invariant-lines g l =
    (done new : List ℕ) × (l.bytes ≡ done ++ l.rest) × (g.R.Replying.waiting l.self.replies ≡ g.R.Replying.waiting l.fn.self.replies ++ new)
    × Serves (g.R.Replying.answers l.with) l.fn.self.line.bytes (g.R.Replying.so_far l.fn.self.replies) done new l.self.line.bytes (g.R.Replying.so_far l.self.replies)

abbrev pub decreases-lines : goal.decreases-lines
decreases-lines g l = length l.rest
