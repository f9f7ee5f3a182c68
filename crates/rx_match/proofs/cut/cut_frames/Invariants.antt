use Rattle.std.proofs.Common.{◌≡◌, ◌≤◌, length, take}
use Rattle.rx_match.proofs.cut.cut_frames.Given as goal

abbrev pub invariant-loop-frames : goal.invariant-loop-frames
invariant-loop-frames l = record { enough : l.most ≤ length l.frames; same : take l.most l.frames ≡ take l.most l.fn.frames }

abbrev pub decreases-loop-frames : goal.decreases-loop-frames
decreases-loop-frames l = length l.frames
