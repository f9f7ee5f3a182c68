use Rattle.std.proofs.Common.{◌≡◌, ℕ, ◌<◌, true, slice_index}
use Rattle.memchr.specs.Find.{is_byte}
use Rattle.rx_run.proofs.pieces.tab_place.Given as goal

abbrev pub invariant-loop-place : goal.invariant-loop-place
invariant-loop-place l = (k : ℕ) → k < l.place → is_byte 9 (slice_index l.bytes k) ≡ true → ⊥
