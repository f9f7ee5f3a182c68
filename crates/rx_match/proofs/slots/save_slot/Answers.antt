use Rattle.std.proofs.Common.{suc, ◌≤◌, arith, rules}
use Rattle.rx_match.specs.SavedSlots.{once}
use Rattle.rx_match.proofs.slots.save_slot.Goals as goal

pub returns : goal.returns
returns c =
    let rows = c.last_row.ensures in
    let sum : c.saturating_add-row.result ≤ suc c.last_row.result = search rules in
    once c.kept_frames-frames.result c.saturating_add-row.result c.in_ok-push.ensures.ok c.kept_frames-frames.ensures (omega arith)
