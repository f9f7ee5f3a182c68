use Rattle.std.proofs.Common.{◌≡◌, get_or, rules}
use Rattle.rx_match.proofs.SavedSlots.{restored_set}
use Rattle.rx_match.proofs.slots.set_slot.Goals as goal

pub returns-in_ok-save_slot-clause-restored : goal.returns-in_ok-save_slot-clause-restored
returns-in_ok-save_slot-clause-restored c =
    let had : c.index-old.result.now ≡ get_or c.args.slots.now.items c.args.slot c.index-old.result.now = search rules in
    restored_set c.args.entries.now c.save_slot.new.entries c.args.slots.now.items c.args.slot c.index-old.result.now c.args.new c.index-old.result.now c.requires c.in_ok-save_slot.ensures had
