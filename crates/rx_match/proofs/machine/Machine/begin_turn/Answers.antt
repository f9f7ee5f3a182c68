use Rattle.std.proofs.Common.{length}
use Rattle.rx_match.proofs.RepetitionTurns.{sound_restored, takes_begin}
use Rattle.rx_match.proofs.machine.Machine.begin_turn.Goals as goal

pub push_frame-requires : goal.push_frame-requires
push_frame-requires c = sound_restored c.args.self.now c.unset_slots.new.entries c.unset_slots.new.slots c.unset_slots.new.saved c.requires.sound c.in_ok-unset_slots.ensures.restored

pub returns : goal.returns
returns c =
    takes_begin c.args.self.now c.push_frame.new.self c.unset_slots.new.entries c.unset_slots.new.slots c.unset_slots.new.saved c.args.it.repeat c.args.it.parts.turns c.args.it.parts.body c.args.it.parts.next c.args.it.min c.args.it.max c.requires.sound c.requires.step
    c.in_ok-unset_slots.ensures.restored c.in_ok-unset_slots.ensures.slots c.in_ok-push_frame.ensures

pub unset_slots-requires : goal.unset_slots-requires
unset_slots-requires c = let m = c.args.self.now in (length m.input.now, length m.frames, c.requires.sound.placed)
