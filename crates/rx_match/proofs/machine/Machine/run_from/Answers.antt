use Rattle.std.proofs.Common.{refl, ap, false}
use Rattle.std.proofs.lemmas.Result.{IfOk-weaker}
use Rattle.rx_match.specs.declared.machine.Machine.{Machine}
use Rattle.rx_match.specs.Runs.{visible}
use Rattle.rx_match.proofs.Starts.{sound_start, start_is, ran_from}
use Rattle.rx_match.proofs.machine.Machine.run_from.Goals as goal

pub run-requires : goal.run-requires
run-requires c =
    let m : Machine = record c.args.self.now { frames = c.clear_frames.new.frames; entries = c.clear_entries.new.entries; slots = c.unset.new.slots; saved = c.fill.new.saved; place = c.args.place; step = c.args.entry; head = 0; back = false; depth = 0 } in
    sound_start m c.requires.ordered c.requires.within c.clear_frames.ensures c.clear_entries.ensures refl refl

pub returns : goal.returns
returns c =
    let m : Machine = record c.args.self.now { frames = c.clear_frames.new.frames; entries = c.clear_entries.new.entries; slots = c.unset.new.slots; saved = c.fill.new.saved; place = c.args.place; step = c.args.entry; head = 0; back = false; depth = 0 } in
    IfOk-weaker c.run.result _ _ (λ it ran. ran_from c.args.self.now m c.run.new.self _ (ap visible (start_is m c.args.groups c.clear_entries.ensures refl c.in_ok-unset.ensures)) refl refl refl it ran) c.run.ensures
