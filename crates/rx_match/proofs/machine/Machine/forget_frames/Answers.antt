use Rattle.std.proofs.Common.{◌≤◌, ap, sym, length, arith}
use Rattle.std.proofs.Math.Seq.{take-length}
use Rattle.rx_match.specs.Sound.{frames_below_last}
use Rattle.rx_match.proofs.Entries.{placed-kept}
use Rattle.rx_match.proofs.machine.Machine.forget_frames.Goals as goal

pub returns-then-kept-len : goal.returns-then-kept-len
returns-then-kept-len c =
    let m = c.args.self.now in
    let kept = c.max-kept.ensures in
    let needed = c.kept_frames.ensures in
    let size = c.len.ensures in
    let few = c.if-kept-len.true in
    let enough : frames_below_last m.entries ≤ c.max-kept.result = omega arith in
    record {
      kept = c.max-kept.result;
      shape = ap (λ fs. record m { frames = fs }) c.cut_frames.ensures;
      within = omega arith;
      head = omega arith;
      placed = placed-kept (length m.input.now) (length m.frames) c.max-kept.result m.entries enough c.requires.placed;
    }

pub returns-else-kept-len : goal.returns-else-kept-len
returns-else-kept-len c =
    let m = c.args.self.now in
    record {
      kept = length m.frames;
      shape = ap (λ fs. record m { frames = fs }) (sym (take-length m.frames));
      within = omega arith;
      head = c.requires.head;
      placed = c.requires.placed;
    }
