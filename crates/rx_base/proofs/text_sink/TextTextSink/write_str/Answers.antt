use Rattle.std.proofs.Common.{refl, arith}
use Rattle.rx_base.proofs.Texts.{encodes_grown}
use Rattle.rx_base.proofs.text_sink.TextTextSink.write_str.Goals as goal

pub returns-in-Ok : goal.returns-in-Ok
returns-in-Ok c = record {
  whole = encodes_grown c.args.self.now c.push_str.new.self c.args.text.now c.utf8.text c.in-Ok.ensures.ok;
  part = tt;
  kept = refl;
  cause = record { later = omega arith; failed = tt; same = refl };
}
