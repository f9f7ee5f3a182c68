use Rattle.std.proofs.Common.{refl, sym, ap, ◌∙◌, arith, [], inr, append-nil}
use Rattle.std.specs.Char.{encode_utf8}
use Rattle.std.specs.Str.{encode_utf8_all}
use Rattle.rx_base.proofs.Texts.{encodes_pushed, bytes_of_one}
use Rattle.rx_base.proofs.text_sink.TextTextSink.write_char.Goals as goal

pub returns-in-Ok : goal.returns-in-Ok
returns-in-Ok c = record {
  whole = encodes_pushed c.args.self.now c.push.new.self c.args.c c.in-Ok.ensures.ok;
  part = tt;
  kept = refl;
  cause = record { later = omega arith; failed = tt; same = refl };
}

pub returns-in-Err : goal.returns-in-Err
returns-in-Err c = record {
  whole = tt;
  part = record {
    front = [];
    back = encode_utf8 c.args.c;
    cut = refl;
    missing = bytes_of_one c.args.c;
    appended = ap encode_utf8_all c.in-Err.ensures.err ∙ sym (append-nil (encode_utf8_all c.args.self.now));
  };
  kept = refl;
  cause = record { later = omega arith; failed = inr refl; same = tt };
}
