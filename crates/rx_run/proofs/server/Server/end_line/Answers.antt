use Rattle.std.proofs.Common.{refl}
use Rattle.std.proofs.lemmas.Result.{on_ok_weaker}
use Rattle.rx_run.proofs.Serving.{serves_whole, serves_end, on_ok_both}
use Rattle.rx_run.proofs.server.Server.end_line.Goals as goal

pub returns-then-is_empty : goal.returns-then-is_empty
returns-then-is_empty g c =
    let old = c.args.self.now in
    let so_far = g.R.Replying.so_far in
    on_ok_weaker c.add.result
    (λ r. (
      r.0,
      r.3,
      serves_whole c.requires.fronts old.line.bytes c.args.piece.now r.0 (so_far old.replies) (so_far c.add.new.self) r.1
          (c.is_empty.ensures.0 c.if-is_empty.true) c.requires.piece r.2 r.4,
    ))
    c.add.ensures

pub returns : goal.returns
returns g c =
    let old = c.args.self.now in
    let new = c.answer.new.self in
    let so_far = g.R.Replying.so_far in
    on_ok_both c.answer.result c.answer.ensures.reply c.answer.ensures.line
    (λ r none. (
      r.0,
      r.3,
      serves_end c.requires.fronts old.line.bytes c.args.piece.now c.keep.new.self.bytes r.0 new.line.bytes
          (so_far old.replies) (so_far old.replies) (so_far new.replies) r.1
          old.line.one_line c.requires.piece c.in_ok-keep.ensures.ok refl r.2 none r.4,
    ))
