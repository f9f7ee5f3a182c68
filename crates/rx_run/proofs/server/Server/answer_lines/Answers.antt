use Rattle.std.proofs.Common.{◌≡◌, [], refl, sym, ◌++◌}
use Rattle.std.proofs.lemmas.List.{append-nil}
use Rattle.std.proofs.lemmas.Result.{on_ok_weaker}
use Rattle.rx_run.specs.Serving.{line_front}
use Rattle.rx_run.proofs.Serving.{serves_lines_more, serves_lines_last, serves_nothing}
use Rattle.rx_run.proofs.server.Server.answer_lines.Goals as goal

pub lines-init : goal.lines-init
lines-init g c =
    let old = c.args.self.now in
    ([], [], refl, sym (append-nil (g.R.Replying.waiting old.replies)), serves_nothing old.line.bytes (g.R.Replying.so_far old.replies))

pub lines-preserved : goal.lines-preserved
lines-preserved g c =
    let i = c.lines.invariant in
    let old = c.args.self.now in
    let mid = c.lines.self in
    let new = c.end_line.new.self in
    let ended = c.in_ok-end_line.ensures in
    let waiting = g.R.Replying.waiting in
    let so_far = g.R.Replying.so_far in
    serves_lines_more (waiting old.replies) (waiting mid.replies) (waiting new.replies)
    c.args.bytes.now i.0 i.1 c.lines.rest.now c.in-Some.piece.now c.in-Some.after.now ended.0
    old.line.bytes mid.line.bytes new.line.bytes (so_far old.replies) (so_far mid.replies) (so_far new.replies)
    i.2 i.3 i.4 c.in-Some.ensures.0 ended.1 ended.2

pub returns : goal.returns
returns g c =
    let i = c.lines.invariant in
    let old = c.args.self.now in
    let mid = c.lines.self in
    let waiting = g.R.Replying.waiting in
    let so_far = g.R.Replying.so_far in
    on_ok_weaker c.keep.result
    (λ (e : c.keep.new.self.bytes ≡ line_front (mid.line.bytes ++ c.lines.rest.now)).
    serves_lines_last (waiting old.replies) (waiting mid.replies) c.args.bytes.now i.0 i.1 c.lines.rest.now
    old.line.bytes mid.line.bytes c.keep.new.self.bytes (so_far old.replies) (so_far mid.replies) (so_far mid.replies)
    i.2 i.3 i.4 mid.line.one_line c.in_default.ensures e refl)
    c.keep.ensures.ok
