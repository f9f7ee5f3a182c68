use Rattle.std.proofs.Common.{◌≡◌, ◌∙◌, ap, sym, [], ◌++◌, List, ℕ}
use Rattle.std.proofs.KnownBytes.{Appends-nil}
use Rattle.std.proofs.lemmas.Result.{err_from_is_err_and}
use Rattle.rx_run.proofs.Serving.{halts_nothing, halts_serving}
use Rattle.rx_run.proofs.server.Server.feed.Goals as goal

pub returns-in_err-answer_lines-clause-err : goal.returns-in_err-answer_lines-clause-err
returns-in_err-answer_lines-clause-err g c =
    let p = err_from_is_err_and c.from_residual.result c.from_residual.ensures.1 in
    rw (p.1, p.2) ([], Appends-nil (g.K.Sink.taken c.args.sink.now), halts_nothing c.args.self.now.line.bytes c.args.bytes.now)

pub returns-in_err-write-clause-err : goal.returns-in_err-write-clause-err
returns-in_err-write-clause-err g c =
    let served = c.in_ok-answer_lines.ensures in
    let is : g.R.Replying.waiting c.answer_lines.new.self.replies ≡ served.0 = served.1 ∙ ap (λ (x : List ℕ). x ++ served.0) c.requires.waiting in
    let part = c.in_err-write.ensures.written.part in
    let p = err_from_is_err_and c.from_residual-in_err-write.result c.from_residual-in_err-write.ensures.1 in
    rw (p.1, p.2) (part.front, part.appended, halts_serving part.front part.back served.2 (sym is ∙ part.cut) part.missing)
