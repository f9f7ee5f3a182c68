use Rattle.std.proofs.Common.{[], true, refl}
use Rattle.std.proofs.lemmas.Result.{err_from_is_err_and}
use Rattle.rx_run.proofs.Progresses.{progress_start, progress_halts, progress_stops, progress_ends, reads_nothing}
use Rattle.rx_run.proofs.run.serve.Goals as goal

pub returns-in_err-input-clause-content : goal.returns-in_err-input-clause-content
returns-in_err-input-clause-content g c =
    let left = g.S.Source.left c.args.source.now in
    let drawn = g.S.Source.drawn c.args.source.now in
    let p = err_from_is_err_and c.from_residual.result c.from_residual.ensures.1 in
    rw (p.1, p.2) (progress_stops (progress_start left (g.K.Sink.taken c.args.sink.now) drawn [] true refl refl) c.requires.fronts [] (reads_nothing left drawn))

pub returns-in_err-all_ok-clause-content : goal.returns-in_err-all_ok-clause-content
returns-in_err-all_ok-clause-content g c =
    let source = c.feed_all.new.source in
    let p = err_from_is_err_and c.from_residual-in_err-all_ok.result c.from_residual-in_err-all_ok.ensures.1 in
    rw (p.1, p.2) (progress_halts (g.K.Sink.taken c.finish.new.sink) c.in_ok-feed_all.ensures.ok c.requires.fronts [] _
    (reads_nothing (g.S.Source.left source) (g.S.Source.drawn source)) c.in_err-all_ok.ensures.err)

pub returns-clause-content : goal.returns-clause-content
returns-clause-content g c =
    let source = c.feed_all.new.source in
    progress_ends (g.K.Sink.taken c.finish.new.sink) c.in_ok-feed_all.ensures.ok c.requires.fronts c.in_ok-all_ok.all_ok
    (reads_nothing (g.S.Source.left source) (g.S.Source.drawn source)) c.in_ok-all_ok.ensures.ok
