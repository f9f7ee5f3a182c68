use Rattle.std.proofs.Common.{◌∙◌, [], ℕ, take, ap, subst, arith, refl, Err, Option}
use Rattle.std.proofs.KnownBytes.{Appends-nil}
use Rattle.std.proofs.lemmas.Result.{err_from_is_err_and}
use Rattle.rx_base.specs.FaultCounts.{Rose}
use Rattle.rx_run.specs.Limits.{IsPast, most_read}
use Rattle.rx_run.specs.Outcome.{Reads}
use Rattle.rx_run.proofs.Faults.{tells_input, tells_reply}
use Rattle.rx_run.proofs.Limits.{starts_within, stopped_input, stopped_within}
use Rattle.rx_run.proofs.Progresses.{progress_start, progress_more, progress_halts, progress_stops}
use Rattle.rx_run.proofs.Serving.{serves_nothing}
use Rattle.rx_run.proofs.run.feed_all.Goals as goal

pub chunks-init : goal.chunks-init
chunks-init g c =
    let left = g.S.Source.left c.args.source.now in
    let drawn = g.S.Source.drawn c.args.source.now in
    let server = c.args.server.now in
    record {
      content = progress_start left (g.K.Sink.taken c.args.sink.now) drawn server.line.bytes (g.R.Replying.so_far server.replies) c.requires.line c.requires.so_far;
      waiting = c.requires.waiting;
      limit = refl;
      within = starts_within drawn c.args.input.now.limit;
      counted = omega arith;
      fixed = refl;
      source = refl;
      sink = refl;
    }

pub returns-in_err-count-clause-err : goal.returns-in_err-count-clause-err
returns-in_err-count-clause-err g c =
    let came = c.in_err-count.ensures.err in
    let p = err_from_is_err_and c.from_residual.result c.from_residual.ensures.1 in
    rw (p.1, p.2) (progress_stops c.chunks.invariant.content c.requires.fronts came.0 came.1)

pub returns-in_err-count-clause-faults : goal.returns-in_err-count-clause-faults
returns-in_err-count-clause-faults g c =
    let p = err_from_is_err_and c.from_residual.result c.from_residual.ensures.1 in
    let fill = c.in_err-count.ensures in
    let at = c.chunks.invariant in
    let faults' = g.S.Source.faults c.fill.new.source in
    let P : ℕ → Type 0 = λ n. Rose n faults' in
    tells_input c.from_residual.result _ (p.1 ∙ ap Err p.2) at.fixed at.sink
    (λ is. subst P at.source (fill.read (ap Err is)).1) (λ other. fill.same (λ is. other (cc)) ∙ at.source)

pub returns-in_err-count-clause-too_much : goal.returns-in_err-count-clause-too_much
returns-in_err-count-clause-too_much g c =
    let p = err_from_is_err_and c.from_residual.result c.from_residual.ensures.1 in
    let fill = c.in_err-count.ensures in
    let at = c.chunks.invariant in
    let drawn' = g.S.Source.drawn c.fill.new.source in
    let P : Option ℕ → Type 0 = λ most. IsPast most drawn' in
    stopped_input (most_read (g.S.Source.drawn c.args.source.now) c.args.input.now.limit) (g.S.Source.drawn c.chunks.source) drawn' c.from_residual.result _ (p.1 ∙ ap Err p.2) at.within
    (λ is. (fill.read (ap Err is)).0) (λ is. subst P at.limit (fill.too_much (ap Err is)))

pub returns-then-count-eq0-clause-ok : goal.returns-then-count-eq0-clause-ok
returns-then-count-eq0-clause-ok g c =
    let server = c.chunks.server in
    let P : ℕ → Type 0 = λ n. Reads (g.S.Source.left c.chunks.source) (g.S.Source.left c.fill.new.source)
    (g.S.Source.drawn c.chunks.source) (g.S.Source.drawn c.fill.new.source) (take n c.fill.new.self.buffer.items) in
    let none = subst P c.if-count-eq0.true c.in_ok-count.ensures.ok.1 in
    progress_more (g.K.Sink.taken c.chunks.sink) c.chunks.invariant.content [] server.line.bytes (g.R.Replying.so_far server.replies) none
    ([], Appends-nil (g.K.Sink.taken c.chunks.sink), serves_nothing server.line.bytes (g.R.Replying.so_far server.replies))

pub chunks-preserved : goal.chunks-preserved
chunks-preserved g c =
    let fill = c.in_ok-count.ensures in
    let ok = fill.ok in
    let at = c.chunks.invariant in
    let server = c.feed.new.self in
    let drawn' = g.S.Source.drawn c.fill.new.source in
    let P : Option ℕ → Type 0 = λ most. ¬ IsPast most drawn' in
    record {
      content = progress_more (g.K.Sink.taken c.feed.new.sink) at.content c.bytes.result.now server.line.bytes (g.R.Replying.so_far server.replies)
          (rw c.bytes.ensures ok.1) c.in_ok-feed.ensures.ok;
      waiting = c.in_ok-feed.ensures.done;
      limit = fill.limit ∙ at.limit;
      within = subst P at.limit fill.within;
      counted = omega (arith, ok.2, at.counted, c.if-count-eq0.false);
      fixed = c.feed.ensures.fixed ∙ at.fixed;
      source = fill.same (λ is. cc) ∙ at.source;
      sink = c.in_ok-feed.ensures.same (λ is. cc) ∙ at.sink;
    }

pub returns-in_err-feed-clause-err : goal.returns-in_err-feed-clause-err
returns-in_err-feed-clause-err g c =
    let p = err_from_is_err_and c.from_residual-in_err-feed.result c.from_residual-in_err-feed.ensures.1 in
    rw (p.1, p.2) (progress_halts (g.K.Sink.taken c.feed.new.sink) c.chunks.invariant.content c.requires.fronts c.bytes.result.now _
    (rw c.bytes.ensures c.in_ok-count.ensures.ok.1) c.in_err-feed.ensures.err)

pub returns-in_err-feed-clause-faults : goal.returns-in_err-feed-clause-faults
returns-in_err-feed-clause-faults g c =
    let p = err_from_is_err_and c.from_residual-in_err-feed.result c.from_residual-in_err-feed.ensures.1 in
    let fill = c.in_ok-count.ensures in
    let feed = c.in_err-feed.ensures in
    let at = c.chunks.invariant in
    let faults' = g.K.Sink.faults c.feed.new.sink in
    let P : ℕ → Type 0 = λ n. Rose n faults' in
    tells_reply c.from_residual-in_err-feed.result _ (p.1 ∙ ap Err p.2) (c.feed.ensures.fixed ∙ at.fixed) (fill.same (λ is. cc) ∙ at.source)
    (λ is. subst P at.sink (feed.write (ap Err is))) (λ other. feed.same (λ is. other (cc)) ∙ at.sink)

pub returns-in_err-feed-clause-too_much : goal.returns-in_err-feed-clause-too_much
returns-in_err-feed-clause-too_much g c =
    let p = err_from_is_err_and c.from_residual-in_err-feed.result c.from_residual-in_err-feed.ensures.1 in
    let at = c.chunks.invariant in
    let drawn' = g.S.Source.drawn c.fill.new.source in
    let P : Option ℕ → Type 0 = λ most. ¬ IsPast most drawn' in
    stopped_within (most_read (g.S.Source.drawn c.args.source.now) c.args.input.now.limit) drawn' c.from_residual-in_err-feed.result
    (λ is. cc (p.1, p.2, is)) (subst P at.limit c.in_ok-count.ensures.within)
