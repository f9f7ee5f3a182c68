use Rattle.std.proofs.Common.{◌≡◌, ◌≤◌, ◌+◌, []}
use Rattle.rx_run.specs.Limits.{IsPast, most_read}
use Rattle.rx_run.specs.Serving.{Progress}
use Rattle.rx_run.proofs.run.feed_all.Given as goal

abbrev pub invariant-chunks : goal.invariant-chunks
invariant-chunks g l = record {
  content : Progress (g.R.Replying.answers l.fn.with) (g.S.Source.left l.fn.source) (g.S.Source.left l.source) (g.S.Source.drawn l.fn.source) (g.S.Source.drawn l.source)
      (g.K.Sink.taken l.fn.sink) (g.K.Sink.taken l.sink) l.server.line.bytes (g.R.Replying.so_far l.server.replies);
  waiting : g.R.Replying.waiting l.server.replies ≡ [];
  limit : most_read (g.S.Source.drawn l.source) l.input.limit ≡ most_read (g.S.Source.drawn l.fn.source) l.fn.input.limit;
  within : ¬ IsPast (most_read (g.S.Source.drawn l.fn.source) l.fn.input.limit) (g.S.Source.drawn l.source);
  counted : g.S.Source.drawn l.fn.source + l.counter ≤ g.S.Source.drawn l.source;
  fixed : g.K.Sink.fixed l.sink ≡ g.K.Sink.fixed l.fn.sink;
  source : g.S.Source.faults l.source ≡ g.S.Source.faults l.fn.source;
  sink : g.K.Sink.faults l.sink ≡ g.K.Sink.faults l.fn.sink;
}
