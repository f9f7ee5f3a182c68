use Rattle.std.proofs.Common.{◌≡◌, ◌∙◌, ap, sym, subst, [], ◌++◌, List, ℕ, Bool}
use Rattle.std.proofs.KnownBytes.{Appends-nil}
use Rattle.std.proofs.lemmas.Bool.{false≢true}
use Rattle.std.proofs.lemmas.Result.{err_from_is_err_and}
use Rattle.std.specs.Io.KnownBytes.{Appends}
use Rattle.rx_run.specs.Serving.{Ends}
use Rattle.rx_run.proofs.Serving.{ends_nothing, ends_last, halts_nothing, halts_ending}
use Rattle.rx_run.proofs.server.Server.finish.Goals as goal

pub returns-then-is_empty-clause-ok : goal.returns-then-is_empty-clause-ok
returns-then-is_empty-clause-ok g c =
    let old = c.args.self.now in
    let P : Bool → Type 0 = λ ok. Ends (g.R.Replying.answers c.args.with.now) old.line.bytes (g.R.Replying.so_far old.replies) [] ok in
    ([], Appends-nil (g.K.Sink.taken c.args.sink.now), subst P (sym c.are_ok.ensures) (ends_nothing old.line.bytes (g.R.Replying.so_far old.replies) (c.is_empty.ensures.0 c.if-is_empty.true)))

pub returns-in_err-answer-clause-err : goal.returns-in_err-answer-clause-err
returns-in_err-answer-clause-err g c =
    let p = err_from_is_err_and c.from_residual.result c.from_residual.ensures.1 in
    rw (p.1, p.2) ([], Appends-nil (g.K.Sink.taken c.args.sink.now), halts_nothing c.args.self.now.line.bytes [])

pub returns-in_err-write-clause-err : goal.returns-in_err-write-clause-err
returns-in_err-write-clause-err g c =
    let old = c.args.self.now in
    let mid = c.answer.new.self in
    let so_far = g.R.Replying.so_far in
    let r = c.in_ok-answer.ensures.reply in
    let some = λ (none : old.line.bytes ≡ []). false≢true (sym c.if-is_empty.false ∙ c.is_empty.ensures.1 none) in
    let ended : Ends (g.R.Replying.answers c.args.with.now) old.line.bytes (so_far old.replies) r.0 (so_far mid.replies) =
    ends_last c.requires.fronts old.line.bytes r.0 (so_far old.replies) (so_far mid.replies) r.1 old.line.one_line some r.2 r.4 in
    let is : g.R.Replying.waiting mid.replies ≡ r.0 = r.3 ∙ ap (λ (x : List ℕ). x ++ r.0) c.requires.waiting in
    let part = c.in_err-write.ensures.written.part in
    let p = err_from_is_err_and c.from_residual-in_err-write.result c.from_residual-in_err-write.ensures.1 in
    rw (p.1, p.2) (part.front, part.appended, halts_ending part.front part.back ended (sym is ∙ part.cut) part.missing)

pub returns-clause-ok : goal.returns-clause-ok
returns-clause-ok g c =
    let old = c.args.self.now in
    let mid = c.answer.new.self in
    let so_far = g.R.Replying.so_far in
    let r = c.in_ok-answer.ensures.reply in
    let some = λ (none : old.line.bytes ≡ []). false≢true (sym c.if-is_empty.false ∙ c.is_empty.ensures.1 none) in
    let is : g.R.Replying.waiting mid.replies ≡ r.0 = r.3 ∙ ap (λ (x : List ℕ). x ++ r.0) c.requires.waiting in
    let P : List ℕ → Type 0 = λ x. Appends (g.K.Sink.taken c.args.sink.now) (g.K.Sink.taken c.write.new.sink) x in (
      r.0,
      subst P is c.in_ok-write.ensures.written.whole,
      ends_last c.requires.fronts old.line.bytes r.0 (so_far old.replies) c.are_ok-2.result r.1 old.line.one_line some r.2
          (c.are_ok-2.ensures ∙ c.write.ensures.so_far ∙ r.4),
    )
