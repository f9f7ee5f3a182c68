use Rattle.std.proofs.Common.{◌≡◌, ◌∙◌, ◌≤◌, min, ◌-◌, ap, sym, subst, take, length, ◌++◌, List, ℕ, true}
use Rattle.std.proofs.lemmas.Result.{on_ok_weaker}
use Rattle.rx_run.specs.Lines.{lacks}
use Rattle.rx_run.specs.Serving.{line_front}
use Rattle.rx_run.proofs.Lacking.{lacks-append, lacks-take}
use Rattle.rx_run.proofs.Keeping.{kept_grown, kept_grown-bound, from_both}
use Rattle.rx_run.proofs.line.Line.keep.Goals as goal

pub invariant_of-self-clause-one_line : goal.invariant_of-self-clause-one_line
invariant_of-self-clause-one_line c =
    let line = c.args.self.now.bytes in
    let count = c.min-count.result in
    let P : List ℕ → Type 0 = λ x. lacks 10 x ≡ true in
    from_both c.extend_from_slice.result c.extend_from_slice.ensures.ok c.extend_from_slice.ensures.err
    (λ e. subst P (sym e) (lacks-append 10 line (take count c.args.piece.now) c.args.self.now.one_line (lacks-take 10 count c.args.piece.now c.requires)))
    (λ e. subst P (sym e) c.args.self.now.one_line)

pub invariant_of-self-clause-in_bound : goal.invariant_of-self-clause-in_bound
invariant_of-self-clause-in_bound c =
    let line = c.args.self.now.bytes in
    let piece = c.args.piece.now in
    let P : List ℕ → Type 0 = λ x. length x ≤ 1048577 in
    let count : c.min-count.result ≡ min (length piece) (1048577 - length line) = rw (← c.len.ensures) c.min-count.ensures in
    from_both c.extend_from_slice.result c.extend_from_slice.ensures.ok c.extend_from_slice.ensures.err
    (λ e. subst P (sym (e ∙ ap (λ (n : ℕ). line ++ take n piece) count)) (kept_grown-bound 1048577 line piece c.args.self.now.in_bound))
    (λ e. subst P (sym e) c.args.self.now.in_bound)

pub returns-clause-ok : goal.returns-clause-ok
returns-clause-ok c =
    let line = c.args.self.now.bytes in
    let piece = c.args.piece.now in
    let count : c.min-count.result ≡ min (length piece) (1048577 - length line) = rw (← c.len.ensures) c.min-count.ensures in
    let more : line ++ take c.min-count.result piece ≡ line_front (line ++ piece) = ap (λ (n : ℕ). line ++ take n piece) count ∙ kept_grown line piece c.args.self.now.in_bound in
    on_ok_weaker c.extend_from_slice.result (λ (e : c.extend_from_slice.new.self ≡ line ++ take c.min-count.result piece). e ∙ more) c.extend_from_slice.ensures.ok
