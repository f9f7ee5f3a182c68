use Rattle.std.proofs.Common.{◌≡◌, ◌≢◌, [], ◌⊎◌, inl, inr, subst, sym, ◌∙◌}
use Rattle.rx_class.proofs.Common.{IfOk-weaker, values, values_length, HasRun}
use Rattle.rx_class.proofs.PropertyReading.Runs.{no_units, some_units}
use Rattle.rx_class.proofs.PropertyReading.Halts.{run_unterminated}
use Rattle.rx_class.proofs.PropertyReading.Steps.{closed_by}
use Rattle.rx_class.proofs.properties.found.run_found.Goals.{then-is_empty-via-then-is_empty, then-is_empty-via-else-is_empty+then-is_empty-2}
use Rattle.rx_class.proofs.properties.found.run_found.Goals as goal

pub returns-then-is_empty-clause-found : goal.returns-then-is_empty-clause-found
returns-then-is_empty-clause-found g c = λ w r.
    let short : (values c.args.run.units ≡ []) ⊎ (values c.args.run.following ≡ []) = elim c.then-is_empty.branch [
      | then-is_empty-via-then-is_empty b ↦ inl (no_units c.args.run.units (sym c.is_empty.ensures ∙ b.if-is_empty.true))
      | then-is_empty-via-else-is_empty+then-is_empty-2 b ↦ inr (no_units c.args.run.following (sym b.is_empty-else-is_empty.ensures ∙ b.if-is_empty-2.true))
    ] in
    rw c.unterminated.ensures (run_unterminated c.args.mode c.requires.unicode c.args.negative w (values c.args.run.units) (values c.args.run.following) r _ (c.len-count.ensures.value ∙ sym (values_length c.args.run.units)) short)

pub word_found-requires-clause-some : goal.word_found-requires-clause-some
word_found-requires-clause-some g c = subst (λ word. word ≢ []) (sym c.in_ok-word.ensures.text) (some_units c.args.run.units (sym c.is_empty.ensures ∙ c.if-is_empty.false))

pub word_found-requires-clause-count : goal.word_found-requires-clause-count
word_found-requires-clause-count g c = rw c.in_ok-word.ensures.text (c.len-count.ensures.value ∙ sym (values_length c.args.run.units))

pub returns-clause-found : goal.returns-clause-found
returns-clause-found g c =
    IfOk-weaker c.word_found.result _ _ (λ found h w r. h w (values c.args.run.following) (subst (λ word. HasRun w word (values c.args.run.following)) (sym c.in_ok-word.ensures.text) r)
    (some_units c.args.run.following (sym c.is_empty-else-is_empty.ensures ∙ c.if-is_empty-2.false)) c.is_closed.ensures) c.word_found.ensures.found

pub returns-clause-closed : goal.returns-clause-closed
returns-clause-closed g c = closed_by (values c.args.run.following) c.len-count.ensures.value c.is_closed.ensures c.word_found.result c.word_found.ensures.closed
