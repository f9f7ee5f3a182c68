-- A reading that goes on.
use Rattle.std.proofs.Common.{◌≡◌, ℕ, ◌+◌, ◌^◌, ◌<◌, ap, ◌∙◌, subst, sym}
use Rattle.rx_class.proofs.Common.{Span, IsAfterBackslash, span_to, ReadsOn}
use Rattle.rx_class.specs.declared.reading.Reading.{Reading}
use Rattle.rx_class.proofs.Fitting.{start_fits as fits_before}

module _ {S C U : Type 0} {s : _} {u : _} {old new : Reading S C U s u} (on : ReadsOn old new) where
  -- Its spans have the same offset added.
  pub span_on : (start : ℕ) {span : Span} → span ≡ span_to new.spans.now start new.reader.now → span ≡ span_to old.spans.now start new.reader.now
  span_on start is = is ∙ ap (λ added. span_to added start new.reader.now) on.spans

  -- The offset before the backslash fits.
  pub start_fits : (start : ℕ) → IsAfterBackslash old.reader.now start → start + new.spans.now < 2 ^ 32
  start_fits start is = subst (λ added. start + added < 2 ^ 32) (sym on.spans) (fits_before old.spans.now start old.reader.now old.fits is)

  pub reads_on : {later : Reading S C U s u} → ReadsOn new later → ReadsOn old later
  reads_on more = record { reader = more.reader ∙ on.reader; steps = more.steps ∙ on.steps; state = more.state ∙ on.state; spans = more.spans ∙ on.spans }
