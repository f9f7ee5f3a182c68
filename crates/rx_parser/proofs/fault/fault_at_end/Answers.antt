use Rattle.std.proofs.Common.{ap, ◌∙◌, ℕ, inl}
use Rattle.rx_parser.proofs.Common.{ParsePatternIncomplete, Diagnostic, Span}
use Rattle.rx_parser.proofs.FrameEvents.{frames_none}
use Rattle.rx_parser.proofs.fault.fault_at_end.Goals as goal

pub returns-in-None : goal.returns-in-None
returns-in-None g c =
    let point : ℕ → Span = λ n. record { start = n; end = n } in
    inl (
      frames_none c.args.builder.now.frames (c.innermost.ensures.none c.in-None.is),
      ap (λ s. Diagnostic (ParsePatternIncomplete s)) (c.empty-span.ensures ∙ ap point c.here-end.ensures),
    )
