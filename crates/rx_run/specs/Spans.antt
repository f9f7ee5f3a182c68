-- How the spans of a refusal are written, in bytes.
use Rattle.std.specs.Prelude.{ℕ, List, [], ◌++◌, codes, Option, Some, None}
use Rattle.rx_base.specs.declared.span.Span.{Span}
use Rattle.rx_base.specs.declared.diagnostic.Diagnostic.{Diagnostic}
use Rattle.rx_base.specs.Diagnostic.{first_span_of, second_span_of}
use Rattle.rx_reply.specs.Places.{span_text}

-- a comma and the second span, if there is one
abbrev pub second_text : Option Span → List ℕ
second_text None = []
second_text (Some span) = codes "," ++ span_text span

abbrev pub spans_text : Diagnostic → List ℕ
spans_text cause = span_text (first_span_of cause) ++ second_text (second_span_of cause)
