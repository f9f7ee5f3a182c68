-- How places and spans are written, in bytes.
use Rattle.std.specs.Prelude.{ℕ, List, ◌++◌, codes}
use Rattle.std.specs.Fmt.{decimal}
use Rattle.rx_base.specs.declared.span.Span.{Span}

abbrev pub range_text : ℕ → ℕ → List ℕ
range_text start end = decimal start ++ codes ".." ++ decimal end

abbrev pub span_text : Span → List ℕ
span_text span = range_text span.start span.end
