use Rattle.std.proofs.Common.{subst}
use Rattle.rx_base.specs.declared.span.Span.{Span}
use Rattle.rx_ast.specs.Tree.{mirror}
use Rattle.rx_model.specs.Inputs.Texts.{literal_text}
use Rattle.rx_paint.specs.Runs.{Tile, pattern_tokens}
use Rattle.rx_paint.proofs.Patterns.{pattern_tile}
use Rattle.rx_paint_reply.proofs.Nesting.{read_nested, read_span}
use Rattle.rx_paint_reply.proofs.Shown.{reply_outside}
use Rattle.rx_paint_reply.proofs.laws.literal_stands_between_escapes.Goals as goal

pub returns : goal.returns
returns c input mode p bytes utf8 is literal start read =
    let ts = pattern_tokens (mirror p) in
    let tile : Tile p.span.start p.span.end ts = pattern_tile (mirror p) (read_nested input mode p bytes utf8 is read) in
    reply_outside (literal_text bytes) ts (subst (λ (s : Span). Tile s.start s.end ts) (read_span input mode p bytes utf8 is literal start read) tile)
