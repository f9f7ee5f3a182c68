use Rattle.std.proofs.Common.{◌≤◌, ◌∙◌, sym, subst, List, ℕ, length}
use Rattle.std.proofs.lemmas.List.Elements.{All-same}
use Rattle.rx_ast.specs.Tree.{mirror}
use Rattle.rx_paint.specs.declared.token.Token.{Token}
use Rattle.rx_paint.specs.Runs.{pattern_tokens}
use Rattle.rx_paint.proofs.Patterns.{pattern_tile}
use Rattle.rx_paint_reply.proofs.Spans.{tiles_forward, tiles_within}
use Rattle.rx_paint_reply.proofs.replies.add_colors.Goals as goal

pub add_text_in_color-requires-clause-forward : goal.add_text_in_color-requires-clause-forward
add_text_in_color-requires-clause-forward c =
    let p = mirror c.args.pattern.now in
    All-same (λ (t : Token). t.span.start ≤ t.span.end) c.as_slice.result.now (pattern_tokens p) (c.as_slice.ensures ∙ c.in_ok-tokens.ensures)
    (tiles_forward (pattern_tokens p) p.0.start p.0.end (pattern_tile p c.requires.nested))

pub add_text_in_color-requires-clause-within : goal.add_text_in_color-requires-clause-within
add_text_in_color-requires-clause-within c =
    let p = mirror c.args.pattern.now in
    let most = length c.as_bytes.result.now in
    All-same (λ (t : Token). t.span.end ≤ most) c.as_slice.result.now (pattern_tokens p) (c.as_slice.ensures ∙ c.in_ok-tokens.ensures)
    (tiles_within most (pattern_tokens p) p.0.start p.0.end (subst (λ (bytes : List ℕ). p.0.end ≤ length bytes) (sym (c.as_bytes.ensures.value ∙ c.literal_text-text.ensures)) c.requires.within)
    (pattern_tile p c.requires.nested))
