use Rattle.std.proofs.Common.{◌∙◌, sym, ap, List, ℕ, ◌++◌, append_assoc}
use Rattle.std.proofs.lemmas.Result.{on_ok_weaker}
use Rattle.rx_paint_reply.specs.Tokens.{token_text, tokens_text, later_tokens_text}
use Rattle.rx_paint_reply.proofs.Written.{tokens_first}
use Rattle.rx_paint_reply.proofs.tokens.add_tokens_text.Goals as goal

pub returns : goal.returns
returns c =
    let first = c.in-Some.first.now in
    let later = c.in-Some.later.now in
    let old = c.args.bytes.now in
    on_ok_weaker c.add_later_tokens.result
    (λ added. added ∙ ap (λ (text : List ℕ). text ++ later_tokens_text later) c.in_ok-add_token.ensures ∙ append_assoc old (token_text first) (later_tokens_text later)
    ∙ ap (λ (text : List ℕ). old ++ text) (sym (ap tokens_text c.in-Some.ensures.cases.0 ∙ tokens_first first later)))
    c.add_later_tokens.ensures
