use Rattle.std.proofs.Common.{◌≡◌, ◌∙◌, sym, ap, subst, List, ℕ, ◌++◌, OnOk}
use Rattle.std.specs.Str.{encode_utf8_all}
use Rattle.std.proofs.lemmas.Str.{encodes-chars}
use Rattle.rx_run.specs.Reply.{display_reply}
use Rattle.rx_ast.specs.Shown.{pattern_shown}
use Rattle.rx_run.proofs.replies.Replies.add_display.Goals as goal

pub returns-clause-bytes : goal.returns-clause-bytes
returns-clause-bytes c =
    let bytes : c.as_str.result.now ≡ encode_utf8_all (pattern_shown c.args.pattern.now) =
    sym (encodes-chars c.as_str.result.now c.as_str.utf8) ∙ ap encode_utf8_all (c.as_str.ensures ∙ c.in_ok-text.ensures) in
    subst (λ (text : List ℕ). OnOk c.add_text.result (c.add_text.new.self.bytes ≡ c.args.self.now.bytes ++ display_reply c.args.mode text)) bytes c.add_text.ensures.bytes
