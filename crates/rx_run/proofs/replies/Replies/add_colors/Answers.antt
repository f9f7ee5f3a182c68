use Rattle.std.proofs.Common.{ap, sym, ◌∙◌, List, ℕ, ◌++◌}
use Rattle.std.proofs.lemmas.Result.{on_ok_weaker}
use Rattle.rx_ast.specs.Tree.{mirror}
use Rattle.rx_paint.specs.Runs.{pattern_tokens}
use Rattle.rx_paint_reply.specs.Colors.{color_reply}
use Rattle.rx_paint_reply.proofs.Nesting.{text_encoded}
use Rattle.rx_run.proofs.replies.Replies.add_colors.Goals as goal

pub returns-clause-bytes : goal.returns-clause-bytes
returns-clause-bytes c = on_ok_weaker c.add_colors.result
    (λ added. added ∙ ap (λ (text : List ℕ). c.args.self.now.bytes ++ color_reply text (pattern_tokens (mirror c.args.pattern.now))) (sym (text_encoded c.args.text.now c.utf8.text)))
    c.add_colors.ensures
