use Rattle.std.proofs.Common.{sym, ◌∙◌}
use Rattle.std.proofs.lemmas.Result.{on_ok_weaker}
use Rattle.rx_ast.specs.Tree.{mirror}
use Rattle.rx_rewrite_reply.specs.Replies.{unsupported, unsupported_reply}
use Rattle.rx_rewrite_reply.proofs.AnswerReplies.{rewrite_replied}
use Rattle.rx_rewrite_reply.proofs.replies.add_rewritten.Goals as goal

pub returns-in-Some : goal.returns-in-Some
returns-in-Some c =
    on_ok_weaker c.add_unsupported.result
    (λ added. (unsupported_reply c.in-Some.span, unsupported c.in-Some.span (sym c.in_ok-left.ensures ∙ c.in-Some.is), added))
    c.add_unsupported.ensures

pub returns : goal.returns
returns c =
    on_ok_weaker c.add_answer.result
    (rewrite_replied c.args.rewriting.wanted c.args.rewriting.letters.now c.args.rewriting.mode (mirror c.args.pattern.now) c.rewrites.result c.match_flags-flags.result c.args.bytes.now c.add_answer.new.bytes
    c.rewrites.ensures c.match_flags-flags.ensures.flags (sym c.in_ok-left.ensures ∙ c.in_default.is) c.rewrite-answer.result c.rewrite-answer.ensures.rewritten)
    c.add_answer.ensures
