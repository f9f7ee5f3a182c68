use Rattle.std.proofs.Common.{◌∙◌, arith}
use Rattle.std.specs.Str.{chars}
use Rattle.std.proofs.lemmas.Result.{on_ok_weaker}
use Rattle.rx_ast.specs.Tree.{mirror}
use Rattle.rx_match_reply.proofs.AnswerReplies.{match_replied}
use Rattle.rx_match_reply.proofs.replies.add_match.Goals as goal

pub returns : goal.returns
returns c =
    on_ok_weaker c.add_answer.result
    (match_replied c.args.flags (chars c.args.text.now) (mirror c.args.pattern.now) c.as_slice.result.now _ c.args.budget c.args.bytes.now c.add_answer.new.bytes
    (c.as_slice.ensures ∙ c.in_ok-units.ensures) (omega arith) c.search-answer.result c.search-answer.ensures)
    c.add_answer.ensures
