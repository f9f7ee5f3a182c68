use Rattle.std.proofs.Common.{◌∙◌, arith}
use Rattle.std.specs.Str.{chars}
use Rattle.std.proofs.lemmas.Result.{on_ok_weaker}
use Rattle.rx_ast.specs.Tree.{mirror}
use Rattle.rx_match_reply.proofs.AnswerReplies.{ticks_replied}
use Rattle.rx_match_reply.proofs.replies.add_ticks.Goals as goal

pub returns : goal.returns
returns c =
    on_ok_weaker c.add_count.result
    (ticks_replied c.args.flags (chars c.args.text.now) (mirror c.args.pattern.now) c.as_slice.result.now _ c.args.most c.args.bytes.now c.add_count.new.bytes
    (c.as_slice.ensures ∙ c.in_ok-units.ensures) (omega arith) c.ticks_of_search-ticks.result c.ticks_of_search-ticks.ensures)
    c.add_count.ensures
