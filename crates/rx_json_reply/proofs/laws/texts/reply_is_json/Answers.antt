use Rattle.std.proofs.Common.{arith}
use Rattle.json.specs.Tree.{depth}
use Rattle.rx_json_reply.proofs.laws.texts.reply_is_json.Goals as goal

pub returns : goal.returns
returns c = λ line reply ok is. (is.answer, is.text, is.answers, is.line_is, is.text_is.reads (depth is.answer) (omega arith))
