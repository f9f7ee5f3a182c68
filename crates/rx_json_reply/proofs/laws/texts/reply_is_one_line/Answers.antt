use Rattle.rx_json_reply.proofs.OneLine.{one_line}
use Rattle.rx_json_reply.proofs.laws.texts.reply_is_one_line.Goals as goal

pub returns : goal.returns
returns c = λ line reply ok is. (is.text, is.line_is, one_line is.answer is.text is.text_is)
