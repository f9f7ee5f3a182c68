use Rattle.rx_run.proofs.Answering.{judged_start, judged}
use Rattle.rx_run.proofs.replies.Replies.add_rewritten.Goals as goal

pub judge_from-requires : goal.judge_from-requires
judge_from-requires c = judged_start c.args.self.now.bytes c.add_rewritten.new.bytes _ c.len-start.ensures c.in_ok-add_rewritten.ensures

pub returns : goal.returns
returns c = judged c.args.self.now.bytes c.add_rewritten.new.bytes _ _ _ _ c.len-start.ensures c.in_ok-add_rewritten.ensures c.judge_from.ensures.bytes c.judge_from.ensures.all_ok
