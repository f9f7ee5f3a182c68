use Rattle.std.proofs.Common.{◌≡◌, ◌∙◌, sym, ap, ◌&&◌}
use Rattle.rx_json_reply.proofs.Replying.{reply_made}
use Rattle.rx_json_reply.proofs.replies.Replies.add.Goals as goal
use Rattle.rx_json_reply.proofs.replies.Replies.add.Goals.{then-self, else-self}

pub returns-clause-added : goal.returns-clause-added
returns-clause-added c =
    let start = c.args.self.now.bytes.items in
    let written = c.in_ok-is_ok.ensures in
    let ok = c.in_ok-is_ok.is_ok in
    let before : c.new-writer.result.before ≡ start = cc (c.new-writer.ensures.before, c.replace-bytes.ensures.value) in
    let made = reply_made c.args.line.now written.0 ok c.new-writer.result c.write_reply.new.writer start c.into_inner-bytes.result.items written.1 before c.new-writer.ensures.tokens written.2 c.into_inner-bytes.ensures.items c.into_inner-bytes.ensures.reads_back in
    let all : c.if-self.self ≡ (c.args.self.now.all_ok && ok) = elim c.if-self.branch [
      | then-self w ↦ w.self-is ∙ sym (ap (λ all. all && ok) w.if-self.true)
      | else-self w ↦ w.self-is ∙ w.if-self.false ∙ sym (ap (λ all. all && ok) w.if-self.false)
    ] in
    (made.0, ok, made.1, c.in_ok-push.ensures.items ∙ made.2, all)
