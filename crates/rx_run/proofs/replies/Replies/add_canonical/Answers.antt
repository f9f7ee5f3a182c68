use Rattle.std.proofs.lemmas.Result.{on_ok_weaker}
use Rattle.rx_ast.specs.Forget.{bare}
use Rattle.rx_model.specs.Spelling.Spelling.{spelling}
use Rattle.rx_run.proofs.Answering.{canonical_reply_added}
use Rattle.rx_run.proofs.replies.Replies.add_canonical.Goals as goal

pub returns-clause-bytes : goal.returns-clause-bytes
returns-clause-bytes c =
    on_ok_weaker c.extend_from_slice-2.result
    (canonical_reply_added c.args.self.now.bytes c.extend_from_slice.new.self c.append_canonical.new.bytes c.extend_from_slice-2.new.self
    (spelling (bare c.args.pattern.now) c.args.mode) c.args.mode
    (rw (c.as_bytes.ensures.value, c.ok_front.ensures) at c.in_ok-extend_from_slice.ensures.ok) c.in_ok-append_canonical.ensures)
    c.extend_from_slice-2.ensures.ok
