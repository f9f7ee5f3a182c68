use Rattle.std.proofs.Common.{codes}
use Rattle.std.proofs.lemmas.Result.{on_ok_weaker}
use Rattle.rx_reply.specs.Places.{span_text}
use Rattle.rx_rewrite_reply.proofs.Parts.{three_added}
use Rattle.rx_rewrite_reply.proofs.replies.add_unsupported.Goals as goal

pub returns : goal.returns
returns c =
    on_ok_weaker c.extend_from_slice-2.result
    (three_added c.args.bytes.now (codes "err\tunsupported\t") (span_text c.args.span) (codes "\n") c.extend_from_slice.new.self c.add_span.new.bytes c.extend_from_slice-2.new.self
    c.in_ok-extend_from_slice.ensures.ok c.in_ok-add_span.ensures)
    c.extend_from_slice-2.ensures.ok
