use Rattle.std.proofs.Common.{codes}
use Rattle.std.proofs.lemmas.Result.{on_ok_weaker}
use Rattle.rx_reply.specs.Places.{span_text}
use Rattle.rx_rewrite_reply.proofs.Parts.{five_added}
use Rattle.rx_rewrite_reply.proofs.replies.add_twice.Goals as goal

pub returns : goal.returns
returns c =
    on_ok_weaker c.extend_from_slice-3.result
    (five_added c.args.bytes.now (codes "err\tname_used_twice\t") (span_text c.args.first) (codes ",") (span_text c.args.second) (codes "\n")
    c.extend_from_slice.new.self c.add_span.new.bytes c.extend_from_slice-2.new.self c.add_span-2.new.bytes c.extend_from_slice-3.new.self
    c.in_ok-extend_from_slice.ensures.ok c.in_ok-add_span.ensures c.in_ok-extend_from_slice-2.ensures.ok c.in_ok-add_span-2.ensures)
    c.extend_from_slice-3.ensures.ok
