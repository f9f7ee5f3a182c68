use Rattle.std.proofs.Common.{◌∙◌, sym, map}
use Rattle.rx_run.specs.Lines.{lines_of}
use Rattle.rx_run.proofs.Judging.{are_ok_alone, are_ok_judged, judged_reply, text_of_judged, with_judgement, without_judgement}
use Rattle.rx_run.proofs.laws.replies_count_by_their_first_letters.Goals as goal

pub returns : goal.returns
returns c = λ service read written all_ok. (
  λ is. (
    map (λ reply. reply.0) is.replies,
    without_judgement service (lines_of read) is.replies is.answered,
    is.written_is,
    is.judged ∙ are_ok_alone service (lines_of read) is.replies is.answered,
  ),
  λ r. record {
    replies = map judged_reply r.0;
    answered = with_judgement service (lines_of read) r.0 r.1;
    written_is = r.2 ∙ sym (text_of_judged r.0);
    judged = r.3 ∙ sym (are_ok_judged r.0);
  },
)
