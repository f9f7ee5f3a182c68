use Rattle.std.proofs.Common.{subst, codes, ◌++◌, List, Ok, Err}
use Rattle.std.specs.Prelude.{MatchResult, ⊤}
use Rattle.json.specs.Json as json
use Rattle.json.specs.Tree.{HasNumbers}
use Rattle.json.specs.Value.{value_view}
use Rattle.rx_json.specs.Values.{Field}
use Rattle.rx_json_reply.specs.Answers.{no_value}
use Rattle.rx_json_reply.specs.Lines.{IsValueOf}
use Rattle.rx_json_reply.specs.Parts.{bad_fields, begun}
use Rattle.rx_json_reply.specs.Wrongs.{wrong_of}
use Rattle.rx_json_reply.proofs.replies.write_open_reply.Goals as goal

pub write_reply_to-requires : goal.write_reply_to-requires
write_reply_to-requires c = subst (λ read. MatchResult read (λ value. HasNumbers (value_view value)) (λ wrong. ⊤)) c.in-Ok.is c.in_ok-read.ensures.numbers

pub returns-in_ok-write_bad-in-Err : goal.returns-in_ok-write_bad-in-Err
returns-in_ok-write_bad-in-Err c =
    let wrong = wrong_of c.in-Err.wrong in
    let fields : List Field = begun json.null (codes "bad") ++ bad_fields wrong in
    let is = subst (λ read. MatchResult read (λ value. IsValueOf c.args.line.now (Ok (value_view value))) (λ wrong. IsValueOf c.args.line.now (Err (wrong_of wrong)))) c.in-Err.is c.in_ok-read.ensures.value in
    (fields, no_value wrong is, c.in_ok-write_bad-in-Err.ensures)

pub returns-in-Ok : goal.returns-in-Ok
returns-in-Ok c =
    let is = subst (λ read. MatchResult read (λ value. IsValueOf c.args.line.now (Ok (value_view value))) (λ wrong. IsValueOf c.args.line.now (Err (wrong_of wrong)))) c.in-Ok.is c.in_ok-read.ensures.value in
    c.write_reply_to.ensures c.args.line.now is
