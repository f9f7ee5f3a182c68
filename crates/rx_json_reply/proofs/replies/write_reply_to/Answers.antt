use Rattle.std.proofs.Common.{sym, subst, codes, ◌++◌, ◌∷◌, List, false}
use Rattle.std.proofs.lemmas.Result.{IfOk-weaker}
use Rattle.json.specs.Json.{Json}
use Rattle.json.specs.Token.{begin_object}
use Rattle.json.specs.Value.{value_view}
use Rattle.rx_json.specs.Adding.{Adds}
use Rattle.rx_json.specs.Values.{Field, field_tokens, object_of}
use Rattle.rx_json_reply.specs.Answers.{IsAnswer, IsAnswerTo, answered, bad_json, no_request}
use Rattle.rx_json_reply.specs.Begun.{id_json}
use Rattle.rx_json_reply.specs.Parts.{bad_fields, begun}
use Rattle.rx_json_reply.specs.Requests.{asked_of}
use Rattle.rx_json_reply.specs.Wrongs.{wrong_of}
use Rattle.rx_json_reply.proofs.Ids.{id_is, id_numbers}
use Rattle.rx_json_reply.proofs.replies.write_reply_to.Goals as goal

pub write_answer-requires : goal.write_answer-requires
write_answer-requires c = id_numbers c.get-id.result (value_view c.args.value.now) c.get-id.ensures c.requires

pub write_bad-requires : goal.write_bad-requires
write_bad-requires c = id_numbers c.get-id.result (value_view c.args.value.now) c.get-id.ensures c.requires

pub returns-in-Ok : goal.returns-in-Ok
returns-in-Ok c = λ line read.
    let j = value_view c.args.value.now in
    let asked = asked_of j in
    let id = id_is c.get-id.result j c.get-id.ensures in
    let asks = c.in-Ok.ensures.asks in
    let held = id_json c.get-id.result in
    IfOk-weaker c.write_answer.result
    (λ ok. (fields : List Field) × IsAnswer held asked (object_of fields) ok × Adds c.args.writer.now c.write_answer.new.writer (begin_object ∷ field_tokens fields))
    (λ ok. (fields : List Field) × IsAnswerTo line (object_of fields) ok × Adds c.args.writer.now c.write_answer.new.writer (begin_object ∷ field_tokens fields))
    (λ ok it. (it.0, answered j asked (object_of it.0) ok read asks.0 (subst (λ (id : Json). IsAnswer id asked (object_of it.0) ok) id it.1), it.2))
    (c.write_answer.ensures asked asks.1)

pub returns-in_ok-write_bad-in-Err : goal.returns-in_ok-write_bad-in-Err
returns-in_ok-write_bad-in-Err c = λ line read.
    let j = value_view c.args.value.now in
    let wrong = wrong_of c.in-Err.wrong in
    let id = id_is c.get-id.result j c.get-id.ensures in
    let fields : List Field = begun (id_json c.get-id.result) (codes "bad") ++ bad_fields wrong in
    (fields, subst (λ (id : Json). IsAnswerTo line (bad_json id wrong) false) (sym id) (no_request j wrong read c.in-Err.ensures.wrong), c.in_ok-write_bad-in-Err.ensures)
