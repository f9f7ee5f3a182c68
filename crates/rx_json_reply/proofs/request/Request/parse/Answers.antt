use Rattle.std.proofs.Common.{◌∙◌, ap, Some, None}
use Rattle.std.proofs.lemmas.Result.{MatchResult-weaker, err_from_is_err_and}
use Rattle.json.specs.Value.{value_view}
use Rattle.json.proofs.Trees.{view-Object}
use Rattle.rx_json_reply.specs.Wrongs.{wrong_of}
use Rattle.rx_json_reply.proofs.Checked.{members_checked}
use Rattle.rx_json_reply.proofs.Requested.{member_told, whole_told}
use Rattle.rx_json_reply.proofs.request.Request.parse.Goals as goal

pub returns-in_err-check_members-clause-wrong : goal.returns-in_err-check_members-clause-wrong
returns-in_err-check_members-clause-wrong c =
    let j = value_view c.args.value.now in
    let members = c.in-Object.members in
    let is = ap value_view c.in-Object.is ∙ view-Object members in
    let wrong = wrong_of c.in_err-check_members.field-0.0 in
    let found = members_checked j members.items c.as_slice.result.now (Some wrong) is c.as_slice.ensures.value c.in_err-check_members.ensures in
    let handed = err_from_is_err_and c.from_residual.result c.from_residual.ensures.1 in
    rw (handed.1, handed.2) (member_told j _ is wrong found)

pub returns-clause-asks : goal.returns-clause-asks
returns-clause-asks c =
    let j = value_view c.args.value.now in
    let members = c.in-Object.members in
    let is = ap value_view c.in-Object.is ∙ view-Object members in
    let right = members_checked j members.items c.as_slice.result.now None is c.as_slice.ensures.value c.in_ok-check_members.ensures in
    MatchResult-weaker c.read.result c.read.ensures.asks (λ request held. (whole_told j _ is None right held.0, held.1)) (λ _ _. tt)

pub returns-clause-wrong : goal.returns-clause-wrong
returns-clause-wrong c =
    let j = value_view c.args.value.now in
    let members = c.in-Object.members in
    let is = ap value_view c.in-Object.is ∙ view-Object members in
    let right = members_checked j members.items c.as_slice.result.now None is c.as_slice.ensures.value c.in_ok-check_members.ensures in
    MatchResult-weaker c.read.result c.read.ensures.wrong (λ _ _. tt) (λ wrong held. whole_told j _ is (Some (wrong_of wrong)) right held)
