use Rattle.std.proofs.Common.{◌∙◌, rules, tests}
use Rattle.std.specs.Str.{bytes_eq}
use Rattle.std.proofs.lemmas.Iterator.{YieldsList-from_slice}
use Rattle.std.proofs.lemmas.Iterator.Search.{any_from_yields_List}
use Rattle.rx_json_reply.proofs.Checked.{is_among-names}
use Rattle.rx_json_reply.proofs.members.has_name.Goals as goal

pub returns : goal.returns
returns c =
    let name = c.args.name.now in
    let members = c.args.members.now in
    any_from_yields_List (λ m. bytes_eq m.0.now name) _ _ c.any.result c.any.ensures.ran (YieldsList-from_slice members cc) (λ x b q k. search (rules, tests))
    ∙ is_among-names name members
