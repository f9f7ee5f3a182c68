use Rattle.std.proofs.Common.{◌∙◌, ◌+◌, ap, sym, ℕ, List, ◌∷◌, drop, map}
use Rattle.std.proofs.lemmas.List.{at_drop_all, at_drop_more}
use Rattle.json.specs.Token.{Token}
use Rattle.json.specs.Tree.{json_tokens}
use Rattle.rx_json.specs.Values.{text, value_tokens}
use Rattle.rx_json.proofs.Adding.{adds_one}
use Rattle.rx_json.proofs.Parts.{front_all, front_more, front_none, text_added}
use Rattle.rx_json.proofs.values.write_each_name.Goals as goal

abbrev left : List (List ℕ) → List Token
left names = value_tokens (map text names)

pub loop-name-init : goal.loop-name-init
loop-name-init c = front_none c.args.writer.now (left c.args.names.now)

pub loop-name-preserved : goal.loop-name-preserved
loop-name-preserved c =
    let names = c.args.names.now in
    let i = c.loop-name.name-index in
    let name = c.name-item.result in
    front_more (json_tokens (text name)) (left (drop (i + 1) names))
    (at_drop_more left names i name c.loop-name-test.true ∙ ap (λ (n : List ℕ). left (n ∷ drop (i + 1) names)) (sym c.name-item.is))
    (text_added name c.as_str.utf8 c.as_str.ensures (adds_one c.in_ok-string.ensures)) c.loop-name.invariant

pub returns : goal.returns
returns c = front_all (at_drop_all left c.args.names.now c.loop-name.name-index c.loop-name-test.false) c.loop-name.invariant
