use Rattle.std.proofs.Common.{sym, subst, List}
use Rattle.json.specs.Json.{Json}
use Rattle.rx_json.specs.Adding.{Adds}
use Rattle.rx_json.specs.Located.{located}
use Rattle.rx_json.specs.Values.{value_tokens}
use Rattle.rx_json.proofs.Adding.{adds_nothing}
use Rattle.rx_json.proofs.GroupsTold.{no_group, no_number}
use Rattle.rx_json.proofs.groups.write_if_group.Goals as goal

pub returns-in_default-clause-group : goal.returns-in_default-clause-group
returns-in_default-clause-group c =
    subst (λ (js : List Json). Adds c.args.writer.now c.args.writer.now (value_tokens js)) (sym (no_group (located c.args.places.now) c.args.number c.args.node c.in_default.not-CapturingGroup)) (adds_nothing c.args.writer.now)

pub returns-in_default-clause-next : goal.returns-in_default-clause-next
returns-in_default-clause-next c = sym (no_number c.args.number c.args.node c.in_default.not-CapturingGroup)
