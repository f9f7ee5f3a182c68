use Rattle.std.proofs.Common.{ap}
use Rattle.rx_json.specs.Located.{located}
use Rattle.rx_json.specs.Tasks.{left_tokens}
use Rattle.rx_json.proofs.Tasks.{leads}
use Rattle.rx_json.proofs.tree.TaskWorkWriter.work.Goals as goal

pub returns-in-Node-clause-leads : goal.returns-in-Node-clause-leads
returns-in-Node-clause-leads c = leads c.open.result c.args.self _ _ _ (ap (left_tokens (located c.args.self.places.now)) c.in-Node.is) c.open.ensures.text

pub returns-in-Rest-clause-leads : goal.returns-in-Rest-clause-leads
returns-in-Rest-clause-leads c = leads c.write_rest.result c.args.self _ _ _ (ap (left_tokens (located c.args.self.places.now)) c.in-Rest.is) c.write_rest.ensures.text
