use Rattle.rx_json_reply.proofs.Alone.{only_inserted}
use Rattle.rx_json_reply.proofs.unsupported.features_of.Goals as goal

pub returns : goal.returns
returns c = only_inserted c.none-alone.result c.insert.new.self c.args.feature c.none-alone.ensures c.insert.ensures
