use Rattle.std.proofs.Common.{sym}
use Rattle.rx_json.proofs.GroupsTold.{no_name}
use Rattle.rx_json.proofs.groups.name_in.Goals as goal

pub returns-in_default : goal.returns-in_default
returns-in_default c = sym (no_name c.args.node c.in_default.not-CapturingGroup)
