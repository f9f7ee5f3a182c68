use Rattle.std.proofs.Common.{◌∙◌}
use Rattle.std.specs.Str.{chars}
use Rattle.rx_scan.specs.FirstPass.{entries, parts_of}
use Rattle.rx_scan.proofs.Passes.{clash_none}
use Rattle.rx_scan.proofs.first_pass.FirstPass.clash.Goals as goal

pub returns-in-None : goal.returns-in-None
returns-in-None c = clash_none (parts_of c.args.self.now) (chars c.args.name.now) (entries c.args.self.now) (c.in-None.ensures ∙ c.requires.knows c.args.name.now c.utf8.name)
