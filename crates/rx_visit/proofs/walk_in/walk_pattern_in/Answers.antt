use Rattle.std.proofs.lemmas.Result.{on_ok_weaker}
use Rattle.rx_ast.specs.Kinds.{pattern}
use Rattle.rx_ast.specs.Tree.{mirror}
use Rattle.rx_visit.proofs.Steps.{lone}
use Rattle.rx_visit.proofs.walk_in.walk_pattern_in.Goals as goal

pub returns : goal.returns
returns g c = on_ok_weaker c.work_through.result (lone {v = c.args.visitor.now} {w = c.work_through.new.state} (pattern (mirror c.args.pattern.now))) c.work_through.ensures
