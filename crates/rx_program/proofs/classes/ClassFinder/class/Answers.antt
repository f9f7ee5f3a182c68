use Rattle.std.proofs.Common.{ap}
use Rattle.std.proofs.lemmas.Result.{on_ok_weaker}
use Rattle.rx_ast.specs.ClassTree.{mirror_class}
use Rattle.rx_program.proofs.Finding.{finds_row}
use Rattle.rx_program.proofs.classes.ClassFinder.class.Goals as goal

pub returns : goal.returns
returns c =
    on_ok_weaker c.push.result
    (λ pushed. finds_row c.args.self.now (record c.args.self.now { rows = c.push.new.self }) c.in_ok-row.row (mirror_class c.args.class.now) (ap (λ rows. record c.args.self.now { rows = rows }) pushed) c.in_ok-row.ensures) c.push.ensures.ok
