use Rattle.std.proofs.Common.{rules, arith}
use Rattle.std.proofs.lemmas.Grind.{common_steps}
use Rattle.rx_ast.proofs.ClassEquations.{class_is}
use Rattle.rx_lint.proofs.numbers.push_class.Goals as goal

pub returns : goal.returns
returns c = rw (class_is c.args.class.now) (first_of (search rules, grind (arith, common_steps)))
