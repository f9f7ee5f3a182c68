use Rattle.rx_ast.specs.Tree.{mirror}
use Rattle.rx_paint.proofs.NestingWalk.{walk_tells}
use Rattle.rx_paint.proofs.nesting.nested.Goals as goal

pub returns : goal.returns
returns c = walk_tells (mirror c.args.pattern.now) _ c.walk_pattern.ensures
