use Rattle.std.proofs.Common.{subst}
use Rattle.rx_ast.specs.Tree.{mirror}
use Rattle.rx_match.specs.Programs.{IsOutcomeOf}
use Rattle.rx_match.proofs.Answering.{counted}
use Rattle.rx_match.proofs.searching.ticks_of_search.Goals as goal

pub returns-in-Ok : goal.returns-in-Ok
returns-in-Ok c =
    counted c.args.flags (mirror c.args.pattern.now) c.args.input.now _ c.args.start c.args.most c.in-Ok.outcome (subst (IsOutcomeOf c.args.flags (mirror c.args.pattern.now) c.args.input.now _ c.args.start c.args.most) c.in-Ok.is c.answer.ensures)
