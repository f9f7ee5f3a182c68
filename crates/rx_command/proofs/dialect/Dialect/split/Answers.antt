use Rattle.rx_command.proofs.Commands.{split_none}
use Rattle.rx_command.proofs.dialect.Dialect.split.Goals as goal

pub returns-in-None : goal.returns-in-None
returns-in-None c = split_none c.args.words.now (λ word more dialect first named. let cut = c.in-Some.ensures.cases.0 in c.in-None.ensures dialect (cc))
