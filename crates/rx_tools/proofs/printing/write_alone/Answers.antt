use Rattle.rx_ast.specs.Tree.{mirror_term}
use Rattle.rx_tools.proofs.Tasks.{opening_of_leaf}
use Rattle.rx_tools.proofs.printing.write_alone.Goals as goal

pub returns : goal.returns
returns g c = rw (opening_of_leaf c.args.mode c.args.after_reference (mirror_term c.args.term.now) c.requires) c.write_leaf.ensures.whole
