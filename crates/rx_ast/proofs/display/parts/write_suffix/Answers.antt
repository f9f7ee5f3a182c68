use Rattle.rx_ast.specs.Texts.{counts_text, lazy_text}
use Rattle.rx_ast.proofs.FormatterWrites.{shown_then}
use Rattle.rx_ast.proofs.display.parts.write_suffix.Goals as goal

pub returns : goal.returns
returns g c = shown_then _ (counts_text c.args.it.now.min c.args.it.now.max) (lazy_text c.args.it.now.greedy) c.in_ok-write_counts.ensures (rw c.lazy_text.ensures at c.write_text.ensures)
