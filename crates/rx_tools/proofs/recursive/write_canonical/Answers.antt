use Rattle.std.proofs.Common.{◌∙◌, ap}
use Rattle.rx_ast.proofs.Equations.{disjunction_is}
use Rattle.rx_model.specs.Spelling.Spelling.{alternatives_text}
use Rattle.rx_model.proofs.Spelling.Spelling.{spelling_bare}
use Rattle.rx_tools.proofs.Pieces.{same_text}
use Rattle.rx_tools.proofs.recursive.write_canonical.Goals as goal

pub returns : goal.returns
returns g c = record {
  written = same_text (spelling_bare c.args.pattern.now c.args.mode ∙ ap (λ d. alternatives_text c.args.mode d.1) (disjunction_is c.args.pattern.now.body)) (rw c.as_slice.ensures at c.write_alternatives.ensures);
}
