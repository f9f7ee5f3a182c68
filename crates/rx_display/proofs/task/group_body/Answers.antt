use Rattle.std.proofs.Common.{ap, ◌∙◌, ◌++◌, sym, codes}
use Rattle.rx_ast.proofs.Equations.{disjunction_is}
use Rattle.rx_ast.specs.Shown.{alternatives_shown}
use Rattle.rx_display.specs.Tasks.{tree_of}
use Rattle.rx_display.proofs.task.group_body.Goals as goal

pub returns-clause-text : goal.returns-clause-text
returns-clause-text c = ap (λ text. text ++ codes ")") (ap (λ as'. alternatives_shown (tree_of as')) c.as_slice.ensures ∙ sym (ap (λ d. alternatives_shown d.1) (disjunction_is c.args.body.now)))
