use Rattle.std.proofs.Common.{ap, ◌∙◌, ◌++◌}
use Rattle.rx_ast.specs.Tree.{mirror_term}
use Rattle.rx_model.specs.Spelling.Spelling.{node_text}
use Rattle.rx_tools.specs.Tasks.{task_text}
use Rattle.rx_tools.proofs.printing.before_suffix.Goals as goal

pub returns-clause-text : goal.returns-clause-text
returns-clause-text c =
    ap (λ text. text ++ task_text c.new-2.result) (c.new.ensures.text ∙ c.lone_body-inner.ensures.text)
    ∙ ap (λ text. node_text c.args.after.mode c.args.after_reference (mirror_term c.args.it.now.body) ++ text) c.new-2.ensures.text
