use Rattle.std.proofs.Common.{ap, sym, ◌∙◌, ◌++◌, append_assoc, codes}
use Rattle.rx_ast.proofs.Equations.{disjunction_is}
use Rattle.rx_ast.specs.Tree.{mirror_disjunction}
use Rattle.rx_display.specs.Tasks.{tree_of}
use Rattle.rx_model.specs.Spelling.Spelling.{alternatives_text}
use Rattle.rx_tools.specs.Tasks.{body_text, task_text}
use Rattle.rx_tools.proofs.printing.before_closer.Goals as goal

pub returns-clause-text : goal.returns-clause-text
returns-clause-text c =
    let mode = c.args.after.mode in
    let same = ap (λ as'. alternatives_text mode (tree_of as')) c.as_slice.ensures ∙ sym (ap (λ d. alternatives_text mode d.1) (disjunction_is c.args.body.now)) in
    ap (λ text. text ++ task_text c.new-2.result) (c.new.ensures.text ∙ c.whole_body-inner.ensures.text ∙ same)
    ∙ ap (λ text. alternatives_text mode (mirror_disjunction c.args.body.now).1 ++ text) c.new-2.ensures.text
    ∙ sym (append_assoc (alternatives_text mode (mirror_disjunction c.args.body.now).1) (codes ")") (body_text c.args.after))
