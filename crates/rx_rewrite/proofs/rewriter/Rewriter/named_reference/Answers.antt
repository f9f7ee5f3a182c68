use Rattle.std.proofs.Common.{if◌then◌else◌, ap, sym, ◌∙◌}
use Rattle.rx_ast.specs.Tree as tree
use Rattle.rx_ast.specs.Tree.{leaf}
use Rattle.rx_ast.proofs.Equations.{indexed_is, named_is}
use Rattle.rx_rewrite.specs.Rewriting.{number_of}
use Rattle.rx_rewrite.proofs.rewriter.Rewriter.named_reference.Goals as goal

pub returns-then-self : goal.returns-then-self
returns-then-self c = λ names numbered.
    let r = c.args.it.now in
    let found = c.number_of.ensures in
    indexed_is _
    ∙ ap (λ k. leaf (tree.indexed (record { span = r.span; index = k }))) (found.3 ∙ numbered c.if-self.true found.0 found.1 ∙ ap (λ n. number_of n names) found.2)
    ∙ ap (λ b. leaf (if b then tree.indexed (record { span = r.span; index = number_of r.name names }) else tree.named r)) (sym c.if-self.true)

pub returns : goal.returns
returns c = λ names numbered.
    let r = c.args.it.now in
    named_is _ ∙ ap (λ x. leaf (tree.named x)) (c.in_ok-new.ensures.ok ∙ c.in_ok-copy.ensures)
    ∙ ap (λ b. leaf (if b then tree.indexed (record { span = r.span; index = number_of r.name names }) else tree.named r)) (sym c.if-self.false)
