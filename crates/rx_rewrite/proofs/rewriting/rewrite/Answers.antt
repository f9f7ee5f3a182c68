use Rattle.std.proofs.Common.{ap, ◌∙◌}
use Rattle.rx_ast.specs.Tree.{mirror, mirror_disjunction}
use Rattle.rx_trace.specs.Answers.{settings}
use Rattle.rx_trace.specs.Groups.{names_in_each}
use Rattle.rx_rewrite.specs.Rewriting.{alternatives_rewritten}
use Rattle.rx_rewrite.proofs.Promises.{promised}
use Rattle.rx_rewrite.proofs.rewriting.rewrite.Goals as goal

pub rewrite_disjunction-requires : goal.rewrite_disjunction-requires
rewrite_disjunction-requires c = (names_in_each (mirror c.args.pattern.now).1.1, c.in_ok-numbers.ensures.0)

pub returns-clause-rewritten : goal.returns-clause-rewritten
returns-clause-rewritten c =
    let p = c.args.pattern.now in
    let d = mirror_disjunction p.body in
    let names = names_in_each d.1 in (
      c.in_ok-numbers.ensures.1,
      ap (λ x. (p.span, x))
          (c.in_ok-body.ensures names c.in_ok-numbers.ensures.0
          ∙ ap (λ e. (d.0, alternatives_rewritten c.args.what names e c.settings_left.result d.1)) c.settings_at_start.ensures
          ∙ ap (λ e. (d.0, alternatives_rewritten c.args.what names (settings c.args.flags) e d.1)) c.settings_left.ensures),
    )

pub returns-clause-promised : goal.returns-clause-promised
returns-clause-promised c = promised c.args.what c.args.flags c.args.pattern.now _ (returns-clause-rewritten c)
