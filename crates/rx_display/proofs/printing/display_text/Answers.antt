use Rattle.std.proofs.Common.{ap, sym, ◌∙◌}
use Rattle.std.proofs.lemmas.Str.{chars-nil}
use Rattle.rx_ast.specs.Shown.{alternatives_shown}
use Rattle.rx_ast.proofs.Equations.{disjunction_is}
use Rattle.rx_display.specs.Tasks.{tree_of}
use Rattle.rx_display.proofs.Writers.{written_from_nothing}
use Rattle.rx_display.proofs.printing.display_text.Goals as goal

pub returns : goal.returns
returns c =
    let none = ap (λ w. w.text) c.new-f.ensures.writer ∙ c.in_ok-text.ensures ∙ chars-nil in
    let wrote = written_from_nothing _ _ _ c.in_ok-work_through.ensures none in
    let same = ap (λ as'. alternatives_shown (tree_of as')) c.as_slice.ensures ∙ sym (ap (λ d. alternatives_shown d.1) (disjunction_is c.args.pattern.now.body)) in
    ap (λ w. w.text) c.into_inner.ensures ∙ wrote ∙ same
