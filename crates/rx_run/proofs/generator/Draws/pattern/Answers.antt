use Rattle.std.proofs.Common.{◌≡◌, ◌∙◌, ◌+◌, ◌++◌, ap, ℕ, List, []}
use Rattle.std.proofs.lemmas.Str.{chars-nil}
use Rattle.rx_run.specs.Generator.{draw_of, next_state, pieces_text}
use Rattle.rx_run.proofs.generator.Draws.pattern.Goals as goal

pub returns-clause-text : goal.returns-clause-text
returns-clause-text c =
    let old = c.args.self.now.state in
    let first = c.draw-count in
    let state = first.new.self.state in
    let none : c.in_ok-text.text ≡ [] = c.in_ok-text.ensures ∙ chars-nil in
    let number : first.result ≡ draw_of (next_state old) = first.ensures.number ∙ ap draw_of first.ensures.state in
    c.in_ok-add_pieces.ensures.text ∙ ap (λ (w : List ℕ). w ++ pieces_text (1 + first.result) state) none
    ∙ ap (λ (n : ℕ). pieces_text (1 + n) state) number ∙ ap (pieces_text (1 + draw_of (next_state old))) first.ensures.state
