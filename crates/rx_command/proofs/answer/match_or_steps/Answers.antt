use Rattle.std.proofs.Common.{◌∙◌, refl, sym, ap, List, ℕ, [], ◌∷◌, codes}
use Rattle.std.specs.Str.{chars}
use Rattle.rx_command.proofs.Commands.{match_not_steps, three_say_nothing}
use Rattle.rx_command.proofs.Plain.{plain_text, word_bytes, word_chars}
use Rattle.rx_command.proofs.answer.match_or_steps.Goals as goal

pub returns-in_err-budget-in-match : goal.returns-in_err-budget-in-match
returns-in_err-budget-in-match c = rw c.from_residual.ensures (three_say_nothing (chars c.args.name.now) (chars c.args.first.now) (chars c.args.second.now)
    (λ budget name. c.in_err-budget-in-match.ensures budget)
    (λ most name. let here = word_chars (codes "match") c.args.name.now (plain_text (codes "match") refl) c.in-match.is in
    absurd (match_not_steps (sym here ∙ name))))

pub returns-in_err-most-in-steps : goal.returns-in_err-most-in-steps
returns-in_err-most-in-steps c = rw c.from_residual-in_err-most-in-steps.ensures (three_say_nothing (chars c.args.name.now) (chars c.args.first.now) (chars c.args.second.now)
    (λ budget name. let here = word_chars (codes "steps") c.args.name.now (plain_text (codes "steps") refl) c.in-steps.is in
    absurd (match_not_steps (sym name ∙ here)))
    (λ most name. c.in_err-most-in-steps.ensures most))

pub returns-in_ok-budget-in-match : goal.returns-in_ok-budget-in-match
returns-in_ok-budget-in-match c = (
  chars c.args.first.now,
  ap (λ (name : List ℕ). name ∷ chars c.args.first.now ∷ chars c.args.second.now ∷ []) (word_chars (codes "match") c.args.name.now (plain_text (codes "match") refl) c.in-match.is)
      ∙ ap (λ (text : List ℕ). codes "match" ∷ chars c.args.first.now ∷ text ∷ []) (sym c.new-text.ensures),
  c.in_ok-budget-in-match.ensures,
)

pub returns-in_ok-most-in-steps : goal.returns-in_ok-most-in-steps
returns-in_ok-most-in-steps c = (
  chars c.args.second.now,
  ap (λ (name : List ℕ). name ∷ chars c.args.first.now ∷ chars c.args.second.now ∷ []) (word_chars (codes "steps") c.args.name.now (plain_text (codes "steps") refl) c.in-steps.is)
      ∙ ap (λ (text : List ℕ). codes "steps" ∷ text ∷ chars c.args.second.now ∷ []) (sym c.new-text-in-steps.ensures),
  c.in_ok-most-in-steps.ensures,
)

pub returns-in_default : goal.returns-in_default
returns-in_default c = three_say_nothing (chars c.args.name.now) (chars c.args.first.now) (chars c.args.second.now)
    (λ budget is number. c.in_default.not-match (word_bytes (codes "match") c.args.name.now (plain_text (codes "match") refl) c.utf8.name is))
    (λ most is number. c.in_default.not-steps (word_bytes (codes "steps") c.args.name.now (plain_text (codes "steps") refl) c.utf8.name is))
