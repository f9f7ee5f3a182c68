-- What is told of a question is told of the arguments that ask it.
use Rattle.std.proofs.Common.{sym, subst, List, ℕ}
use Rattle.std.specs.Prelude.{MatchOption}
use Rattle.rx_parser.specs.Texts.{seen_input}
use Rattle.rx_c.specs.declared.options.Options.{Options}
use Rattle.rx_c.specs.declared.question.Question.{Question}
use Rattle.rx_c.specs.declared.reading.Reading.{Reading}
use Rattle.rx_c.specs.Asked.{Asks, asked_input, wants_of}
use Rattle.rx_c.specs.Codes.{form_by}
use Rattle.rx_c.specs.Told.{Told}

pub told_as_asked : (pattern flags : List ℕ) (options : Options) (question : Question) (out : Reading) (status : ℕ) → Asks pattern flags options question
    → Told question.wants (seen_input question.input) out status → MatchOption (form_by options.form) ⊥ (λ form. Told (wants_of options) (asked_input form pattern flags options) out status)
told_as_asked pattern flags options question out status asks told =
    let input = asked_input question.input.form pattern flags options in
    subst (λ form. MatchOption form ⊥ (λ f. Told (wants_of options) (asked_input f pattern flags options) out status)) (sym asks.form_is)
    (subst (λ wants. Told wants input out status) asks.wants (subst (λ i. Told question.wants i out status) asks.input told))
