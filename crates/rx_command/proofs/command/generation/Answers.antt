use Rattle.std.proofs.Common.{◌≡◌, sym, subst, ℕ, [], ◌∷◌, arith}
use Rattle.std.specs.Option.{MatchOption}
use Rattle.std.specs.Str.{chars}
use Rattle.std.proofs.lemmas.Grind.{common_steps}
use Rattle.rx_command.specs.Command.{IsCommand, IsGen}
use Rattle.rx_command.proofs.command.generation.Goals as goal

pub returns-in-len3 : goal.returns-in-len3
returns-in-len3 c =
    let words_are : c.args.words.now ≡ chars c.as_str.result.now ∷ chars c.as_str-in-len3.result.now ∷ chars c.as_str-in-len3-2.result.now ∷ [] = grind (arith, common_steps) in
    subst (λ words. MatchOption c.three_words.result ((seed count : ℕ) → ¬ IsGen words seed count) (λ command. IsCommand words command)) (sym words_are) c.three_words.ensures
