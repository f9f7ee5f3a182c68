use Rattle.std.proofs.Common.{◌≡◌, ◌-◌, rules}
use Rattle.std.proofs.lemmas.Result.{on_ok_weaker}
use Rattle.rx_program.proofs.Performing.{builds_repeating}
use Rattle.rx_program.proofs.builder.Builder.close_quantifier.Goals as goal

pub repeat-requires-clause-program : goal.repeat-requires-clause-program
repeat-requires-clause-program c = c.requires.sound.program

pub returns : goal.returns
returns c =
    let count : c.saturating_sub.result ≡ c.args.end - c.args.self.now.before = search rules in
    on_ok_weaker c.repeat.result (λ r. builds_repeating c.args.self.now c.repeat.new.self c.args.it.now.min c.args.it.now.max c.args.it.now.greedy c.args.end c.saturating_sub.result count c.requires.sound r) c.repeat.ensures
