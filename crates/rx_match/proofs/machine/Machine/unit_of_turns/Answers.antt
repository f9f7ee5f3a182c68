use Rattle.std.proofs.Common.{◌≡◌, refl, sym, ◌∙◌, Bool, true, false}
use Rattle.std.specs.Prelude.{not}
use Rattle.std.proofs.lemmas.Option.{IfSome_then}
use Rattle.rx_match.proofs.machine.Machine.unit_of_turns.Goals as goal

pub returns : goal.returns
returns c =
    let greedy : c.args.it.turns.greedy ≡ true = by_not c.args.it.turns.greedy c.if-not-it.false in
    IfSome_then c.unit_of_turn.result c.unit_of_turn.ensures (λ t unit. record { over_unit = unit; ahead = c.if-self.false; greedy = greedy; allowed = sym c.is_over-over.ensures ∙ c.if-over.false })
  where
    by_not : (b : Bool) → not b ≡ false → b ≡ true
    by_not true is = refl
    by_not false is = sym is
