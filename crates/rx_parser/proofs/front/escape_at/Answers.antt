use Rattle.std.proofs.Common.{◌∙◌, ap, arith, false, subst, sym}
use Rattle.rx_parser.proofs.Common.{length-map, CodePoint, values, seen_environment, LooksAtEscape, any_within, seen_escape}
use Rattle.rx_parser.proofs.Looks.{escape_looked}
use Rattle.rx_parser.proofs.front.escape_at.Goals as goal

pub character-requires : goal.character-requires
character-requires g c = λ kind value n is.
    let us = c.args.following.now in
    let within = any_within false (seen_environment c.args.environment) kind value n (values us) (sym c.any_escape_at.ensures.read ∙ ap seen_escape is) in
    omega (arith, within, length-map us (λ (u : CodePoint). u.value), c.len.ensures)

pub returns-clause-steps : goal.returns-clause-steps
returns-clause-steps g c =
    let us = c.args.following.now in
    let old = g.C.Counter.count c.args.steps.now in
    let it = c.any_escape_at in
    let new = g.C.Counter.count it.new.steps in
    subst (LooksAtEscape old new us) (sym c.character.ensures) (escape_looked (seen_environment c.args.environment) us old new it.result it.ensures.read it.ensures.steps)
