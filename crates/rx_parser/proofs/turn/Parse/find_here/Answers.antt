use Rattle.std.proofs.Common.{◌∙◌, ap, ap₂, subst, sym, ◌≤◌, ◌||◌, arith, length-drop, All}
use Rattle.rx_parser.proofs.Common.{rest, CodePoint, has_some, front_read, text_environment, text_names, IsFound, found_front}
use Rattle.rx_parser.proofs.FrontFound.{front_found}
use Rattle.rx_parser.proofs.Places.{pass_environment}
use Rattle.rx_parser.proofs.turn.Parse.find_here.Goals as goal

pub returns-clause-found : goal.returns-clause-found
returns-clause-found g c =
    let r = c.args.self.now.reader in
    let b = c.args.self.now.builder in
    let e = text_environment b.mode b.rules r.units in
    let units = c.ahead.ensures.units in
    let small : All (λ (u : CodePoint). u.value ≤ 0x10FFFF) (rest r) = subst (All (λ (u : CodePoint). u.value ≤ 0x10FFFF)) units c.ahead.ensures.code_points in
    let is = c.of-environment.ensures ∙ pass_environment c.requires.under_way.pass b.rules.buffer_boundaries in
    subst (IsFound e (rest r)) (sym (c.front_at.ensures.found ∙ ap₂ (λ e us. found_front (front_read e us)) is units))
    (front_found e (rest r) (ap (λ always. always || has_some (text_names b.mode r.units))) small)

pub returns-clause-small : goal.returns-clause-small
returns-clause-small g c = λ halt is.
    let r = c.args.self.now.reader in
    let b = c.args.self.now.builder in
    let found = subst (IsFound (text_environment b.mode b.rules r.units) (rest r)) is (returns-clause-found g c) in
    omega (arith, found.1, c.ahead.ensures.short, length-drop r.place r.units)
