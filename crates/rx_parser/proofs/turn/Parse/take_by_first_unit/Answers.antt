use Rattle.std.proofs.Common.{refl, rules}
use Rattle.rx_parser.proofs.FirstUnits.{stands}
use Rattle.rx_parser.proofs.TokenPaces.{move_taken}
use Rattle.rx_parser.proofs.turn.Parse.take_by_first_unit.Goals as goal

pub take_bar-requires-clause-found : goal.take_bar-requires-clause-found
take_bar-requires-clause-found g c = stands c.args.self.now c.ahead.ensures.units c.ahead.ensures.code_points 124 (search rules) refl refl

pub take_common_leaf-requires-clause-found : goal.take_common_leaf-requires-clause-found
take_common_leaf-requires-clause-found g c = stands c.args.self.now c.ahead.ensures.units c.ahead.ensures.code_points 46 (search rules) refl refl

pub take_common_leaf-requires-in-Some-eq94-clause-found : goal.take_common_leaf-requires-in-Some-eq94-clause-found
take_common_leaf-requires-in-Some-eq94-clause-found g c = stands c.args.self.now c.ahead.ensures.units c.ahead.ensures.code_points 94 (search rules) refl refl

pub take_common_leaf-requires-in-Some-eq36-clause-found : goal.take_common_leaf-requires-in-Some-eq36-clause-found
take_common_leaf-requires-in-Some-eq36-clause-found g c = stands c.args.self.now c.ahead.ensures.units c.ahead.ensures.code_points 36 (search rules) refl refl

pub take_closer-requires-clause-found : goal.take_closer-requires-clause-found
take_closer-requires-clause-found g c = stands c.args.self.now c.ahead.ensures.units c.ahead.ensures.code_points 41 (search rules) refl refl

pub returns-in-Some-eq41-clause-steps : goal.returns-in-Some-eq41-clause-steps
returns-in-Some-eq41-clause-steps g c =
    let it = c.take_closer in
    move_taken c.args.self.now it.new.self (g.C.Counter.count c.args.steps.now) (g.C.Counter.count it.new.steps) it.result it.ensures.turned it.ensures.steps

pub returns-in-Some-eq40-clause-steps : goal.returns-in-Some-eq40-clause-steps
returns-in-Some-eq40-clause-steps g c =
    let it = c.take_opener in
    move_taken c.args.self.now it.new.self (g.C.Counter.count c.args.steps.now) (g.C.Counter.count it.new.steps) it.result it.ensures.turned it.ensures.steps

pub returns-in-Some-clause-steps : goal.returns-in-Some-clause-steps
returns-in-Some-clause-steps g c =
    let it = c.take_quantifier in
    move_taken c.args.self.now it.new.self (g.C.Counter.count c.args.steps.now) (g.C.Counter.count it.new.steps) it.result it.ensures.turned it.ensures.steps

pub take_bar-requires-clause-more : goal.take_bar-requires-clause-more
take_bar-requires-clause-more g c = c.requires

pub take_common_leaf-requires-clause-more : goal.take_common_leaf-requires-clause-more
take_common_leaf-requires-clause-more g c = c.requires

pub take_common_leaf-requires-in-Some-eq94-clause-more : goal.take_common_leaf-requires-in-Some-eq94-clause-more
take_common_leaf-requires-in-Some-eq94-clause-more g c = c.requires

pub take_common_leaf-requires-in-Some-eq36-clause-more : goal.take_common_leaf-requires-in-Some-eq36-clause-more
take_common_leaf-requires-in-Some-eq36-clause-more g c = c.requires

pub take_closer-requires-clause-more : goal.take_closer-requires-clause-more
take_closer-requires-clause-more g c = c.requires

pub take_escape-requires-clause-more : goal.take_escape-requires-clause-more
take_escape-requires-clause-more g c = c.requires

pub take_opener-requires-clause-more : goal.take_opener-requires-clause-more
take_opener-requires-clause-more g c = c.requires

pub take_quantifier-requires-clause-more : goal.take_quantifier-requires-clause-more
take_quantifier-requires-clause-more g c = c.requires

pub take_escape-requires-clause-stands : goal.take_escape-requires-clause-stands
take_escape-requires-clause-stands g c = search rules

pub take_opener-requires-clause-stands : goal.take_opener-requires-clause-stands
take_opener-requires-clause-stands g c = search rules

pub take_quantifier-requires-clause-stands : goal.take_quantifier-requires-clause-stands
take_quantifier-requires-clause-stands g c = search rules

pub take_quantifier-requires-clause-one : goal.take_quantifier-requires-clause-one
take_quantifier-requires-clause-one g c = search rules

pub returns-in-Some-eq124-clause-turned : goal.returns-in-Some-eq124-clause-turned
returns-in-Some-eq124-clause-turned g c = c.take_bar.ensures.turned

pub returns-in-Some-eq124-clause-steps : goal.returns-in-Some-eq124-clause-steps
returns-in-Some-eq124-clause-steps g c = c.take_bar.ensures.steps

pub returns-in-Some-eq46-clause-turned : goal.returns-in-Some-eq46-clause-turned
returns-in-Some-eq46-clause-turned g c = c.take_common_leaf.ensures.turned

pub returns-in-Some-eq46-clause-steps : goal.returns-in-Some-eq46-clause-steps
returns-in-Some-eq46-clause-steps g c = c.take_common_leaf.ensures.steps

pub returns-in-Some-eq94-clause-turned : goal.returns-in-Some-eq94-clause-turned
returns-in-Some-eq94-clause-turned g c = c.take_common_leaf-in-Some-eq94.ensures.turned

pub returns-in-Some-eq94-clause-steps : goal.returns-in-Some-eq94-clause-steps
returns-in-Some-eq94-clause-steps g c = c.take_common_leaf-in-Some-eq94.ensures.steps

pub returns-in-Some-eq36-clause-turned : goal.returns-in-Some-eq36-clause-turned
returns-in-Some-eq36-clause-turned g c = c.take_common_leaf-in-Some-eq36.ensures.turned

pub returns-in-Some-eq36-clause-steps : goal.returns-in-Some-eq36-clause-steps
returns-in-Some-eq36-clause-steps g c = c.take_common_leaf-in-Some-eq36.ensures.steps

pub returns-in-Some-eq41-clause-turned : goal.returns-in-Some-eq41-clause-turned
returns-in-Some-eq41-clause-turned g c = c.take_closer.ensures.turned

pub returns-in-Some-eq92-clause-turned : goal.returns-in-Some-eq92-clause-turned
returns-in-Some-eq92-clause-turned g c = c.take_escape.ensures.turned

pub returns-in-Some-eq92-clause-steps : goal.returns-in-Some-eq92-clause-steps
returns-in-Some-eq92-clause-steps g c = c.take_escape.ensures.steps

pub returns-in-Some-eq40-clause-turned : goal.returns-in-Some-eq40-clause-turned
returns-in-Some-eq40-clause-turned g c = c.take_opener.ensures.turned

pub returns-in-Some-clause-turned : goal.returns-in-Some-clause-turned
returns-in-Some-clause-turned g c = c.take_quantifier.ensures.turned

pub returns-in_default-clause-turned : goal.returns-in_default-clause-turned
returns-in_default-clause-turned g c = refl

pub returns-in_default-clause-steps : goal.returns-in_default-clause-steps
returns-in_default-clause-steps g c = refl

pub returns-in_default-2-clause-turned : goal.returns-in_default-2-clause-turned
returns-in_default-2-clause-turned g c = refl

pub returns-in_default-2-clause-steps : goal.returns-in_default-2-clause-steps
returns-in_default-2-clause-steps g c = refl
