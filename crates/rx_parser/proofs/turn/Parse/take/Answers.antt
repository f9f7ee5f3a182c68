use Rattle.std.proofs.Common.{subst, sym}
use Rattle.rx_parser.proofs.Common.{IsHaltFault, StandsNext}
use Rattle.rx_parser.specs.Pace.{TakesFound}
use Rattle.rx_parser.specs.declared.found.Found.TheVariants.{Halt}
use Rattle.rx_parser.proofs.Halts.{halt_refused}
use Rattle.rx_parser.proofs.turn.Parse.take.Goals as goal

pub fault-requires-clause-small : goal.fault-requires-clause-small
fault-requires-clause-small g c = c.requires.small c.in-Halt.halt c.in-Halt.is

pub returns-in-Halt-clause-refused : goal.returns-in-Halt-clause-refused
returns-in-Halt-clause-refused g c =
    let p = c.args.self.now in
    let r = p.reader in
    let h = c.requires.more.under_way in
    let found : StandsNext p (Halt c.in-Halt.halt) = subst (StandsNext p) c.in-Halt.is c.requires.found in
    halt_refused r.units r.first p.spans p.builder r.place h.parsing h.pass.no_clash h.pass.in_limit c.requires.more.left c.fault.result c.in-Halt.halt found.0
    (subst (λ n. IsHaltFault r.units r.first p.spans r.place p.builder n c.in-Halt.halt c.fault.result) h.pass.groups c.fault.ensures.fault)

pub named_reference-requires-clause-more : goal.named_reference-requires-clause-more
named_reference-requires-clause-more g c = c.requires.more

pub named_reference-requires-clause-found : goal.named_reference-requires-clause-found
named_reference-requires-clause-found g c = subst (StandsNext c.args.self.now) c.in-NamedReference.is c.requires.found

pub returns-in-NamedReference-clause-turned : goal.returns-in-NamedReference-clause-turned
returns-in-NamedReference-clause-turned g c = c.named_reference.ensures.turned

pub returns-in-NamedReference-clause-refused : goal.returns-in-NamedReference-clause-refused
returns-in-NamedReference-clause-refused g c = c.named_reference.ensures.refused

pub returns-in-NamedReference-clause-steps : goal.returns-in-NamedReference-clause-steps
returns-in-NamedReference-clause-steps g c =
    let it = c.named_reference in
    subst (λ found. TakesFound found (g.C.Counter.count c.args.steps.now) (g.C.Counter.count it.new.steps) c.args.self.now.reader it.new.self.reader it.result) (sym c.in-NamedReference.is) it.ensures.steps

pub property-requires-clause-more : goal.property-requires-clause-more
property-requires-clause-more g c = c.requires.more

pub property-requires-clause-found : goal.property-requires-clause-found
property-requires-clause-found g c = subst (StandsNext c.args.self.now) c.in-Property.is c.requires.found

pub returns-in-Property-clause-turned : goal.returns-in-Property-clause-turned
returns-in-Property-clause-turned g c = c.property.ensures.turned

pub returns-in-Property-clause-refused : goal.returns-in-Property-clause-refused
returns-in-Property-clause-refused g c = c.property.ensures.refused

pub returns-in-Property-clause-steps : goal.returns-in-Property-clause-steps
returns-in-Property-clause-steps g c =
    let it = c.property in
    subst (λ found. TakesFound found (g.C.Counter.count c.args.steps.now) (g.C.Counter.count it.new.steps) c.args.self.now.reader it.new.self.reader it.result) (sym c.in-Property.is) it.ensures.steps

pub class-requires-clause-more : goal.class-requires-clause-more
class-requires-clause-more g c = c.requires.more

pub class-requires-clause-found : goal.class-requires-clause-found
class-requires-clause-found g c = subst (StandsNext c.args.self.now) c.in-Class.is c.requires.found

pub returns-in-Class-clause-turned : goal.returns-in-Class-clause-turned
returns-in-Class-clause-turned g c = c.class.ensures.turned

pub returns-in-Class-clause-refused : goal.returns-in-Class-clause-refused
returns-in-Class-clause-refused g c = c.class.ensures.refused

pub returns-in-Class-clause-steps : goal.returns-in-Class-clause-steps
returns-in-Class-clause-steps g c =
    let it = c.class in
    subst (λ found. TakesFound found (g.C.Counter.count c.args.steps.now) (g.C.Counter.count it.new.steps) c.args.self.now.reader it.new.self.reader it.result) (sym c.in-Class.is) it.ensures.steps

pub open-requires-clause-more : goal.open-requires-clause-more
open-requires-clause-more g c = c.requires.more

pub open-requires-clause-found : goal.open-requires-clause-found
open-requires-clause-found g c = subst (StandsNext c.args.self.now) c.in-Open.is c.requires.found

pub returns-in-Open-clause-turned : goal.returns-in-Open-clause-turned
returns-in-Open-clause-turned g c = c.open.ensures.turned

pub returns-in-Open-clause-refused : goal.returns-in-Open-clause-refused
returns-in-Open-clause-refused g c = c.open.ensures.refused

pub returns-in-Open-clause-steps : goal.returns-in-Open-clause-steps
returns-in-Open-clause-steps g c =
    let it = c.open in
    subst (λ found. TakesFound found (g.C.Counter.count c.args.steps.now) (g.C.Counter.count it.new.steps) c.args.self.now.reader it.new.self.reader it.result) (sym c.in-Open.is) it.ensures.steps

pub close-requires-clause-more : goal.close-requires-clause-more
close-requires-clause-more g c = c.requires.more

pub close-requires-clause-found : goal.close-requires-clause-found
close-requires-clause-found g c = subst (StandsNext c.args.self.now) c.in-Close.is c.requires.found

pub returns-in-Close-clause-turned : goal.returns-in-Close-clause-turned
returns-in-Close-clause-turned g c = c.close.ensures.turned

pub returns-in-Close-clause-refused : goal.returns-in-Close-clause-refused
returns-in-Close-clause-refused g c = c.close.ensures.refused

pub returns-in-Close-clause-steps : goal.returns-in-Close-clause-steps
returns-in-Close-clause-steps g c =
    let it = c.close in
    subst (λ found. TakesFound found (g.C.Counter.count c.args.steps.now) (g.C.Counter.count it.new.steps) c.args.self.now.reader it.new.self.reader it.result) (sym c.in-Close.is) it.ensures.steps

pub quantify-requires-clause-more : goal.quantify-requires-clause-more
quantify-requires-clause-more g c = c.requires.more

pub quantify-requires-clause-found : goal.quantify-requires-clause-found
quantify-requires-clause-found g c = subst (StandsNext c.args.self.now) c.in-Quantifier.is c.requires.found

pub returns-in-Quantifier-clause-turned : goal.returns-in-Quantifier-clause-turned
returns-in-Quantifier-clause-turned g c = c.quantify.ensures.turned

pub returns-in-Quantifier-clause-refused : goal.returns-in-Quantifier-clause-refused
returns-in-Quantifier-clause-refused g c = c.quantify.ensures.refused

pub returns-in-Quantifier-clause-steps : goal.returns-in-Quantifier-clause-steps
returns-in-Quantifier-clause-steps g c =
    let it = c.quantify in
    subst (λ found. TakesFound found (g.C.Counter.count c.args.steps.now) (g.C.Counter.count it.new.steps) c.args.self.now.reader it.new.self.reader it.result) (sym c.in-Quantifier.is) it.ensures.steps
