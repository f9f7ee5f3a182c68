use Rattle.std.proofs.Common.{◌≡◌, refl, ap, sym, ◌∙◌, true, false}
use Rattle.rx_parser.proofs.Common.{Span, Quantifier, mirror_term, takes}
use Rattle.rx_parser.proofs.EventEquations.{level_repeat, last_after, quantifier_takes}
use Rattle.rx_parser.proofs.Goods.{good_repeat}
use Rattle.rx_parser.proofs.level.Level.quantify.Goals as goal

pub returns-clause-ready : goal.returns-clause-ready
returns-clause-ready c = λ _. last_after c.args.mode c.pop.new.self c.push.new.self _ false c.in_ok-push.ensures.ok (quantifier_takes c.args.mode c.in_ok-new.field-0)

pub returns-clause-events : goal.returns-clause-events
returns-clause-events c =
    let made : Span → Quantifier = λ s. record { span = s; min = c.args.counts.0; max = c.args.counts.1; greedy = c.args.greedy; body = c.in-Some.term } in
    let until : Span → Span = λ s. record { start = s.start; end = c.args.after } in
    λ _. level_repeat c.args.self.now c.pop.new.self c.push.new.self c.in-Some.term c.in_ok-new.field-0 c.args.counts.0 c.args.counts.1 c.args.greedy c.args.after c.in-Some.ensures c.in_ok-push.ensures.ok
    (c.in_ok-new.ensures.ok ∙ ap made (c.new.ensures ∙ ap until c.span.ensures))

pub returns-clause-good : goal.returns-clause-good
returns-clause-good c =
    let term = c.in-Some.term in
    let ready : takes c.args.mode (mirror_term term) ≡ true = sym (last_after c.args.mode c.pop.new.self c.args.self.now.terms term _ c.in-Some.ensures refl) ∙ sym c.is_ready.ensures ∙ cc in
    λ _. good_repeat c.args.mode c.args.self.now c.pop.new.self c.push.new.self term c.in_ok-new.field-0 c.in-Some.ensures c.in_ok-push.ensures.ok (ap (λ q. q.body) c.in_ok-new.ensures.ok) ready
