use Rattle.std.proofs.Common.{◌≡◌, ◌≤◌, ◌==◌, ◌&&◌, ◌∙◌, true, length, inr, sym, subst, arith}
use Rattle.rx_units.proofs.Common.{All-tail, All, Span, TemplateFault, IsTemplateFault, unopened, is_closer, seen_front}
use Rattle.rx_units.specs.declared.quoted_text.literal.Literal.TheVariants as literals
use Rattle.rx_units.specs.declared.template_literal_parser.TemplateFault.TheVariants as template_fault
use Rattle.rx_units.proofs.Quoted.Outcomes.{stop_reached, decoded_there, ends_after, whole_span}
use Rattle.rx_units.proofs.Quoted.TemplateFaults.{template_fault_stands}
use Rattle.rx_units.proofs.template_literal_parser.decode_text.Goals as goal

pub returns-in_default-clause-err : goal.returns-in_default-clause-err
returns-in_default-clause-err c = inr (subst (λ (s : Span). IsTemplateFault c.args.options c.args.text.now (template_fault.InvalidInput s)) (sym c.empty-span.ensures) (unopened c.in_default.ensures))

pub elements-requires-clause-code_points : goal.elements-requires-clause-code_points
elements-requires-clause-code_points c = All-tail (λ c. c ≤ 0x10FFFF) 96 c.in-Some.inner.now (subst (All (λ c. c ≤ 0x10FFFF)) c.in-Some.ensures c.requires.code_points)

pub end-requires : goal.end-requires
end-requires c = omega (arith, c.requires.fits, ends_after literals.Template c.args.options c.args.text.now c.in-Some.inner.now c.in_ok-stop.stop c.in-Some.ensures c.in_ok-stop.ensures (grind (arith, c.is_end.ensures, c.if-not-is_end.false)))

pub returns-clause-ok : goal.returns-clause-ok
returns-clause-ok c =
    let stop = c.in_ok-stop.stop in
    let end : (is_closer (seen_front stop.found) && (length stop.rest.now == 1)) ≡ true = grind (arith, c.is_end.ensures, c.if-not-is_end.false) in
    record {
      decoded = decoded_there literals.Template c.args.options c.args.text.now c.in-Some.inner.now stop c.in-Some.ensures c.in_ok-stop.ensures end _ c.in_ok-body.ensures;
      span_is = whole_span c.args.text.now c.args.options _ _ c.new-span.ensures (c.end.ensures ∙ ends_after literals.Template c.args.options c.args.text.now c.in-Some.inner.now stop c.in-Some.ensures c.in_ok-stop.ensures end);
    }

pub returns-then-not-is_end-clause-err : goal.returns-then-not-is_end-clause-err
returns-then-not-is_end-clause-err c =
    let reached = stop_reached literals.Template c.args.options c.args.text.now c.in-Some.inner.now c.in_ok-stop.stop c.in-Some.ensures c.in_ok-stop.ensures in
    inr (subst (λ (f : TemplateFault). IsTemplateFault c.args.options c.args.text.now f) (sym c.fault.ensures)
    (template_fault_stands c.args.options c.args.text.now _ reached _ c.in_ok-stop.ensures.found c.in_ok-stop.ensures.ends (grind (arith, c.is_end.ensures, c.if-not-is_end.true))))
