use Rattle.std.proofs.Common.{◌+◌, ◌^◌, ◌<◌, length, rules, ap, subst, arith, length-drop}
use Rattle.rx_units.specs.Quoted.Texts.{place_after_opening, byte_count, Leads}
use Rattle.rx_units.proofs.Quoted.Turns.{lead_on, onward, place, turn}
use Rattle.rx_units.proofs.Quoted.Widths.{byte_split, taken}
use Rattle.rx_units.proofs.quoted_text.reading.elements.Goals as goal

pub loop-element-init : goal.loop-element-init
loop-element-init c = subst (λ us. Leads c.args.literal c.args.options (place us (c.args.options.span_offset + 1) c.args.inner.now) (place c.push_plain.new.units c.in_ok-offset.offset c.in_ok-offset.rest.now))
    c.in_ok-units.ensures (c.in_ok-offset.ensures c.args.literal c.args.options)

pub width-requires-clause-within : goal.width-requires-clause-within
width-requires-clause-within c = (taken c.args.literal c.loop-element.rest.now c.in-Some.element c.in-Some.length c.in-Some.ensures.0).within

pub width-requires-clause-bytes : goal.width-requires-clause-bytes
width-requires-clause-bytes c = omega (arith, (onward c.loop-element.invariant).bytes, c.requires.fits)

pub overflow_add-end : goal.overflow_add-end
overflow_add-end c =
    let part = byte_split c.in-Some.length c.loop-element.rest.now in
    let small : c.loop-element.offset + c.width.result < 2 ^ 32 = omega (arith, part, (onward c.loop-element.invariant).bytes, c.requires.fits, c.width.ensures) in
    search (rules, small)

pub push_element-requires-clause-value : goal.push_element-requires-clause-value
push_element-requires-clause-value c =
    (taken c.args.literal c.loop-element.rest.now c.in-Some.element c.in-Some.length c.in-Some.ensures.0).small ((onward c.loop-element.invariant).characters c.requires.code_points)

pub rest_after-requires : goal.rest_after-requires
rest_after-requires c = (taken c.args.literal c.loop-element.rest.now c.in-Some.element c.in-Some.length c.in-Some.ensures.0).within

pub push_plain-requires-in-Some : goal.push_plain-requires-in-Some
push_plain-requires-in-Some c =
    let part = byte_split c.in-Some.length c.loop-element.rest.now in
    omega (arith, part, (onward c.loop-element.invariant).bytes, c.requires.fits, c.width.ensures, ap byte_count c.rest_after.ensures)

pub loop-element-smaller : goal.loop-element-smaller
loop-element-smaller c =
    let t = taken c.args.literal c.loop-element.rest.now c.in-Some.element c.in-Some.length c.in-Some.ensures.0 in
    let on = onward (c.in_ok-offset-2.ensures c.args.literal c.args.options) in
    omega (arith, ap length c.rest_after.ensures, length-drop c.in-Some.length c.loop-element.rest.now, t.some, t.within, on.shorter)

pub loop-element-preserved : goal.loop-element-preserved
loop-element-preserved c = lead_on
    (turn c.args.literal c.args.options (place_after_opening c.args.options c.args.inner.now) c.loop-element.units c.loop-element.offset c.loop-element.rest.now c.in-Some.element c.in-Some.length
    c.push_element.new.units (c.loop-element.offset + c.width.result) c.rest_after.result.now c.loop-element.invariant c.in-Some.ensures.0 c.in-Some.ensures.1
    (omega (arith, c.width.ensures)) c.rest_after.ensures c.in_ok-push_element.ensures.ok)
    (c.in_ok-offset-2.ensures c.args.literal c.args.options)

pub returns : goal.returns
returns c = record {
  leads = c.loop-element.invariant;
  found = c.front-found.ensures;
  ends = c.in_default.ensures;
  bytes = (onward c.loop-element.invariant).bytes;
}
