use Rattle.std.proofs.Common.{◌^◌, ◌<◌, length, refl, rules, ap, arith, length-drop}
use Rattle.rx_units.specs.Quoted.Texts.{byte_count, no_element}
use Rattle.rx_units.proofs.Quoted.Plain.{plain_fits, plain_taken, plain_turn}
use Rattle.rx_units.proofs.Quoted.Widths.{byte_split}
use Rattle.rx_units.proofs.quoted_text.reading.push_plain.Goals as goal

pub loop-value-init : goal.loop-value-init
loop-value-init c = record {
  leads = λ literal o. no_element;
  bytes = refl;
}

pub overflow_cast-end : goal.overflow_cast-end
overflow_cast-end c =
    let fits = plain_fits c.in-Some.ensures c.loop-value.offset _ c.loop-value.invariant.bytes c.requires in
    let small : c.in-Some.length < 2 ^ 32 = omega (arith, fits) in
    search (rules, small)

pub overflow_add-end : goal.overflow_add-end
overflow_add-end c =
    let fits = plain_fits c.in-Some.ensures c.loop-value.offset _ c.loop-value.invariant.bytes c.requires in
    search (rules, fits)

pub rest_after-rest-requires : goal.rest_after-rest-requires
rest_after-rest-requires c = (plain_taken c.in-Some.ensures).within

pub loop-value-smaller : goal.loop-value-smaller
loop-value-smaller c = omega (arith, ap length c.rest_after-rest.ensures, length-drop c.in-Some.length c.loop-value.rest.now, (plain_taken c.in-Some.ensures).some, (plain_taken c.in-Some.ensures).within)

pub loop-value-preserved : goal.loop-value-preserved
loop-value-preserved c = record {
  leads = λ literal o. plain_turn c.loop-value.units c.loop-value.offset c.loop-value.rest.now c.in-Some.value c.in-Some.length c.in-Some.ensures literal o _ c.push.new.self c.rest_after-rest.result.now c.new.result
      (c.loop-value.invariant.leads literal o) c.rest_after-rest.ensures c.new.ensures c.in_ok-push.ensures.ok;
  bytes = omega (arith, byte_split c.in-Some.length c.loop-value.rest.now, c.in-Some.ensures.bytes, c.loop-value.invariant.bytes, ap byte_count c.rest_after-rest.ensures);
}
