use Rattle.std.proofs.Common.{ℕ, ◌+◌, ◌++◌, length, refl, ap, sym, ◌∙◌, arith, append-nil, add-zero}
use Rattle.std.proofs.lemmas.Iterator.{YieldsList-from_chars}
use Rattle.std.proofs.lemmas.Iterator.Consumers.{YieldsList-turn, YieldsList-end}
use Rattle.std.proofs.lemmas.List.{at_drop_all, length_push}
use Rattle.std.proofs.lemmas.Str.{encodes-chars}
use Rattle.std.specs.Str.{chars}
use Rattle.rx_units.specs.Units.{literal_units}
use Rattle.rx_units.proofs.Literals.{bytes_turn, units_preserved}
use Rattle.rx_units.proofs.literal.parse_regexp_literal.Goals as goal

pub loop-c-init : goal.loop-c-init
loop-c-init c = record {
  units = rw (c.in_ok-body.ensures, add-zero) refl;
  bytes = omega (arith, ap length (encodes-chars c.args.source_text.now c.utf8.source_text));
}

pub overflow_add-end : goal.overflow_add-end
overflow_add-end c =
    let t = YieldsList-turn (YieldsList-from_chars c.args.source_text.now c.utf8.source_text cc) c.loop-c.yielded _ c.loop-c.yielded_by _ _ c.in-Some.c c.in-Some.is c.next.ensures.steps in
    let b = bytes_turn (chars c.args.source_text.now) (length c.loop-c.yielded) c.in-Some.c c.loop-c.at t in
    omega (arith, c.loop-c.invariant.bytes, c.requires)

pub handle_code_point-requires-clause-offset : goal.handle_code_point-requires-clause-offset
handle_code_point-requires-clause-offset c =
    let t = YieldsList-turn (YieldsList-from_chars c.args.source_text.now c.utf8.source_text cc) c.loop-c.yielded _ c.loop-c.yielded_by _ _ c.in-Some.c c.in-Some.is c.next.ensures.steps in
    let b = bytes_turn (chars c.args.source_text.now) (length c.loop-c.yielded) c.in-Some.c c.loop-c.at t in
    omega (arith, c.loop-c.invariant.bytes, c.requires, c.width.ensures)

pub loop-c-preserved : goal.loop-c-preserved
loop-c-preserved c =
    let t = YieldsList-turn (YieldsList-from_chars c.args.source_text.now c.utf8.source_text cc) c.loop-c.yielded _ c.loop-c.yielded_by _ _ c.in-Some.c c.in-Some.is c.next.ensures.steps in
    let b = bytes_turn (chars c.args.source_text.now) (length c.loop-c.yielded) c.in-Some.c c.loop-c.at t in
    let n : ℕ = c.args.span_offset + (c.loop-c.at + c.width.result) in
    rw (length_push c.loop-c.yielded c.in-Some.c) record {
      units = units_preserved (chars c.args.source_text.now) (length c.loop-c.yielded) c.in-Some.c (c.args.span_offset + c.loop-c.at) t c.args.combine_surrogate_pair n
          c.loop-c.body c.handle_code_point.new.body _ (omega (arith, c.width.ensures)) c.loop-c.invariant.units c.in_ok-handle_code_point.ensures.ok;
      bytes = omega (arith, c.loop-c.invariant.bytes, c.width.ensures);
    }

pub returns : goal.returns
returns c =
    let t = YieldsList-end (YieldsList-from_chars c.args.source_text.now c.utf8.source_text cc) c.loop-c.yielded _ c.loop-c.yielded_by _ _ c.in-None.is c.next.ensures.steps in
    sym (append-nil c.loop-c.body) ∙ ap (λ xs. c.loop-c.body ++ xs) (sym (at_drop_all (literal_units c.args.combine_surrogate_pair (c.args.span_offset + c.loop-c.at)) (chars c.args.source_text.now) (length c.loop-c.yielded) (omega (arith, t.1)))) ∙ c.loop-c.invariant.units
