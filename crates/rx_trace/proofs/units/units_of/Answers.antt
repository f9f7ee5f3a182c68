use Rattle.std.proofs.Common.{ap, sym, ◌∙◌, ◌++◌, length, append-nil, arith}
use Rattle.std.proofs.lemmas.Iterator.{YieldsList-from_chars}
use Rattle.std.proofs.lemmas.Iterator.Consumers.{YieldsList-turn, YieldsList-end}
use Rattle.std.proofs.lemmas.List.{at_drop_all, length_push}
use Rattle.std.specs.Str.{chars}
use Rattle.rx_trace.specs.Units.{text_values}
use Rattle.rx_trace.proofs.Characters.{values_are, units_on}
use Rattle.rx_trace.proofs.units.units_of.Goals as goal

pub loop-c-init : goal.loop-c-init
loop-c-init c = ap (λ us. us ++ text_values c.args.unicode_mode (chars c.args.text.now)) c.new-units.ensures

pub loop-c-preserved : goal.loop-c-preserved
loop-c-preserved c =
    let t = YieldsList-turn (YieldsList-from_chars c.args.text.now c.utf8.text cc) c.loop-c.yielded _ c.loop-c.yielded_by _ _ c.in-Some.c c.in-Some.is c.next.ensures.steps in
    rw (length_push c.loop-c.yielded c.in-Some.c)
    (units_on c.args.unicode_mode (chars c.args.text.now) (length c.loop-c.yielded) c.in-Some.c c.loop-c.units c.push_units.new.units _ t c.loop-c.invariant c.in_ok-push_units.ensures)

pub returns : goal.returns
returns c =
    let t = YieldsList-end (YieldsList-from_chars c.args.text.now c.utf8.text cc) c.loop-c.yielded _ c.loop-c.yielded_by _ _ c.in-None.is c.next.ensures.steps in
    sym (append-nil c.loop-c.units) ∙ ap (λ xs. c.loop-c.units ++ xs) (sym (at_drop_all (text_values c.args.unicode_mode) (chars c.args.text.now) (length c.loop-c.yielded) (omega (arith, t.1)))) ∙ c.loop-c.invariant
    ∙ sym (values_are c.args.unicode_mode 0 (chars c.args.text.now))
