use Rattle.std.proofs.Common.{◌≡◌, ◌∙◌, ◌++◌, ◌+◌, ◌<◌, ◌^◌, ap, sym, ℕ, List, length, append-nil, arith, rules}
use Rattle.std.proofs.lemmas.Iterator.{YieldsList-from_chars}
use Rattle.std.proofs.lemmas.Iterator.Consumers.{YieldsList-turn, YieldsList-end}
use Rattle.std.proofs.lemmas.List.{at_drop_all, length_push}
use Rattle.std.specs.Str.{chars}
use Rattle.rx_places.specs.Places.{all_units, later_units}
use Rattle.rx_places.proofs.Tables.{later_on, text_bytes, units_on, units_stay}
use Rattle.rx_places.proofs.places.units_before_bytes.Goals as goal

pub overflow_add-units : goal.overflow_add-units
overflow_add-units c =
    let t = YieldsList-turn (YieldsList-from_chars c.args.text.now c.utf8.text cc) c.loop-c.yielded _ c.loop-c.yielded_by _ _ c.in-Some.c c.in-Some.is c.next.ensures.steps in
    let stay = units_stay (chars c.args.text.now) (length c.loop-c.yielded) c.in-Some.c t c.loop-c.units _ c.units_of-units.ensures c.loop-c.invariant.units in
    let fits : c.loop-c.units + c.units_of-units.result < 2 ^ 32 = omega (arith, stay, text_bytes c.args.text.now c.utf8.text, c.requires) in
    search (rules, fits)

pub loop-c-preserved : goal.loop-c-preserved
loop-c-preserved c =
    let t = YieldsList-turn (YieldsList-from_chars c.args.text.now c.utf8.text cc) c.loop-c.yielded _ c.loop-c.yielded_by _ _ c.in-Some.c c.in-Some.is c.next.ensures.steps in
    rw (length_push c.loop-c.yielded c.in-Some.c)
    (record {
      table = later_on (chars c.args.text.now) (length c.loop-c.yielded) c.in-Some.c t c.loop-c.units _ _ c.loop-c.table c.push_often.new.table _ c.len_utf8.ensures.value c.units_of-units.ensures c.loop-c.invariant.table c.in_ok-push_often.ensures;
      units = units_on (chars c.args.text.now) (length c.loop-c.yielded) c.in-Some.c t c.loop-c.units _ _ c.units_of-units.ensures c.loop-c.invariant.units;
    })

pub returns-clause-table : goal.returns-clause-table
unfolding later_units
returns-clause-table c =
    let t = YieldsList-end (YieldsList-from_chars c.args.text.now c.utf8.text cc) c.loop-c.yielded _ c.loop-c.yielded_by _ _ c.in-None.is c.next.ensures.steps in
    sym (append-nil c.loop-c.table) ∙ ap (λ (xs : List ℕ). c.loop-c.table ++ xs) (sym (at_drop_all (later_units c.loop-c.units) (chars c.args.text.now) (length c.loop-c.yielded) (omega (arith, t.1)))) ∙ c.loop-c.invariant.table

pub returns-clause-all : goal.returns-clause-all
unfolding all_units
returns-clause-all c =
    let t = YieldsList-end (YieldsList-from_chars c.args.text.now c.utf8.text cc) c.loop-c.yielded _ c.loop-c.yielded_by _ _ c.in-None.is c.next.ensures.steps in
    let none = at_drop_all all_units (chars c.args.text.now) (length c.loop-c.yielded) (omega (arith, t.1)) in
    omega (arith, c.loop-c.invariant.units, none)
