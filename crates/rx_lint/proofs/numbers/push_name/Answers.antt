use Rattle.std.proofs.Common.{ap, sym, ◌∙◌, ◌++◌, refl, length, arith}
use Rattle.std.proofs.lemmas.Iterator.{YieldsList-from_chars}
use Rattle.std.proofs.lemmas.Iterator.Consumers.{YieldsList-turn, YieldsList-end}
use Rattle.std.proofs.lemmas.List.{at_drop_all, length_push}
use Rattle.std.specs.Str.{chars}
use Rattle.rx_lint.specs.Numbers.{name_numbers}
use Rattle.rx_lint.proofs.NodeNumbers.{name_on}
use Rattle.rx_lint.proofs.numbers.push_name.Goals as goal

pub loop-c-init : goal.loop-c-init
loop-c-init c = refl

pub loop-c-preserved : goal.loop-c-preserved
loop-c-preserved c =
    let t = YieldsList-turn (YieldsList-from_chars c.args.name.now c.utf8.name cc) c.loop-c.yielded _ c.loop-c.yielded_by _ _ c.in-Some.c c.in-Some.is c.next.ensures.steps in
    rw (length_push c.loop-c.yielded c.in-Some.c) (name_on (chars c.args.name.now) (length c.loop-c.yielded) c.in-Some.c _ _ _ _ t c.loop-c.invariant c.in_ok-push.ensures.ok c.in_ok-push-2.ensures.ok)

pub returns : goal.returns
returns c =
    let t = YieldsList-end (YieldsList-from_chars c.args.name.now c.utf8.name cc) c.loop-c.yielded _ c.loop-c.yielded_by _ _ c.in-None.is c.next.ensures.steps in
    c.in_ok-push-3.ensures.ok ∙ ap (λ xs. c.loop-c.numbers ++ xs) (sym (at_drop_all name_numbers (chars c.args.name.now) (length c.loop-c.yielded) (omega (arith, t.1)))) ∙ c.loop-c.invariant
