use Rattle.std.proofs.Common.{◌∙◌, ◌+◌, arith, length, sym}
use Rattle.rx_parser.proofs.Common.{Rises, plain}
use Rattle.rx_parser.proofs.Looks.{escape_steps, property_run, syntax_steps}
use Rattle.rx_parser.proofs.Paces.{run_under_plain}
use Rattle.rx_parser.proofs.front.backslash_at.Goals as goal

pub returns-then-is_reference-clause-steps : goal.returns-then-is_reference-clause-steps
returns-then-is_reference-clause-steps g c =
    let us = c.args.following.now in
    let old = g.C.Counter.count c.args.steps.now in
    let mid = g.C.Counter.count c.is_reference.new.steps in
    let first : Rises old mid 0 (plain us + 1) = (omega (arith, c.is_reference.ensures.steps), omega (arith, c.is_reference.ensures.steps, run_under_plain us)) in
    syntax_steps us old mid (g.C.Counter.count c.indexed_reference.new.steps) (length us) c.indexed_reference.result first (omega arith) c.indexed_reference.ensures.steps

pub returns-then-is_named-clause-steps : goal.returns-then-is_named-clause-steps
returns-then-is_named-clause-steps g c =
    let us = c.args.following.now in
    let old = g.C.Counter.count c.args.steps.now in
    let mid = g.C.Counter.count c.is_reference.new.steps in
    let first : Rises old mid 0 (plain us + 1) = (omega (arith, c.is_reference.ensures.steps), omega (arith, c.is_reference.ensures.steps, run_under_plain us)) in
    syntax_steps us old mid (g.C.Counter.count c.named_reference.new.steps) _ c.named_reference.result first (omega (arith, c.in-Some.ensures.counted)) c.named_reference.ensures.steps

pub returns-then-is_unicode-clause-steps : goal.returns-then-is_unicode-clause-steps
returns-then-is_unicode-clause-steps g c =
    let none = property_run c.args.following.now _ _ c.in-Some.ensures.values (sym c.begins_property.ensures ∙ c.if-begins_property.true) in
    (omega (arith, c.is_reference.ensures.steps), omega (arith, c.is_reference.ensures.steps, none))

pub returns-clause-steps : goal.returns-clause-steps
returns-clause-steps g c =
    escape_steps c.args.following.now (g.C.Counter.count c.args.steps.now) (g.C.Counter.count c.is_reference.new.steps) (g.C.Counter.count c.escape_at.new.steps) c.escape_at.result
    c.is_reference.ensures.steps c.escape_at.ensures.steps
