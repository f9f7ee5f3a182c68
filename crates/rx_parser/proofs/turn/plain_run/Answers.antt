use Rattle.std.proofs.Common.{◌≡◌, ◌∙◌, ap, ap₂, sym, subst, ℕ, ◌+◌, ◌-◌, ◌<◌, ◌≤◌, length, drop, take, arith, length-drop, length-take, All}
use Rattle.std.proofs.lemmas.List.{drop-drop}
use Rattle.rx_parser.proofs.Common.{Span, CodePoint, rest, character, IsLeafOf, IsParsing, unit_kind, offset_at}
use Rattle.rx_units.specs.Cursor.{front_kind}
use Rattle.rx_parser.specs.Found.{leaf_term}
use Rattle.rx_parser.specs.declared.found.Leaf.TheVariants as found
use Rattle.rx_parser.proofs.Leaves.{leaf_term_is}
use Rattle.rx_parser.proofs.PlainRuns.{first_fits, first_unit, run_on, unit_end, unit_is, unit_plain}
use Rattle.rx_parser.proofs.Turns.{between}
use Rattle.rx_parser.proofs.turn.plain_run.Goals as goal

pub end_of-end-requires-clause-within : goal.end_of-end-requires-clause-within
end_of-end-requires-clause-within g c =
    let first = first_unit c.loop-value.left c.in-Some.value (sym c.first.ensures ∙ c.in-Some.is) in
    omega (arith, ap length first.2)

pub from-left-requires : goal.from-left-requires
from-left-requires g c =
    let first = first_unit c.loop-value.left c.in-Some.value (sym c.first.ensures ∙ c.in-Some.is) in
    omega (arith, ap length first.2)

pub loop-value-smaller : goal.loop-value-smaller
loop-value-smaller g c =
    let left = c.loop-value.left in
    let first = first_unit left c.in-Some.value (sym c.first.ensures ∙ c.in-Some.is) in
    omega (arith, ap length first.2, ap length c.from-left.ensures.units, length-drop 1 left)

pub create-end-requires : goal.create-end-requires
create-end-requires g c =
    let fits = first_fits c.args.count (c.args.count - length c.loop-value.left) c.requires.before.fits c.loop-value.invariant.left (sym c.first.ensures ∙ c.in-Some.is) c.end_of-end.ensures in
    record { start = fits; end = fits }

pub loop-value-preserved : goal.loop-value-preserved
loop-value-preserved g c =
    let r = c.args.reader.now in
    let added = c.args.spans.now in
    let count = c.args.count in
    let was = c.loop-value.invariant in
    let left = c.loop-value.left in
    let start = c.loop-value.start in
    let i : ℕ = count - length left in
    let first = first_unit left c.in-Some.value (sym c.first.ensures ∙ c.in-Some.is) in
    let u : CodePoint = first.0 in
    let left_is = first.2 in
    let stands : left ≡ drop i (take count (rest r)) = was.left in
    let here = sym stands ∙ left_is in
    let within : count ≤ length (rest r) = c.requires.within in
    let held : length left ≤ count = omega (arith, within, ap length stands, length-drop i (take count (rest r)), length-take count (rest r)) in
    let inside : i < count = omega (arith, ap length left_is, held) in
    let after : c.from-left.result ≡ drop 1 left = c.from-left.ensures.units in
    let next : count - length c.from-left.result ≡ i + 1 = omega (arith, ap length left_is, held, ap length after, length-drop 1 left) in
    let some : i < length (rest r) = omega (arith, inside, within) in
    let is = unit_is (rest r) count i u first.1 here inside in
    let end_is : c.create-end.result.end ≡ u.span.end + added =
    ap (λ (s : Span). s.end) c.create-end.ensures ∙ ap (λ k. k + added) (c.end_of-end.ensures 0 ∙ ap (λ us. offset_at 0 us 1) left_is) in
    let kind_is = c.unit_kind-kind.ensures ∙ ap unit_kind (c.escape_kind.ensures ∙ ap front_kind left_is) in
    let term_is = c.term.ensures ∙ ap₂ leaf_term (ap₂ found.Character kind_is first.3) (c.new.ensures ∙ ap (between start) end_is) in
    let it = c.in_ok-leaf.ensures in
    let P : CodePoint → Type 0 = λ (u : CodePoint). u.value ≤ 0x10FFFF in
    let its : IsLeafOf c.term.result (character (unit_kind u.escape_kind) u.value) start (u.span.end + added) =
    subst (λ t. IsLeafOf t (character (unit_kind u.escape_kind) u.value) start (u.span.end + added)) (sym term_is) (leaf_term_is (found.Character (unit_kind u.escape_kind) u.value) (between start (u.span.end + added))) in
    let parsing = run_on c.requires.before i u some is c.loop-value.builder c.leaf.new.self c.term.result start (subst (All P) c.ahead.ensures.units c.ahead.ensures.code_points) (unit_plain (rest r) count i u first.1 here inside c.requires.plain) was.parsing was.start
    (record { leaf = its; grows = record { events = it.events; openers_are = it.openers; ready_is = it.ready; good = it.good (its.good c.loop-value.builder.mode); fixed = it.fixed } }) in
    record {
      left = after ∙ ap (drop 1) stands ∙ drop-drop 1 i (take count (rest r)) ∙ ap (λ k. drop k (take count (rest r))) (sym next);
      parsing = subst (λ k. IsParsing c.args.builder.now.mode c.args.builder.now.rules r.units r.first added c.leaf.new.self (r.place + k)) (sym next) parsing;
      start = end_is ∙ ap (λ k. k + added) (unit_end r i u some is ∙ ap (λ k. offset_at r.first r.units (r.place + k)) (sym next));
      steps = omega (arith, was.steps, next);
    }
