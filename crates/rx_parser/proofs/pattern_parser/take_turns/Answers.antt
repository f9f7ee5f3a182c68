use Rattle.std.proofs.Common.{◌≡◌, ◌≤◌, ◌+◌, ◌*◌, ℕ, [], false, refl, sym, subst, List, length, drop, arith, length-drop, rules}
use Rattle.rx_parser.proofs.Common.{Fault, Cursor, rest, CodePoint, HasMore, IsUnderWay, Mode, Rules, State, openers, IsTurnPaced, IsRefused, RefusesText, fixed_parts, Parse}
use Rattle.rx_parser.proofs.Halts.{ended_refused}
use Rattle.rx_parser.proofs.Paces.{plain_within}
use Rattle.rx_parser.proofs.pattern_parser.take_turns.Goals as goal

-- What is answered after some turns is answered to what was given before them.
refuses_same : {S U : Type 0} (p q : Parse S U) (fault : Fault) → fixed_parts q ≡ fixed_parts p → RefusesText q fault → RefusesText p fault
refuses_same p q fault kept h = subst (λ (k : Mode × Rules × List CodePoint × ℕ × ℕ × State). IsRefused k.0 k.1 k.2 k.3 k.4 fault) kept h

-- at the end of the text
end_paced : (from to : Cursor) (old new : ℕ) → IsTurnPaced old new from to → length (rest to) ≡ 0 → new ≤ old + 7 * length from.units + 8
end_paced from to old new pace none = omega (arith, none, pace.1, plain_within (rest to), length-drop from.place from.units)

-- something is left
has_more : {S U : Type 0} (p : Parse S U) → IsUnderWay p → (length (rest p.reader) ≡ 0 → ⊥) → HasMore p
has_more p h some = record { under_way = h; left = omega (arith, some, length-drop p.reader.place p.reader.units, h.parsing.within) }

pub loop-parse-init : goal.loop-parse-init
loop-parse-init g c = record { under_way = c.requires; kept = refl; pace = (omega arith, omega arith) }

pub take_common-requires : goal.take_common-requires
take_common-requires g c = has_more c.loop-parse.parse c.loop-parse.invariant.under_way (search rules)

pub take_token-requires : goal.take_token-requires
take_token-requires g c =
    let it = c.in_ok-take_common in
    let none : it.field-0 ≡ false = cc in
    let same : c.take_common.new.self ≡ c.loop-parse.parse = rw none at it.ensures.turned in
    subst HasMore (sym same) (has_more c.loop-parse.parse c.loop-parse.invariant.under_way (search rules))

pub returns-then-not-is_whole-clause-refused : goal.returns-then-not-is_whole-clause-refused
returns-then-not-is_whole-clause-refused g c =
    let q = c.loop-parse.parse in
    let r = q.reader in
    let it = c.loop-parse.invariant in
    let on = it.under_way in
    let left : length (drop r.place r.units) ≡ 0 = search rules in
    let some : openers q.builder ≡ [] → ⊥ = search rules in
    refuses_same c.args.parse.now q c.fault_at_end.result it.kept
    (ended_refused r.units r.first q.spans q.builder r.place on.parsing on.pass.no_clash on.pass.in_limit (omega (arith, left, length-drop r.place r.units, on.parsing.within)) some c.fault_at_end.result c.fault_at_end.ensures)

pub returns-then-not-is_whole-clause-steps : goal.returns-then-not-is_whole-clause-steps
returns-then-not-is_whole-clause-steps g c = end_paced c.args.parse.now.reader c.loop-parse.parse.reader (g.C.Counter.count c.args.steps.now) (g.C.Counter.count c.loop-parse.steps) c.loop-parse.invariant.pace (search rules)

pub returns-clause-steps : goal.returns-clause-steps
returns-clause-steps g c = end_paced c.args.parse.now.reader c.loop-parse.parse.reader (g.C.Counter.count c.args.steps.now) (g.C.Counter.count c.loop-parse.steps) c.loop-parse.invariant.pace (search rules)
