use Rattle.std.proofs.Common.{◌≡◌, ℕ, List, ◌∷◌, ◌++◌, [], subst, arith, length-drop}
use Rattle.std.specs.Prelude.{IfOk}
use Rattle.rx_parser.proofs.Common.{Builder, Pattern, CodePoint, IfOk-weaker, IsGood, IsWellMade, Mode, Rules, State, IsWhole, builder_events, events, fixed_parts, leave, Parse}
use Rattle.rx_parser.proofs.Endings.{parsing_ended}
use Rattle.rx_parser.proofs.pattern_parser.read_pattern.Goals as goal

-- What was read to its end is what was given.
whole_same : {S U : Type 0} (p q : Parse S U) (tree : Pattern) → fixed_parts q ≡ fixed_parts p → IsWhole q.builder.mode q.builder.rules q.reader.units q.reader.first q.spans tree
    → IsWhole p.builder.mode p.builder.rules p.reader.units p.reader.first p.spans tree
whole_same p q tree kept h = subst (λ (k : Mode × Rules × List CodePoint × ℕ × ℕ × State). IsWhole k.0 k.1 k.2 k.3 k.4 tree) kept h

pub returns-clause-whole : goal.returns-clause-whole
returns-clause-whole g c =
    let p = c.args.parse in
    let q = c.take_turns.new.parse in
    let r = q.reader in
    let it = c.in_ok-end.ensures in
    let on = it.under_way in
    let at = c.in_ok-end.end in
    IfOk-weaker c.finish.result (λ tree. (events tree ≡ builder_events q.builder ++ (leave at ∷ leave at ∷ leave at ∷ [])) × (IsGood q.builder → IsWellMade q.builder.mode tree))
    (IsWhole p.builder.mode p.builder.rules p.reader.units p.reader.first p.spans)
    (λ tree made. whole_same p q tree it.kept
    (parsing_ended q.builder.mode q.builder.rules r.units r.first q.spans tree on.pass.no_clash on.pass.in_limit q.builder r.place at on.parsing
    (omega (arith, it.left, length-drop r.place r.units)) it.end made.0 made.1))
    (subst (λ (b : Builder). IfOk c.finish.result (λ tree. (events tree ≡ builder_events b ++ (leave at ∷ leave at ∷ leave at ∷ [])) × (IsGood b → IsWellMade b.mode tree))) c.into_builder.ensures c.finish.ensures.pattern)
