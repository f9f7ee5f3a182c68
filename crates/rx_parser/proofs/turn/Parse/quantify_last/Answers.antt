use Rattle.std.proofs.Common.{◌≡◌, ◌∙◌, refl, ap, sym, ◌+◌, true, arith}
use Rattle.rx_parser.proofs.Common.{Cursor, offset_of, front_spelled, quantifier, rest, spelled_some, text_environment, text_names}
use Rattle.rx_parser.proofs.Turns.{before, has_turned, passed, quantifier_turned}
use Rattle.rx_parser.proofs.turn.Parse.quantify_last.Goals as goal

pub end_after-end-requires-clause-some : goal.end_after-end-requires-clause-some
end_after-end-requires-clause-some g c =
    let p = c.args.self.now in
    let e = text_environment p.builder.mode p.builder.rules p.reader.units in
    let t = quantifier c.args.counts.0 c.args.counts.1 c.args.greedy in
    let it = front_spelled e (rest p.reader) t c.args.length c.requires.found.0 in
    omega (arith, it.count, spelled_some e t it.w it.rest it.spells)

pub returns-clause-turned : goal.returns-clause-turned
returns-clause-turned g c =
    let p = c.args.self.now in
    let h = before c.requires.more in
    let counts = c.args.counts in
    let it = c.in_ok-quantify in
    let some : it.field-0 ≡ true = cc in
    let moved = c.skip_counted.ensures.reader in
    let end = c.end_after-end in
    has_turned c.requires.more
    (quantifier_turned h c.quantify.new.self c.skip_counted.new.self counts.0 counts.1 c.args.greedy c.args.length (offset_of p.reader + p.spans) end.result
    (passed h c.requires.found refl (end.ensures ∙ ap (λ (r : Cursor). offset_of r + p.spans) (sym moved)) moved) (c.requires.found.2 (text_names p.builder.mode p.reader.units)) (record {
      ready_was = it.ensures.answer ∙ some;
      events = it.ensures.events some;
      openers_are = it.ensures.openers some;
      ready_is = it.ensures.ready some;
      good = it.ensures.good some;
      fixed = it.ensures.fixed;
    })) refl refl
