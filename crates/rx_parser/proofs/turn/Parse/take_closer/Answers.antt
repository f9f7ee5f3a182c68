use Rattle.std.proofs.Common.{◌≡◌, ◌∙◌, refl, ap, sym, ◌+◌, true}
use Rattle.rx_parser.proofs.Common.{Cursor, offset_of}
use Rattle.rx_parser.proofs.Turns.{before, close_turned, has_turned, passed}
use Rattle.rx_parser.proofs.turn.Parse.take_closer.Goals as goal

pub returns-clause-turned : goal.returns-clause-turned
returns-clause-turned g c =
    let p = c.args.self.now in
    let h = before c.requires.more in
    let it = c.in_ok-close in
    let some : it.field-0 ≡ true = cc in
    let closed = it.ensures.openers some in
    let moved = c.skip_counted.ensures.reader in
    has_turned c.requires.more
    (close_turned h c.close.new.self c.skip_counted.new.self c.here-start.result c.end_after-end.result closed.0
    (passed h c.requires.found c.here-start.ensures (c.end_after-end.ensures ∙ ap (λ (r : Cursor). offset_of r + p.spans) (sym moved)) moved) closed.1
    (record { events = it.ensures.events some; openers_are = refl; ready_is = closed.2; good = it.ensures.good some; fixed = it.ensures.fixed })) refl refl
