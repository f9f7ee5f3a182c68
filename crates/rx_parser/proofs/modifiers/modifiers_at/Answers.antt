use Rattle.std.proofs.Common.{◌≡◌, ◌∙◌, ap, ap₂, cond, drop, false, sym, true}
use Rattle.rx_parser.proofs.Common.{values, starts, are_bits, no_colon, no_modifiers_read, read_bits, read_sides, modified_read, found_front}
use Rattle.rx_parser.proofs.ModifiersFound.{letters_there}
use Rattle.rx_parser.proofs.modifiers.modifiers_at.Goals as goal

pub returns-then-not-stands_at-clause-found : goal.returns-then-not-stands_at-clause-found
returns-then-not-stands_at-clause-found g c =
    let us = values c.args.units.now in
    let s = c.sides_at-sides.result in
    let there : starts 58 (drop s.length us) ≡ false = sym c.if-not-stands_at.ensures.there in
    c.halt.ensures
    ∙ ap (λ b. found_front (modified_read (cond b (read_bits (are_bits (values s.enabling)) (are_bits (values s.disabling)) s.length) (no_modifiers_read no_colon s.length)))) (sym there)
    ∙ ap (λ r. found_front (modified_read (read_sides r us))) c.sides_at-sides.ensures.sides

pub bits_of-requires : goal.bits_of-requires
bits_of-requires g c =
    let s = c.sides_at-sides.result in
    (letters_there (values c.args.units.now) (values s.enabling) (values s.disabling) s.length c.sides_at-sides.ensures.sides).0

pub bits_of-requires-2 : goal.bits_of-requires-2
bits_of-requires-2 g c =
    let s = c.sides_at-sides.result in
    (letters_there (values c.args.units.now) (values s.enabling) (values s.disabling) s.length c.sides_at-sides.ensures.sides).1

pub returns-clause-found : goal.returns-clause-found
returns-clause-found g c =
    let us = values c.args.units.now in
    let s = c.sides_at-sides.result in
    let there : starts 58 (drop s.length us) ≡ true = sym c.if-not-stands_at.ensures.there in
    c.modified.ensures
    ∙ ap₂ (λ a b. found_front (modified_read (read_bits a b s.length))) c.bits_of.ensures.bits c.bits_of-2.ensures.bits
    ∙ ap (λ b. found_front (modified_read (cond b (read_bits (are_bits (values s.enabling)) (are_bits (values s.disabling)) s.length) (no_modifiers_read no_colon s.length)))) (sym there)
    ∙ ap (λ r. found_front (modified_read (read_sides r us))) c.sides_at-sides.ensures.sides
