use Rattle.std.proofs.Common.{◌≡◌, arith, rules}
use Rattle.rx_class.proofs.Common.{values, seen_escape}
use Rattle.std.proofs.lemmas.Grind.{common_steps}
use Rattle.rx_model.specs.Characters.EscapeFronts.{escape_at}
use Rattle.rx_class.proofs.EscapeReading.Bounds.{read_within}
use Rattle.rx_class.proofs.escapes.found.character_escape_at.Goals as goal

pub returns-in-Some-x-clause-within : goal.returns-in-Some-x-clause-within
unfolding escape_at
returns-in-Some-x-clause-within g c =
    let read : seen_escape c.hexadecimal.result ≡ escape_at c.args.unicode_mode (values c.args.units.now) = first_of (search rules, grind (arith, common_steps)) in
    read_within c.args.unicode_mode c.args.units.now c.hexadecimal.result read

pub returns-in-Some-u-clause-within : goal.returns-in-Some-u-clause-within
unfolding escape_at
returns-in-Some-u-clause-within g c =
    let read : seen_escape c.unicode.result ≡ escape_at c.args.unicode_mode (values c.args.units.now) = first_of (search rules, grind (arith, common_steps)) in
    read_within c.args.unicode_mode c.args.units.now c.unicode.result read
