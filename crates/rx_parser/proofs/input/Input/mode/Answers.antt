use Rattle.std.proofs.Common.{refl, sym, subst, ap, []}
use Rattle.std.specs.Str.{chars}
use Rattle.rx_parser.proofs.Common.{AsksFor, Legacy, flags_chars, input_of, no_flags, seen_input}
use Rattle.rx_parser.proofs.CommonFlags.{common_asks}
use Rattle.rx_parser.proofs.input.Input.mode.Goals as goal

pub returns-in_default-clause-asked : goal.returns-in_default-clause-asked
returns-in_default-clause-asked c =
    let it = c.args.self.now in
    subst (λ flags. AsksFor (input_of it.form it.pattern_text.now flags it.options) Legacy) (sym c.in_default.is)
    (record { flags = []; flags_are = no_flags; are_right = refl; mode_is = refl })

pub returns-in-Some-common_mode-clause-asked : goal.returns-in-Some-common_mode-clause-asked
returns-in-Some-common_mode-clause-asked c = common_asks (seen_input c.args.self.now) (chars c.in-Some.flags.now) c.in-Some-common_mode.mode (ap flags_chars c.in-Some.is) c.in-Some-common_mode.ensures
