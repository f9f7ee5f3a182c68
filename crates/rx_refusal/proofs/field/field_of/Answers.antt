use Rattle.rx_refusal.specs.declared.field.Field.TheVariants.{Flags, Pattern}
use Rattle.rx_refusal.specs.Fields.{by_name}
use Rattle.rx_refusal.proofs.Spoiling.{flags_named, named_else}
use Rattle.rx_refusal.proofs.field.field_of.Goals as goal

pub returns-in-UnknownFlag : goal.returns-in-UnknownFlag
returns-in-UnknownFlag c = by_name Flags (flags_named c.args.refusal.now c.in-UnknownFlag.is)

pub returns-in-UnknownFlag-2 : goal.returns-in-UnknownFlag-2
returns-in-UnknownFlag-2 c = by_name Flags (flags_named c.args.refusal.now c.in-UnknownFlag.is)

pub returns-in-UnknownFlag-3 : goal.returns-in-UnknownFlag-3
returns-in-UnknownFlag-3 c = by_name Flags (flags_named c.args.refusal.now c.in-UnknownFlag.is)

pub returns-in_default : goal.returns-in_default
returns-in_default c =
    let other = c.in_default in
    by_name Pattern (named_else c.args.refusal.now other.not-UnknownFlag other.not-DuplicatedFlags other.not-InvalidUnicodeFlags other.not-InvalidInput)
