use Rattle.std.proofs.Common.{◌≢◌, sym}
use Rattle.rx_json_reply.specs.declared.field.Field.TheVariants.{Id, Pattern, Form, Flags, Offset, FlagsOffset, DuplicateNames, BufferBoundaries, StandardStrings, Want}
use Rattle.rx_json_reply.specs.Fields.{field_name}
use Rattle.rx_json_reply.proofs.Named.{no_field}
use Rattle.rx_json_reply.proofs.field.Field.from_name.Goals as goal

pub returns-in_default : goal.returns-in_default
returns-in_default c =
    let name = c.args.name.now in
    let d = c.in_default in
    sym (no_field name (λ f. elim f as (λ g. name ≢ field_name g) [
      | Id ↦ d.not-id
      | Pattern ↦ d.not-pattern
      | Form ↦ d.not-form
      | Flags ↦ d.not-flags
      | Offset ↦ d.not-offset
      | FlagsOffset ↦ d.not-flagsOffset
      | DuplicateNames ↦ d.not-duplicateNames
      | BufferBoundaries ↦ d.not-bufferBoundaries
      | StandardStrings ↦ d.not-standardStrings
      | Want ↦ d.not-want
    ]))
