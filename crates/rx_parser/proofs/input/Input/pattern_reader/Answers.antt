use Rattle.std.proofs.Common.{◌≡◌, ◌∙◌, ap, sym, subst, ℕ, ◌+◌, ◌<◌, ◌^◌, length, arith, max}
use Rattle.std.specs.Str.{chars}
use Rattle.rx_parser.proofs.Common.{OutOfMemory, Form, AreUnits, first_offset, no_memory, seen_input, Literal, Constructor, stand_in_length}
use Rattle.rx_parser.proofs.Inputs.{passed_fault, text_asked, unread_text}
use Rattle.rx_parser.proofs.StandIns.{none_quoted}
use Rattle.rx_parser.proofs.input.Input.pattern_reader.Goals as goal

-- there is room for what stands in
quoted_room : (form : Form) (size offset : ℕ) → form ≡ Constructor → offset + max size (stand_in_length form) < 2 ^ 32 → offset + 6 < 2 ^ 32
quoted_room Literal size offset e room = absurd (let no : ⊥ = cc e in no)
quoted_room Constructor size offset e room = omega (arith, room)

pub returns-in_err-own-clause-refused : goal.returns-in_err-own-clause-refused
returns-in_err-own-clause-refused c =
    let input = seen_input c.args.self.now in
    let joined = c.is_unicode-unicode_mode in
    let it = c.in_err-own.field-0.0 in
    let left = c.from_residual in
    passed_fault input left.result it left.ensures.1
    (unread_text input c.args.mode joined.result (chars c.text.result.now) it c.requires (sym joined.ensures) c.text.ensures.text c.in_err-own.ensures.refused)

pub some_reader-requires-clause-quoted : goal.some_reader-requires-clause-quoted
some_reader-requires-clause-quoted c = λ none.
    let it = c.args.self.now in
    let standard = it.options.standard_strings in
    let joined = c.is_unicode-unicode_mode.result in
    let own = c.in_ok-own in
    let units = subst (λ t. AreUnits standard joined t it.form own.own.units) c.text.ensures.text own.ensures.read.units in
    let quoted : it.form ≡ Constructor = none_quoted standard joined it.form (chars it.pattern_text.now) own.own.units units none in
    (own.ensures.read.first ∙ ap first_offset quoted, quoted_room it.form (length it.pattern_text.now) it.options.pattern_span_offset quoted it.pattern_fits)

pub returns-in_err-some_reader-clause-refused : goal.returns-in_err-some_reader-clause-refused
returns-in_err-some_reader-clause-refused c =
    let left = c.from_residual-in_err-some_reader in
    passed_fault (seen_input c.args.self.now) left.result OutOfMemory left.ensures.1 no_memory

pub returns-clause-units : goal.returns-clause-units
returns-clause-units c =
    let own = c.in_ok-own in
    let joined = c.is_unicode-unicode_mode in
    let read = c.in_ok-some_reader in
    text_asked (seen_input c.args.self.now) c.args.mode joined.result (chars c.text.result.now) own.own.units read.field-0.units c.requires (sym joined.ensures) c.text.ensures.text
    own.ensures.read.units read.ensures.units
