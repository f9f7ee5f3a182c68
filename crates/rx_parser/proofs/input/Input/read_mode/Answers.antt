use Rattle.std.proofs.Common.{◌≡◌, ap, sym, subst, true}
use Rattle.std.specs.Str.{chars}
use Rattle.rx_parser.proofs.Common.{Diagnostic, Cursor, values, first_offset, seen_input, flags_ok, modes_of, AsksFor, IsFlagCause, flags_chars}
use Rattle.rx_parser.proofs.Inputs.{passed_fault, right_flags, unread_flags, wrong_flags}
use Rattle.rx_parser.proofs.input.Input.read_mode.Goals as goal

pub returns-in_err-reader-clause-refused : goal.returns-in_err-reader-clause-refused
returns-in_err-reader-clause-refused c =
    let input = seen_input c.args.self.now in
    let it = c.in_err-reader.field-0.0 in
    passed_fault input c.from_residual.result it c.from_residual.ensures.1
    (unread_flags input (chars c.args.flags.now) it (ap flags_chars c.requires) c.in_err-reader.ensures.refused)

pub returns-in_err-modes-clause-refused : goal.returns-in_err-modes-clause-refused
returns-in_err-modes-clause-refused c =
    let input = seen_input c.args.self.now in
    let made = c.new.result in
    let given = c.new.ensures in
    let read = c.in_ok-reader.ensures.read in
    let units = c.in_ok-reader.reader.units in
    let cause = c.in_err-modes.field-0.0 in
    let left = c.from_residual-in_err-modes in
    let refused : IsFlagCause units (first_offset input.form) input.flags_offset cause =
    subst (λ first. IsFlagCause units first input.flags_offset cause) read.first
    (subst (λ (r : Cursor). IsFlagCause r.units r.first input.flags_offset cause) given.reader
    (subst (λ n. IsFlagCause made.reader.units made.reader.first n cause) given.offset c.in_err-modes.ensures.refused)) in
    passed_fault input left.result (Diagnostic cause) left.ensures.1
    (wrong_flags input (chars c.args.flags.now) units cause (ap flags_chars c.requires) read.units refused)

pub returns-clause-asked : goal.returns-clause-asked
returns-clause-asked c =
    let input = seen_input c.args.self.now in
    let reader = c.in_ok-reader.reader in
    let told = c.in_ok-modes.ensures in
    let modes = c.in_ok-modes.modes in
    subst (AsksFor input) (sym c.of.ensures)
    (right_flags input (chars c.args.flags.now) reader.units modes (ap flags_chars c.requires) c.in_ok-reader.ensures.read.units
    (subst (λ (r : Cursor). flags_ok (values r.units) ≡ true) c.new.ensures.reader told.passed)
    (subst (λ (r : Cursor). modes ≡ modes_of (values r.units)) c.new.ensures.reader told.modes))
