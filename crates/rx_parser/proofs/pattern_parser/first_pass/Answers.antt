use Rattle.std.proofs.Common.{◌≡◌, ℕ, ◌+◌, ◌^◌, ◌-◌, ◌<◌, ◌≤◌, ap, sym, ◌∙◌, subst, arith, rules}
use Rattle.rx_parser.proofs.Common.{Diagnostic, DuplicatedCapturingGroupNames, TooMayCapturingGroups, Cursor, values, Mode, duplicated_names, name_span, of_groups, name_places, IsStateFault, mode_of_state, name_offsets, offset_fits, IsRefused, rules_of_state, AreFitting}
use Rattle.rx_parser.proofs.Passes.{holds_pass, many_refused, shifted}
use Rattle.rx_parser.proofs.Turns.{empty_at}
use Rattle.rx_parser.proofs.pattern_parser.first_pass.Goals as goal

-- the offsets around a name fit
name_fits : (mode : Mode) (added : ℕ) (r : Cursor) → AreFitting added r → (k : ℕ) (span : ℕ × ℕ) → span ≡ name_offsets mode r k → (span.0 + added < 2 ^ 32) × (span.1 + added < 2 ^ 32)
name_fits mode added r f k span e =
    let places = name_places mode (values r.units) k in
    subst (λ span. (span.0 + added < 2 ^ 32) × (span.1 + added < 2 ^ 32)) (sym e) (offset_fits added r.first r.units places.0 f.first f.ends, offset_fits added r.first r.units places.1 f.first f.ends)

pub create-requires : goal.create-requires
create-requires g c =
    let told = subst (IsStateFault (mode_of_state c.args.state.now) c.args.state.now.duplicate_names c.args.reader.now) c.in-Err-Duplicated.field-0-is c.in-Err-Duplicated.ensures.counted.refused in
    let fits = name_fits (mode_of_state c.args.state.now) c.args.spans.now c.args.reader.now c.requires.fits told.0 c.in-Err-Duplicated.first told.3 in
    record { start = fits.0; end = fits.1 }

pub create-requires-in-Err-Duplicated : goal.create-requires-in-Err-Duplicated
create-requires-in-Err-Duplicated g c =
    let told = subst (IsStateFault (mode_of_state c.args.state.now) c.args.state.now.duplicate_names c.args.reader.now) c.in-Err-Duplicated.field-0-is c.in-Err-Duplicated.ensures.counted.refused in
    let fits = name_fits (mode_of_state c.args.state.now) c.args.spans.now c.args.reader.now c.requires.fits told.1 c.in-Err-Duplicated.second told.4 in
    record { start = fits.0; end = fits.1 }

pub returns-in-Ok-clause-pass : goal.returns-in-Ok-clause-pass
returns-in-Ok-clause-pass g c = λ buffers.
    let it = c.in-Ok.ensures.counted in
    let new = c.initialize_with_parsing_counted.new.self in
    let small : new.num_of_capturing_groups < 2 ^ 32 - 1 = search rules in
    holds_pass c.args.reader.now.units c.args.state.now buffers new it.unicode_mode it.unicode_sets_mode it.groups it.names it.apart small

pub returns-in-Ok-2-clause-refused : goal.returns-in-Ok-2-clause-refused
returns-in-Ok-2-clause-refused g c = λ buffers.
    let r = c.args.reader.now in
    let state = c.args.state.now in
    let it = c.in-Ok.ensures.counted in
    let groups = c.initialize_with_parsing_counted.new.self.num_of_capturing_groups in
    let added = c.args.spans.now in
    let none : 0 + added ≡ added = omega arith in
    let large : 2 ^ 32 - 1 ≤ groups = search rules in
    subst (λ s. IsRefused (mode_of_state state) (rules_of_state state buffers) r.units r.first added (Diagnostic (TooMayCapturingGroups s))) (sym (c.create-span.ensures ∙ ap empty_at none))
    (many_refused r.units state buffers r.first added groups it.apart it.groups large)

pub returns-in-Err-Duplicated-clause-refused : goal.returns-in-Err-Duplicated-clause-refused
returns-in-Err-Duplicated-clause-refused g c = λ buffers.
    let r = c.args.reader.now in
    let state = c.args.state.now in
    let mode = mode_of_state state in
    let added = c.args.spans.now in
    let told = subst (IsStateFault mode state.duplicate_names r) c.in-Err-Duplicated.field-0-is c.in-Err-Duplicated.ensures.counted.refused in
    subst (λ s. IsRefused mode (rules_of_state state buffers) r.units r.first added (Diagnostic (DuplicatedCapturingGroupNames s c.create-in-Err-Duplicated.result))) (sym (c.create.ensures ∙ ap (shifted added) told.3))
    (subst (λ s. IsRefused mode (rules_of_state state buffers) r.units r.first added (Diagnostic (DuplicatedCapturingGroupNames (name_span mode r.units r.first added told.0) s))) (sym (c.create-in-Err-Duplicated.ensures ∙ ap (shifted added) told.4))
    (of_groups (duplicated_names told.0 told.1 told.2) (λ none few. none told.0 told.1 told.2.clash)))
