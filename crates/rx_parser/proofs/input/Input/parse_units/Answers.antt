use Rattle.std.proofs.Common.{◌≡◌, ◌∙◌, ap, subst, ℕ, Bool, List, Result}
use Rattle.rx_parser.proofs.Common.{Pattern, Fault, Cursor, CodePoint, mode_of_state, Mode, Rules, mode_by, first_offset, AnswersUnits, rules_of_state, seen_input}
use Rattle.rx_parser.specs.declared.pattern_parser.PatternParser.{PatternParser}
use Rattle.rx_parser.proofs.Inputs.{units_parsed}
use Rattle.rx_parser.proofs.input.Input.parse_units.Goals as goal

-- What is answered to the units of a parser is answered to what it was made of.
made_answers : {S U : Type 0} (made : PatternParser S U) (reader : Cursor) (mode : Mode) (modes rules : Bool × Bool) (first offset : ℕ) (answer : Result Pattern Fault)
    → made.reader ≡ reader → (made.state.unicode_mode, made.state.unicode_sets_mode) ≡ modes → (made.state.duplicate_names, made.buffer_boundaries) ≡ rules → made.spans ≡ offset
    → mode_by modes.0 modes.1 ≡ mode → reader.first ≡ first
    → AnswersUnits (mode_of_state made.state) (rules_of_state made.state made.buffer_boundaries) made.reader.units made.reader.first made.spans answer
    → AnswersUnits mode (record { duplicate_names = rules.0; buffer_boundaries = rules.1 }) reader.units first offset answer
made_answers made reader mode modes rules first offset answer reader_is modes_are rules_are offset_is mode_is first_is answers =
    let under : Rules = record { duplicate_names = rules.0; buffer_boundaries = rules.1 } in
    let e1 : mode_of_state made.state ≡ mode = ap (λ (m : Bool × Bool). mode_by m.0 m.1) modes_are ∙ mode_is in
    let e2 : rules_of_state made.state made.buffer_boundaries ≡ under = ap (λ (r : Bool × Bool). record { duplicate_names = r.0; buffer_boundaries = r.1 }) rules_are in
    let e3 : made.reader.units ≡ reader.units = ap (λ (r : Cursor). r.units) reader_is in
    let e4 : made.reader.first ≡ first = ap (λ (r : Cursor). r.first) reader_is ∙ first_is in
    let Parts : Type 0 = Mode × Rules × List CodePoint × ℕ × ℕ in
    let here : Parts = (mode_of_state made.state, rules_of_state made.state made.buffer_boundaries, made.reader.units, made.reader.first, made.spans) in
    let there : Parts = (mode, under, reader.units, first, offset) in
    let same : here ≡ there = cc (e1, e2, e3, e4, offset_is) in
    subst (λ (k : Parts). AnswersUnits k.0 k.1 k.2 k.3 k.4 answer) same answers

pub returns : goal.returns
returns g c =
    let input = seen_input c.args.self.now in
    let given = c.new.ensures in
    units_parsed input c.args.mode c.args.reader.units c.requires.units c.parse.result
    (made_answers c.new.result c.args.reader c.args.mode c.mode_flags.result (input.rules.duplicate_names, input.rules.buffer_boundaries) (first_offset input.form) input.text_offset c.parse.result
    given.reader given.modes given.rules given.offset c.mode_flags.ensures c.requires.first c.parse.ensures)
