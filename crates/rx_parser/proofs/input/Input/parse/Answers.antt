use Rattle.std.proofs.Common.{◌≡◌, ◌∙◌, ap, sym, subst, arith}
use Rattle.rx_class.proofs.TextFits.{made_are_fitting}
use Rattle.rx_model.proofs.Inputs.Asked.{literal_asks}
use Rattle.rx_parser.proofs.Common.{Cursor, literal_units, Literal, is_unicode, first_offset, stand_in, Asks, seen_input}
use Rattle.rx_parser.proofs.Inputs.{passed_parsed}
use Rattle.rx_parser.proofs.input.Input.parse.Goals.{in-Literal, in_default}
use Rattle.rx_parser.proofs.input.Input.parse.Goals as goal

pub returns-in_err-mode-clause-answered : goal.returns-in_err-mode-clause-answered
returns-in_err-mode-clause-answered c =
    let left = c.from_residual in
    passed_parsed (seen_input c.args.self.now) left.result c.in_err-mode.field-0.0 left.ensures.1 c.in_err-mode.ensures.refused

pub returns-in_err-reader-clause-answered : goal.returns-in_err-reader-clause-answered
returns-in_err-reader-clause-answered c =
    let left = c.from_residual-in_err-reader in
    passed_parsed (seen_input c.args.self.now) left.result c.in_err-reader.field-0.0 left.ensures.1 c.in_err-reader.ensures.refused

-- the units of a literal in ASCII
pub parse_units-requires : goal.parse_units-requires
parse_units-requires c =
    let it = c.args.self.now in
    let input = seen_input it in
    let mode = c.in_ok-mode in
    let text = c.text-text in
    let literal : it.form ≡ Literal = elim c.match-matches.branch [ in-Literal w ↦ w.in-Literal.is | in_default w ↦ absurd (let no : ⊥ = cc (w.matches-is, c.if-matches.true) in no) ] in
    let made = c.of_ascii.ensures (is_unicode mode.mode) in
    record {
      units = subst (Asks input mode.mode) (sym (ap (λ (r : Cursor). r.units) made ∙ ap (literal_units (is_unicode mode.mode) 0) (text.ensures.text ∙ ap (λ form. stand_in form input.text) literal)))
          (literal_asks input mode.mode literal mode.ensures.asked);
      start = ap (λ (r : Cursor). r.place) made;
      first = ap (λ (r : Cursor). r.first) made ∙ ap first_offset (sym literal);
      fits = made_are_fitting (is_unicode mode.mode) text.result.now it.options.pattern_span_offset c.of_ascii.result text.utf8 (omega (arith, it.pattern_fits, text.ensures.length)) made;
    }
