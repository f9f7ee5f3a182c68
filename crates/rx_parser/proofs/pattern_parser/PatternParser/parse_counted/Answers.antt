use Rattle.std.proofs.Common.{◌≡◌, ◌+◌, ◌∙◌, refl, ap, sym, subst, ℕ, List, IfErr, IfOk, rules}
use Rattle.rx_parser.proofs.Common.{Cursor, offset_of, CodePoint, mode_of_state, Mode, Rules, Builder, HoldsPass, IsParsing, IsRefused, IsWhole, rules_of_state, AreFitting}
use Rattle.rx_parser.proofs.Endings.{parsing_begun}
use Rattle.rx_parser.proofs.Refused.{answered}
use Rattle.rx_parser.proofs.pattern_parser.PatternParser.parse_counted.Goals as goal

-- A builder that is made for a parser has its mode and its rules, and a reader that stands as the parser's has the same units.
same_given : (b : Builder) (r s : Cursor) (by mode : Mode) (under : Rules) → b.mode ≡ by → by ≡ mode → b.rules ≡ under → r ≡ s
    → ◌≡◌ {A = Mode × Rules × List CodePoint × ℕ} (b.mode, b.rules, r.units, r.first) (mode, under, s.units, s.first)
same_given b r s by mode under mode_is by_is rules_are reader_is =
    cc (mode_is ∙ by_is, rules_are, ap (λ (r : Cursor). r.units) reader_is, ap (λ (r : Cursor). r.first) reader_is)

pub returns-in_err-first_pass-clause-answer : goal.returns-in_err-first_pass-clause-answer
returns-in_err-first_pass-clause-answer g c =
    let it = c.args.self in
    let mode = mode_of_state it.state in
    let under = rules_of_state it.state it.buffer_boundaries in
    let none : IfOk c.from_residual.result (IsWhole mode under it.reader.units it.reader.first it.spans) = search rules in
    let told = c.in_err-first_pass.ensures.refused it.buffer_boundaries in
    let refused : IfErr c.from_residual.result (IsRefused mode under it.reader.units it.reader.first it.spans) = search rules in
    answered mode under it.reader.units it.reader.first it.spans c.from_residual.result none refused

pub returns-in_err-builder-clause-answer : goal.returns-in_err-builder-clause-answer
returns-in_err-builder-clause-answer g c =
    let it = c.args.self in
    let mode = mode_of_state it.state in
    let under = rules_of_state it.state it.buffer_boundaries in
    let left = c.from_residual-in_err-builder in
    let none : IfOk left.result (IsWhole mode under it.reader.units it.reader.first it.spans) = search rules in
    let refused : IfErr left.result (IsRefused mode under it.reader.units it.reader.first it.spans) = search rules in
    answered mode under it.reader.units it.reader.first it.spans left.result none refused

pub read_pattern-requires-clause-under_way : goal.read_pattern-requires-clause-under_way
read_pattern-requires-clause-under_way g c =
    let it = c.args.self in
    let r = c.first_pass.new.reader in
    let b = c.in_ok-builder.builder in
    let made = c.in_ok-builder.ensures in
    let reader_is = c.first_pass.ensures.reader in
    let place : r.place ≡ 0 = ap (λ (r : Cursor). r.place) reader_is ∙ c.requires.start in
    let same = same_given b r it.reader c.mode-mode.result (mode_of_state it.state) (rules_of_state it.state it.buffer_boundaries) made.mode c.mode-mode.ensures made.rules reader_is in
    record {
      parsing = subst (IsParsing b.mode b.rules r.units r.first it.spans b) (sym place)
          (parsing_begun r.units r.first it.spans c.here-start.result b (c.here-start.ensures ∙ ap (λ k. offset_of (record r { place = k }) + it.spans) place) made.events made.openers made.ready made.good refl refl);
      fits = subst (AreFitting it.spans) (sym reader_is) (record { first = c.requires.first; ends = c.requires.fits });
      pass = subst (λ (k : Mode × Rules × List CodePoint × ℕ). HoldsPass k.0 k.1 k.2 c.first_pass.new.state) (sym same) (c.in_ok-first_pass.ensures.pass it.buffer_boundaries);
    }

pub returns-clause-answer : goal.returns-clause-answer
returns-clause-answer g c =
    let it = c.args.self in
    let mode = mode_of_state it.state in
    let under = rules_of_state it.state it.buffer_boundaries in
    let made = c.in_ok-builder.ensures in
    let answer = c.read_pattern.result in
    let same = same_given c.in_ok-builder.builder c.first_pass.new.reader it.reader c.mode-mode.result mode under made.mode c.mode-mode.ensures made.rules c.first_pass.ensures.reader in
    answered mode under it.reader.units it.reader.first it.spans answer
    (subst (λ (k : Mode × Rules × List CodePoint × ℕ). IfOk answer (IsWhole k.0 k.1 k.2 k.3 it.spans)) same c.read_pattern.ensures.whole)
    (subst (λ (k : Mode × Rules × List CodePoint × ℕ). IfErr answer (IsRefused k.0 k.1 k.2 k.3 it.spans)) same c.read_pattern.ensures.refused)
