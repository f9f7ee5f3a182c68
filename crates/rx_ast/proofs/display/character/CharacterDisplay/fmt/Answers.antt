use Rattle.std.proofs.Common.{ap, sym, ◌∙◌}
use Rattle.std.specs.Char.{encode_utf8}
use Rattle.rx_ast.specs.Shown.{kind_shown}
use Rattle.rx_ast.proofs.Characters.{shown_as_null, shown_by_kind, shown_by_number}
use Rattle.rx_ast.proofs.FormatterWrites.{same_shown}
use Rattle.rx_ast.proofs.display.character.CharacterDisplay.fmt.Goals as goal

pub returns-in-Some-clause-writes : goal.returns-in-Some-clause-writes
returns-in-Some-clause-writes g c =
    let it = c.args.self.now in
    same_shown _ (shown_by_kind it c.in-Some.ensures.cases ∙ ap (λ v. kind_shown it.kind v) (sym c.in-Some.ensures.value.1)) c.write_by_kind.ensures

pub returns-in-None-clause-writes : goal.returns-in-None-clause-writes
returns-in-None-clause-writes g c = same_shown _ (shown_by_number c.args.self.now c.in-None.ensures.cases (sym c.shows_number.ensures ∙ c.if-shows_number.true)) c.write_unicode.ensures

pub returns-in-None-2-clause-writes : goal.returns-in-None-2-clause-writes
unfolding encode_utf8
returns-in-None-2-clause-writes g c = same_shown _ (shown_as_null c.args.self.now (sym c.shows_number.ensures ∙ c.if-shows_number.false)) c.write_str.ensures.writes
