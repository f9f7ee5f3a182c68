use Rattle.std.proofs.lemmas.Str.{IsCharBoundary-start}
use Rattle.std.specs.Str.{chars}
use Rattle.rx_units.specs.Units.{literal_units}
use Rattle.rx_units.proofs.CodePoints.{literal_code_points}
use Rattle.rx_units.proofs.Ends.{ends_within, literal_ends}
use Rattle.rx_units.proofs.reader.Reader+List+CodePoint.initialize.Goals as goal

pub at_start-requires-clause-start : goal.at_start-requires-clause-start
at_start-requires-clause-start c = IsCharBoundary-start c.args.source_text.now c.utf8.source_text

pub at_start-requires-clause-ends : goal.at_start-requires-clause-ends
at_start-requires-clause-ends c = rw c.in_ok-units.ensures (literal_ends c.args.source_text.now c.args.unicode_mode c.utf8.source_text)

pub at_start-requires-clause-code_points : goal.at_start-requires-clause-code_points
at_start-requires-clause-code_points c = rw c.in_ok-units.ensures (literal_code_points c.args.source_text.now c.args.unicode_mode c.utf8.source_text)

pub returns-clause-within : goal.returns-clause-within
returns-clause-within c =
    rw (c.at_start.ensures, c.in_ok-units.ensures) (ends_within c.args.source_text.now 0 (literal_units c.args.unicode_mode 0 (chars c.args.source_text.now)) (literal_ends c.args.source_text.now c.args.unicode_mode c.utf8.source_text))
