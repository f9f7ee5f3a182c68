-- The parts of an Ok answer, which the definitions of what may be answered ask for.
use Rattle.rx_ast.specs.declared.term.Pattern.{Pattern}
use Rattle.rx_ast.specs.Forget.{bare}
use Rattle.rx_model.specs.declared.mode.Mode.{Mode}
use Rattle.rx_model.specs.Reading.Headline.{Spelled}
use Rattle.rx_model.specs.Spelling.Spelling.{spelling}
use Rattle.rx_tools.specs.declared.outcome.Canonical.{Canonical}

-- a tree with its mode, and the canonical spelling that it has
abbrev pub read_of : Pattern × Mode → Spelled
read_of it = record { pattern = it.0; mode = it.1; text = spelling (bare it.0) it.1 }

abbrev pub spelling_answer : Canonical → Spelled
spelling_answer it = record { pattern = it.pattern; mode = it.mode; text = it.text }
