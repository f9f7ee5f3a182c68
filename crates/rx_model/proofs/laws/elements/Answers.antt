use Rattle.std.proofs.Common.{subst, sym, refl, true, false, None, inl, inr}
use Rattle.rx_model.specs.Groups.GroupNames.{SpellsNameCharacter}
use Rattle.rx_units.specs.Sequences.{ElementRow}
use Rattle.rx_model.proofs.Classes.ClassEnds.{class_ends}
use Rattle.rx_model.proofs.Groups.OneName.{name_row, row_name, after_character}
use Rattle.rx_model.proofs.Reading.Alternatives.{disjunction_row, of_disjunction, pattern_row, of_pattern_row}
use Rattle.rx_model.proofs.Reading.OneRow.{elements, of_elements}
use Rattle.rx_model.proofs.laws.elements.Goals as goal

pub returns-clause-tokens : goal.returns-clause-tokens
returns-clause-tokens c e ts us rest = (elements e ts us rest, of_elements e ts us rest)

pub returns-clause-class_tokens : goal.returns-clause-class_tokens
returns-clause-class_tokens c e d w rest is = (None, refl, class_ends e d w rest is)

pub returns-clause-names : goal.returns-clause-names
returns-clause-names c m name us rest = (λ s. subst (λ us. ElementRow (SpellsNameCharacter m) after_character name true us false rest) (sym s.1) (name_row m name s.0 rest s.2), row_name m name us rest)

pub returns-clause-disjunctions : goal.returns-clause-disjunctions
returns-clause-disjunctions c e all us rest ends = (disjunction_row e all us rest ends, of_disjunction e all us rest)

pub returns-clause-patterns : goal.returns-clause-patterns
returns-clause-patterns c mode rules p us = (pattern_row mode rules p us, of_pattern_row mode rules p us)

pub returns-clause-stops : goal.returns-clause-stops
returns-clause-stops c e u rest = (inl refl, λ is. inr (rw is refl))
