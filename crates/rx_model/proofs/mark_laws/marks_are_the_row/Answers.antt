use Rattle.rx_model.proofs.FirstPass.MarkTexts.{marks_law, one_mark, places_law}
use Rattle.rx_model.proofs.mark_laws.marks_are_the_row.Goals as goal

pub returns-clause-row : goal.returns-clause-row
returns-clause-row c = marks_law

pub returns-clause-one : goal.returns-clause-one
returns-clause-one c = one_mark

pub returns-clause-places : goal.returns-clause-places
returns-clause-places c = places_law
