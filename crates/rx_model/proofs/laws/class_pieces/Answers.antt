use Rattle.std.proofs.Common.{ap, inl}
use Rattle.std.specs.Prelude.{◌==◌}
use Rattle.rx_model.proofs.Classes.PieceClasses.{is_class, is_of_pieces}
use Rattle.rx_model.proofs.laws.class_pieces.Goals as goal

pub returns-clause-whole : goal.returns-clause-whole
returns-clause-whole c e d w rest m = (is_of_pieces e m d w rest, is_class e m d w rest)

pub returns-clause-elements : goal.returns-clause-elements
returns-clause-elements c e d w rest of = (of.row, inl (ap (λ c. c == 93) of.brackets.closer_is))
