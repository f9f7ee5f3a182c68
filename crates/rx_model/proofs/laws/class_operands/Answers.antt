use Rattle.std.proofs.Common.{ap}
use Rattle.std.specs.Prelude.{◌==◌}
use Rattle.rx_model.proofs.Classes.OperandClasses.{is_made, made_is}
use Rattle.rx_model.proofs.laws.class_operands.Goals as goal

pub returns-clause-whole : goal.returns-clause-whole
returns-clause-whole c e d w rest sets = (is_made e sets d w rest, made_is e sets d w rest)

pub returns-clause-items : goal.returns-clause-items
returns-clause-items c e d w rest of = (of.row, ap (λ c. c == 93) of.brackets.closer_is)

pub returns-clause-operands : goal.returns-clause-operands
returns-clause-operands c e kind d w rest of = (of.row, ap (λ c. c == 93) of.brackets.closer_is)
