use Rattle.rx_place_laws.proofs.EmptyTexts.{empty_narrow, empty_where_none, none_where_empty}
use Rattle.rx_place_laws.proofs.laws.empty_texts_have_no_units.Goals as goal

pub returns-clause-empty : goal.returns-clause-empty
returns-clause-empty c = λ standard joined text form. (λ are. empty_where_none standard joined text form are, λ it. none_where_empty standard joined text form it)

pub returns-clause-characters : goal.returns-clause-characters
returns-clause-characters c = λ standard text form it. empty_narrow standard text form it
