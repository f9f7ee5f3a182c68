use Rattle.rx_rewrite.proofs.NotLeft.{dots_left, ends_left, modifiers_left, names_left}
use Rattle.rx_rewrite.proofs.laws.what_is_asked_for_goes.Goals as goal

pub returns-clause-names : goal.returns-clause-names
returns-clause-names c = names_left

pub returns-clause-dots : goal.returns-clause-dots
returns-clause-dots c = dots_left

pub returns-clause-ends : goal.returns-clause-ends
returns-clause-ends c = ends_left

pub returns-clause-modifiers : goal.returns-clause-modifiers
returns-clause-modifiers c = modifiers_left
