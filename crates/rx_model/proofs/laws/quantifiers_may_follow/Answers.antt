use Rattle.std.proofs.Common.{refl, true}
use Rattle.rx_model.proofs.Trees.OpenGroups.{accepted_whole, ready_following}
use Rattle.rx_model.proofs.laws.quantifiers_may_follow.Goals as goal

pub returns-clause-sound : goal.returns-clause-sound
returns-clause-sound c mode ts open_groups e = (accepted_whole mode ts open_groups true e).ends refl

pub returns-clause-whole : goal.returns-clause-whole
returns-clause-whole c = ready_following
