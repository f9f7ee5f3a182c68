-- What a bracket holds so far, as data of the model.
use Rattle.rx_model.specs.Classes.ClassRuns as runs
use Rattle.rx_model.specs.Classes.ClassRuns.{joined, pending}
use Rattle.rx_class.specs.declared.sets.held.Held.{Held}
use Rattle.rx_class.specs.declared.sets.held.Held.TheVariants.{Empty, Single, Several, Pending, Joined}

abbrev pub mirror_held : Held → runs.Held
mirror_held Empty = runs.empty
mirror_held Single = runs.single
mirror_held Several = runs.several
mirror_held (Pending operator) = pending operator
mirror_held (Joined operator) = joined operator
