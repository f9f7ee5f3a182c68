use Rattle.rx_model.specs.Inputs.Texts.{first_offset}
use Rattle.rx_place_laws.specs.Ends.{HoldsInTree}
use Rattle.rx_place_laws.proofs.Nodes.{in_tree}
use Rattle.rx_place_laws.proofs.Texts.{stand_between}
use Rattle.rx_place_laws.proofs.laws.nodes_are_between_characters.Goals as goal

pub returns : goal.returns
returns c = λ input mode tree read.
    stand_between input (λ P. HoldsInTree P tree) mode read.units read.asked (λ P each start. in_tree P mode input.rules tree read.units (first_offset input.form) input.text_offset each read.spanned)
