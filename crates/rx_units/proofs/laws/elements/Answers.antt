use Rattle.std.proofs.Common.{[], refl}
use Rattle.rx_units.proofs.Quoted.Rows.{elements_of, of_elements}
use Rattle.rx_units.proofs.laws.elements.Goals as goal

pub returns : goal.returns
returns c = record {
  decoded = λ l o text us. (
    λ it. let found = elements_of l o text us it in (found.0, found.1, found.2, ([], refl), found.3, found.4, found.5),
    λ found. of_elements l o text us (found.0, found.1, found.2, found.4, found.5, found.6),
  );
}
