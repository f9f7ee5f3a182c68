use Rattle.std.proofs.lemmas.Slice.Eq.{bytes_eq-Decides}
use Rattle.rx_ast.specs.Kinds.{alternative}
use Rattle.rx_ast.specs.Forget.{nowhere}
use Rattle.rx_lint.specs.Numbers.{numbers}
use Rattle.rx_lint.proofs.SameBare.{equal_bare, equal_numbers}
use Rattle.rx_lint.proofs.laws.equal_numbers_are_equal_bare.Goals as goal

pub returns : goal.returns
returns c ns ms =
    let decides = bytes_eq-Decides (numbers (alternative (nowhere, ns))) (numbers (alternative (nowhere, ms))) in
    (λ same. equal_bare ns ms (decides.0 same), λ same. decides.1 (equal_numbers nowhere nowhere ns ms same))
